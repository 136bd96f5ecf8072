use Rattle.std.proofs.Common.{arith}
use Rattle.rules.specs.Call.{call_next}
use Rattle.calls.proofs.accept.Goals as goal

pub answer_of-answer-requires : goal.answer_of-answer-requires
answer_of-answer-requires c = omega (arith, c.requires.fits)

pub returns : goal.returns
unfolding call_next
returns c =
    record {
      value = rw (c.add_entry-process.ensures, c.entry_of-e.ensures, c.entered_ring.ensures, c.answer_of-answer.ensures);
      s_after = c.build.ensures;
    }
