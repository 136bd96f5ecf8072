use Rattle.std.proofs.Common.{◌≡◌, take}
use Rattle.rules.specs.Arguments.{words_in}
use Rattle.rules.specs.Memory.{apply}
use Rattle.returns.specs.Back.{back_from}
use Rattle.returns.proofs.copy_back.Given as goal

-- the first arguments are back, and their copies are the first of all
abbrev pub invariant-loop-a : goal.invariant-loop-a
invariant-loop-a l =
    record {
      copies_end : l.from ≡ words_in (take l.a-index l.arguments);
      stored : l.s ≡ apply l.old.len (back_from l.copies l.old.ring.0 0 (take l.a-index l.arguments)) l.initial.s;
    }
