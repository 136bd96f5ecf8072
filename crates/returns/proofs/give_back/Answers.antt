use Rattle.std.proofs.Common.{◌≡◌, sym, ◌∙◌}
use Rattle.rules.specs.Return.{return_verdict}
use Rattle.rules.proofs.Refusals.{kept}
use Rattle.returns.proofs.Laws.{judges, ready}
use Rattle.returns.proofs.give_back.Goals as goal
use Rattle.returns.proofs.give_back.Goals.{After-judge_return-v}

-- the verdict is the one on a return
verdict : (c : After-judge_return-v) → c.judge_return-v.result ≡ return_verdict 63 c.args.file.now c.args.s.now c.args.p c.args.q
verdict c =
    judges _ _ _ _ _ _ _ _ _ c.stack_length-len.ensures c.file_sound-listed.ensures c.process_sound-sound.ensures
    c.newest_entry-e.ensures c.judge_return-v.ensures

pub returns-in_default : goal.returns-in_default
returns-in_default c =
    let judged = (goal.at.returns-in_default c).After-judge_return-v in
    let h = kept _ _ _ _ _ _ (verdict judged) c.in_default.is c.unchanged.ensures in
    record { value = h.0; s_after = h.1 }

pub set_back-requires : goal.set_back-requires
set_back-requires c =
    let judged = (goal.at.set_back-requires c).After-judge_return-v in
    rw c.newest_entry-e.ensures (ready _ _ _ _ (sym (verdict judged) ∙ c.in-Ok.is))

pub returns : goal.returns
returns c =
    let accepted = sym (verdict (goal.at.returns c).After-judge_return-v) ∙ c.in-Ok.is in
    let length = c.stack_length-len.ensures in
    let entry = c.newest_entry-e.ensures in
    record {
      value = rw (accepted, c.strike_newest-process.ensures, c.answer_of-answer.ensures, entry);
      s_after = rw accepted (rw (length, entry) at c.set_back.ensures);
    }
