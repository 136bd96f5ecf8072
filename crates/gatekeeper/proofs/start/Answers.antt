use Rattle.std.proofs.Common.{◌≡◌, sym, ◌∙◌, rules, replicate, length}
use Rattle.rules.specs.Memory.{stack_length}
use Rattle.rules.specs.Step.{judged_start, outcome, memory_after}
use Rattle.rules.proofs.Memory.{then}
use Rattle.rules.proofs.Refusals.{kept}
use Rattle.gatekeeper.proofs.start.Goals as goal
use Rattle.gatekeeper.proofs.start.Goals.{After-judge_start-v}

-- the verdict is the one on a start
verdict : (c : After-judge_start-v) → c.judge_start-v.result ≡ judged_start 63 (stack_length c.args.s.now) c.args.ring
verdict c = rw c.stack_length-len.ensures at c.judge_start-v.ensures

pub returns-in_default : goal.returns-in_default
unfolding outcome memory_after
returns-in_default c =
    let judged = (goal.at.returns-in_default c).After-judge_start-v in
    let h = kept _ _ _ _ _ _ (verdict judged) c.in_default.is c.unchanged.ensures in
    record { value = h.0; s_after = h.1 }

pub returns : goal.returns
unfolding outcome memory_after
returns c =
    let accepted = sym (verdict (goal.at.returns c).After-judge_start-v) ∙ c.in-Ok.is in
    let zeros : c.fill.new.self ≡ replicate (length c.args.s.now) 0 = search rules in
    record {
      value = rw (accepted, c.start_record.ensures, c.places.ensures);
      s_after = rw accepted (rw c.stack_length-len.ensures at (then _ _ _ _ _ _ (rw zeros at c.make.ensures) c.store_word.ensures));
    }
