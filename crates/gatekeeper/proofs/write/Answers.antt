use Rattle.std.proofs.Common.{sym, ◌∙◌}
use Rattle.rules.specs.Step.{outcome, memory_after}
use Rattle.rules.proofs.Refusals.{kept}
use Rattle.gatekeeper.proofs.write.Goals as goal

pub returns-in_default : goal.returns-in_default
unfolding outcome memory_after
returns-in_default c =
    let h = kept _ _ _ _ _ _ c.reach-v.ensures c.in_default.is c.unchanged.ensures in
    record { value = h.0; s_after = h.1 }

pub returns : goal.returns
unfolding outcome memory_after
returns c =
    let accepted = sym c.reach-v.ensures ∙ c.in-Ok.is in
    record {
      value = rw accepted (rw c.in-Ok.is at c.unchanged-2.ensures);
      s_after = rw accepted (rw c.stack_length-len.ensures at c.store_word.ensures);
    }
