use Rattle.std.proofs.Common.{◌∙◌, arith, refl}
use mathlib.Core.Bool.{and_assoc}
use Rattle.rules.specs.Record.{entry_is_zero}
use Rattle.record.proofs.Walks.{four_zero}
use Rattle.record.proofs.entry_is_zero.Goals as goal

pub returns : goal.returns
unfolding entry_is_zero
returns c =
    let h = rw c.zero_entry.ensures at c.eq.ensures in
    h ∙ rw (four_zero c.args.e.arguments (grind arith)) (simp and_assoc refl)
