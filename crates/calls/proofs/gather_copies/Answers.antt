use Rattle.std.proofs.Common.{refl, arith, ◌∙◌}
use Rattle.rules.specs.Arguments.{copies_of}
use Rattle.rules.proofs.Arguments.{next_fits}
use Rattle.calls.proofs.Laws.{copies_turn}
use Rattle.calls.proofs.gather_copies.Goals as goal

pub loop-g-init : goal.loop-g-init
unfolding copies_of
loop-g-init c = record { long = refl; place = refl; copied = refl }

pub loop-g-preserved : goal.loop-g-preserved
loop-g-preserved c =
    let v = c.loop-g.invariant in
    let l = c.args.arguments.now in
    let i = c.loop-g.g-index in
    let fits = next_fits l i c.loop-g-test.true in
    let h = copies_turn l i c.loop-g-test.true _ _ _ _ _ _ c.gather-words.result _ (omega (arith, fits)) (omega (arith, fits, v.place, v.long)) v.place (omega arith) v.copied c.gather-words.ensures c.copy_from_slice.ensures.after in
    record { long = h.0 ∙ v.long; place = h.1; copied = h.2 }
