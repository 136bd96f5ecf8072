use Rattle.std.proofs.Common.{refl, arith}
use Rattle.rules.specs.Memory.{puts, apply}
use Rattle.rules.specs.Record.{zero_argument}
use Rattle.rules.specs.Arguments.{pointing}
use Rattle.rules.proofs.Arguments.{words_turn}
use Rattle.calls.proofs.Laws.{point_turn}
use Rattle.calls.proofs.point_list.Goals as goal

pub loop-g-init : goal.loop-g-init
unfolding pointing puts apply
loop-g-init c = record { place = omega arith; copy = omega arith; stored = refl }

pub loop-g-preserved : goal.loop-g-preserved
loop-g-preserved c =
    let l = c.args.arguments.now in
    let i = c.loop-g.g-index in
    let v = c.loop-g.invariant in
    record {
      place = omega (arith, v.place);
      copy = rw (words_turn l i zero_argument c.loop-g-test.true) (omega (arith, v.copy));
      stored = point_turn l i c.loop-g-test.true _ _ _ _ _ _ _ _ _ _ v.place v.copy v.stored c.store_pointer.ensures c.store_pointer-in-loop-g.ensures;
    }
