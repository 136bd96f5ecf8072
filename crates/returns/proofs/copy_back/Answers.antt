use Rattle.std.proofs.Common.{refl, arith}
use Rattle.rules.specs.Memory.{apply}
use Rattle.rules.specs.Record.{zero_argument}
use Rattle.rules.proofs.Arguments.{words_turn}
use Rattle.returns.specs.Back.{back_from}
use Rattle.returns.proofs.Laws.{back_turn}
use Rattle.returns.proofs.copy_back.Goals as goal

pub loop-a-init : goal.loop-a-init
unfolding back_from apply
loop-a-init c = record { copies_end = refl; stored = refl }

pub loop-a-preserved : goal.loop-a-preserved
loop-a-preserved c =
    let v = c.loop-a.invariant in
    let l = c.args.arguments.now in
    let i = c.loop-a.a-index in
    record {
      copies_end = rw (words_turn l i zero_argument c.loop-a-test.true, ← v.copies_end);
      stored = back_turn l i _ _ _ _ _ _ _ _ c.loop-a-test.true (omega arith) v.copies_end v.stored c.back_one.ensures;
    }
