use Rattle.std.proofs.Common.{◌∙◌, ◌≡◌, ◌+◌, length, get_or, arith}
use borrow.Author.Tests.{lt-ltb, le-ltb}
use lib.Dec.{ltb}
use Rattle.rules.specs.Tests.{pick}
use Rattle.desk.proofs.Laws.{few, number_turn, line_done}
use Rattle.desk.proofs.put_numbers.Goals as goal
use Rattle.desk.proofs.put_numbers.Goals.{then-i-numbers, else-i-numbers}

pub overflow_add-here : goal.overflow_add-here
overflow_add-here c = omega (arith, few (get_or c.args.numbers.now c.loop-i.i 0))

pub loop-i-preserved : goal.loop-i-preserved
loop-i-preserved c =
    let a : c.if-i-numbers.after ≡ pick (ltb (c.loop-i.i + 1) (length c.args.numbers.now)) 32 10 =
    elim c.if-i-numbers.branch [ then-i-numbers w ↦ rw (lt-ltb _ _ w.if-i-numbers.true) w.after-is | else-i-numbers w ↦ rw (le-ltb _ _ w.if-i-numbers.false) w.after-is ] in
    let d = number_turn c.loop-i.out _ _ c.args.numbers.now c.loop-i.i _ _ _ c.loop-i-test.true c.put_number-next.ensures.value c.put_number-next.ensures.out_after a c.put.ensures in
    record {
      here_bound = omega (arith, few (get_or c.args.numbers.now c.loop-i.i 0));
      place = d.0 ∙ c.loop-i.invariant.place;
      room = d.1 ∙ c.loop-i.invariant.room;
    }

pub returns : goal.returns
returns c =
    let d = line_done _ _ c.args.numbers.now _ _ _ c.loop-i-test.false c.loop-i.invariant.place c.loop-i.invariant.room in
    record { value = d.0; out_after = d.1 }
