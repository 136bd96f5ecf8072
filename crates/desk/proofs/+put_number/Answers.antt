use Rattle.std.proofs.Common.{◌∙◌, ◌≡◌, ◌+◌, ◌/◌, length, arith}
use native.Mathlib.Nat.{add-zero}
use borrow.Author.Tests.{lt-ltb, le-ltb}
use Rattle.desk.specs.Lines.{written}
use Rattle.desk.proofs.Laws.{few, before_last, digit_turn}
use Rattle.desk.proofs.+put_number.Goals as goal
use Rattle.desk.proofs.+put_number.Goals.{then-n-lt10, else-n-lt10}

pub overflow_add-result : goal.overflow_add-result
overflow_add-result t c = elim c.if-n-lt10.branch [ then-n-lt10 w ↦ omega (arith, w.next-is) | else-n-lt10 w ↦ omega (arith, w.next-is, few (c.args.n / 10)) ]

pub returns : goal.returns
unfolding written
returns t c =
    let next : c.if-n-lt10.next ≡ c.args.at + length (before_last c.args.n) =
    elim c.if-n-lt10.branch [ then-n-lt10 w ↦ rw (lt-ltb _ _ w.if-n-lt10.true, add-zero) w.next-is | else-n-lt10 w ↦ rw (le-ltb _ _ w.if-n-lt10.false) (w.next-is ∙ w.put_number-next.ensures.value) ] in
    let front : c.if-n-lt10.out ≡ written c.args.out.now c.args.at (before_last c.args.n) =
    elim c.if-n-lt10.branch [ then-n-lt10 w ↦ rw (lt-ltb _ _ w.if-n-lt10.true) w.out-is | else-n-lt10 w ↦ rw (le-ltb _ _ w.if-n-lt10.false) (w.out-is ∙ w.put_number-next.ensures.out_after) ] in
    let d = digit_turn c.args.out.now _ _ c.args.at _ _ c.ranges.n.fits next front c.put.ensures in
    record { value = d.0; out_after = d.1 }
