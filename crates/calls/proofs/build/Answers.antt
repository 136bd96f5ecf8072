use Rattle.std.proofs.Common.{rules, arith, sym, length, ◌≡◌}
use lib.Seq.{length-take-le}
use Rattle.calls.proofs.Built.{built}
use Rattle.calls.proofs.build.Goals as goal

pub returns : goal.returns
returns c =
    built _ _ _ _ _ _ _ _ _ _ c.gather-caller.result c.gather-list.result c.copies-copied.result _ _
    c.in-Ok.is c.requires.few c.gather-caller.ensures c.gather-list.ensures c.copies-copied.ensures c.enter.ensures
    (rw c.larger.ensures at c.larger-level.ensures) c.next_serial.ensures c.build_base.ensures

pub slice_bounds-caller-end-2 : goal.slice_bounds-caller-end-2
slice_bounds-caller-end-2 c =
    let long : length c.gather-caller.result ≡ 64 = search rules in
    sym (length-take-le 32 c.gather-caller.result (omega arith))
