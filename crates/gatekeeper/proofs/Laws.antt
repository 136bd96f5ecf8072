-- Laws of the look: what is accepted lies inside the lent store, and is handed back. Assumes nothing.
use mathlib.Core.Path.{◌≡◌}
use mathlib.Core.Bool.{true}
use mathlib.Core.List.{List, []}
use Prim.Native.Nat.{ℕ, ◌+◌}
use native.Mathlib.Nat.{suc-mul, mul-le-mul_right}
use native.Mathlib.Omega.{arith}
use lib.Dec.{leb}
use lib.ListN.{length}
use denote.Ref.{Bor}
use borrow.Author.Tests.{le-leb}
use Rattle.rules.specs.declared.Ring.{Ring}
use Rattle.rules.specs.declared.Process.{Process}
use Rattle.std.specs.Prelude.{Ok}
use Rattle.rules.specs.Memory.{spot, stack_length}
use Rattle.rules.specs.Record.{process_sound}
use Rattle.rules.specs.Look.{IsPart, part_start, part_length}
use Rattle.rules.specs.Step.{reach_verdict}
use Rattle.rules.proofs.Memory.{length_told}
use Rattle.rules.proofs.Verdicts.{reach_facts}
use Rattle.gatekeeper.specs.Entries.{state, look_start, look_length}

reached : (m : List ℕ) (p : Process) (k : Ring) (at room : ℕ) → reach_verdict 63 [] (state m p) k at room ≡ Ok tt
    → leb (spot (stack_length m) k.0 at + room) (length m) ≡ true
unfolding reach_verdict
reached m p k at room accepted =
    let L = stack_length m in
    let j = reach_facts 63 L (process_sound 63 L p) p.ring k at room accepted in
    let whole = length_told m j.some in
    le-leb (spot L k.0 at + room) (length m) (omega (arith, suc-mul k.0 L, mul-le-mul_right {m = k.0 + 1} {n = 64} L (omega arith)))

pub looked : (s r : Bor (List ℕ)) (p : Process) (k : Ring) (at L : ℕ) → L ≡ stack_length s.now
    → reach_verdict 63 [] (state s.now p) k at 32 ≡ Ok tt
    → IsPart s r (part_start s.now (spot L k.0 at)) (part_length s.now (spot L k.0 at))
    → IsPart s r (look_start s.now p k at) (look_length s.now p k at)
looked s r p k at L long accepted part = rw accepted (rw (long, reached s.now p k at 32 accepted) at part)
