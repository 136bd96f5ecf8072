-- The segment file plays no part in a start and in a write. Assumes nothing.
use mathlib.Core.Path.{◌≡◌, refl}
use mathlib.Core.List.{List, []}
use Prim.Native.Nat.{ℕ}
use Rattle.rules.specs.declared.Ring.{Ring}
use Rattle.rules.specs.Step.{State, starts, writes, reach_verdict, outcome, memory_after}

module _ (f : List ℕ) (s : State) where
  pub start_outcome : (r : Ring) → outcome 63 [] s (starts r) ≡ outcome 63 f s (starts r)
  unfolding outcome
  start_outcome r = refl

  pub start_memory : (r : Ring) → memory_after 63 [] s (starts r) ≡ memory_after 63 f s (starts r)
  unfolding memory_after
  start_memory r = refl

  pub write_outcome : (k : Ring) (at v : ℕ) → outcome 63 [] s (writes k at v) ≡ outcome 63 f s (writes k at v)
  unfolding outcome reach_verdict
  write_outcome k at v = refl

  pub write_memory : (k : Ring) (at v : ℕ) → memory_after 63 [] s (writes k at v) ≡ memory_after 63 f s (writes k at v)
  unfolding memory_after reach_verdict
  write_memory k at v = refl
