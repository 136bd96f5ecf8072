-- From an entry's equations to the run that its step extends. Assumes nothing.
use mathlib.Core.Path.{◌≡◌, refl, sym, ap₂, subst}
use mathlib.Core.List.{List, [], ◌∷◌}
use Prim.Native.Nat.{ℕ}
use Rattle.rules.specs.declared.Ring.{Ring}
use Rattle.rules.specs.declared.Process.{Process}
use Rattle.rules.specs.declared.Outcome.{Outcome}
use Rattle.std.specs.Prelude.{Ok, Err}
use Rattle.rules.specs.Memory.{apply}
use Rattle.rules.specs.Answer.{Verdict, memory_by}
use Rattle.rules.specs.Step.{Event, starts, looks, State, verdict, outcome, memory_after, step}
use Rattle.rules.specs.History.{Run, begun, then}
use Rattle.gatekeeper.specs.Entries.{state}
use Rattle.tie.specs.Extends.{Extends}

-- the store and the record that the equations give are those of the step
reached : (f m : List ℕ) (p : Process) (e : Event) (n : List ℕ) (o : Outcome) → n ≡ memory_after 63 f (state m p) e → o ≡ outcome 63 f (state m p) e
    → step 63 f (state m p) e ≡ state n o.process
reached f m p e n o en eo = ap₂ (λ (x : List ℕ) (y : Outcome). state x y.process) (sym en) (sym eo)

pub extended : (f m : List ℕ) (p : Process) (e : Event) (n : List ℕ) (o : Outcome) → n ≡ memory_after 63 f (state m p) e → o ≡ outcome 63 f (state m p) e
    → Extends f m p e n o.process
extended f m p e n o en eo r h run b =
    subst (λ (t : State). Run 63 f r t (record { before = state m p; event = e; verdict = verdict 63 f (state m p) e } ∷ h)) (reached f m p e n o en eo) (then run e b)

pub began : (f m : List ℕ) (p : Process) (r : Ring) (n : List ℕ) (o : Outcome) → n ≡ memory_after 63 f (state m p) (starts r)
    → o ≡ outcome 63 f (state m p) (starts r) → verdict 63 f (state m p) (starts r) ≡ Ok tt → Run 63 f r (state n o.process) []
began f m p r n o en eo v = subst (λ (t : State). Run 63 f r t []) (reached f m p (starts r) n o en eo) (begun (state m p) v)

-- a look leaves the store as it was, accepted or refused
pub look_keeps : (f m : List ℕ) (p : Process) (k : Ring) (at : ℕ) → m ≡ memory_after 63 f (state m p) (looks k at)
unfolding memory_after apply
look_keeps f m p k at = either (verdict 63 f (state m p) (looks k at))
  where
    either : (v : Verdict) → m ≡ memory_by v m m
    either (Ok _) = refl
    either (Err r) = refl
