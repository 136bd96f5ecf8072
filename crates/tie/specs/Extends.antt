-- What it is for a call of an entry to begin a run, or to extend one by a step (rules/specs/History.antt). Assumes nothing.
use Rattle.std.specs.Prelude.{◌≡◌, false, List, [], ◌∷◌, ℕ, Ok}
use Rattle.rules.specs.declared.Ring.{Ring}
use Rattle.rules.specs.declared.Process.{Process}
use Rattle.rules.specs.Step.{Event, starts, verdict}
use Rattle.rules.specs.History.{Done, begins, Run}
use Rattle.gatekeeper.specs.Entries.{state}

-- a start at ring r, handed the store m and the record p, leaves the store n and the record o: accepted, it has begun a run, whatever
-- the segment file
abbrev pub Begins : List ℕ → Process → Ring → List ℕ → Process → Type 0
Begins m p r n o = (f : List ℕ) → verdict 63 f (state m p) (starts r) ≡ Ok tt → Run 63 f r (state n o) []

-- the step e, handed the store m and the record p, leaves the store n and the record o: a run that had reached the first has reached
-- the second, with e as its newest step
abbrev pub Extends : List ℕ → List ℕ → Process → Event → List ℕ → Process → Type 0
Extends f m p e n o =
    (r : Ring) (h : List Done) → Run 63 f r (state m p) h → begins e (verdict 63 f (state m p) e) ≡ false
    → Run 63 f r (state n o) (record { before = state m p; event = e; verdict = verdict 63 f (state m p) e } ∷ h)
