-- Document 01, "Marked bracket cases": the eleven as one table under one claim. "Execute on, gate hit, fault fitting."
-- Assumes nothing.
use mathlib.Core.Path.{◌≡◌, refl}
use mathlib.Core.Bool.{true}
use mathlib.Core.List.{List, [], ◌∷◌, map}
use Prim.Native.Nat.{ℕ}
use Rattle.rules.specs.declared.Ring.{Ring}
use Rattle.rules.specs.declared.Segment.{Segment}
use Rattle.rules.specs.Bracket.{Decision, goes_out, fault_of, decision_of}
use Rattle.rules.specs.Answer.{decision_number, decision_reason}
use Rattle.std.specs.Prelude.{Ok, Err}
use Rattle.rules.specs.declared.Barred.{Barred}
use Rattle.rules.specs.declared.Barred.TheVariants.{AboveR3, NoCrossing, FromRing0}
use Rattle.rules.specs.Tests.{refuse_if}

-- a decision, and the document's number and reason for it, 0 and 0 where a ring is entered
pub record Told : Type 0 where
  pub decision : Decision
  pub number : ℕ
  pub reason : ℕ

abbrev told : Decision → Told
told d = record { decision = d; number = decision_number d; reason = decision_reason d }

-- a segment's brackets, the caller's ring, and the document's answer
pub record Case : Type 0 where
  pub segment : Segment
  pub caller : Ring
  pub answer : Told

abbrev ring : ℕ → Ring
ring k = record { 0 = k }

-- what the document's answers say: a ring that is entered, and a reason by its number, which the code has a name for
abbrev enters : ℕ → Told
enters k = record { decision = Ok (ring k); number = 0; reason = 0 }

abbrev reason : ℕ → Barred → Told
reason n b = record { decision = Err b; number = 3; reason = n }

-- (r1,r2,r3) with execute on, from ring r
abbrev from : ℕ → ℕ → ℕ → ℕ → Told → Case
from r1 r2 r3 r d =
    record { segment = record { at = 0; r1 = ring r1; r2 = ring r2; r3 = ring r3; mode = 4 }; caller = ring r; answer = d }

-- the decision at a gate, with the fault that fits
pub decided : Case → Told
decided c = told (decision_of c.caller (fault_of (goes_out c.caller c.segment)) 0 c.segment true)

pub cases : List Case
cases =
    from 0 63 63 40 (reason 4 NoCrossing)
    ∷ from 0 1 63 1 (reason 4 NoCrossing)
    ∷ from 0 1 63 2 (enters 1)
    ∷ from 1 1 63 33 (enters 1)
    ∷ from 1 1 63 0 (reason 6 FromRing0)
    ∷ from 0 0 1 1 (enters 0)
    ∷ from 0 0 1 2 (reason 3 AboveR3)
    ∷ from 32 33 35 31 (enters 32)
    ∷ from 32 33 35 33 (reason 4 NoCrossing)
    ∷ from 32 33 35 35 (enters 33)
    ∷ from 32 33 35 36 (reason 3 AboveR3)
    ∷ []

pub marked : map decided cases ≡ map (λ c. c.answer) cases
unfolding decided cases decision_of refuse_if
marked = refl
