-- Document 01, "Brackets (003)" and the reasons for 3 of "Numbers given back", in their order. Assumes nothing.
use Rattle.std.specs.Prelude.{Bool, ◌&&◌, not, List, [], ◌∷◌, ℕ, leb, ltb, eqb, Option, Some, None, Result, Err}
use Rattle.rules.specs.declared.Ring.{Ring}
use Rattle.rules.specs.declared.Segment.{Segment}
use Rattle.rules.specs.declared.Barred.{Barred}
use Rattle.rules.specs.declared.Barred.TheVariants.{Unlisted, NotExecute, AboveR3, NoCrossing, NotAGate, FromRing0, OtherFault}
use Rattle.rules.specs.Tests.{pick, Refusal, refuse_if, first}
use Rattle.rules.specs.Segments.{executes, lookup_of, is_gate}

-- "Caller's ring r: r < r1 outward, enters r1"
abbrev pub goes_out : Ring → Segment → Bool
goes_out r s = ltb r.0 s.r1.0

-- "r1 ≤ r ≤ r2 no crossing"
abbrev pub stays : Ring → Segment → Bool
stays r s = leb s.r1.0 r.0 && leb r.0 s.r2.0

-- "r > r3 never"
abbrev pub never : Ring → Segment → Bool
never r s = ltb s.r3.0 r.0

-- outward r1, "r2 < r ≤ r3 inward, enters r2"
abbrev pub aimed : Ring → Segment → Ring
aimed r s = pick (goes_out r s) s.r1 s.r2

-- "Fault 1 is inward, fault 2 outward."
abbrev pub fault_of : Bool → ℕ
fault_of outward = pick outward 2 1

-- the ring that a call enters, or why its target is refused
abbrev pub Decision : Type 0
Decision = Result Ring Barred

-- "1 .. offset above 262143; 2 not execute; 3 above r3; 4 no crossing; 7 the fault's direction differs; 5 inward, not a gate;
-- 6 outward from ring 0"
abbrev pub reasons : Ring → ℕ → ℕ → Segment → Bool → List (Refusal Barred)
reasons r fault offset s hit =
    refuse_if (ltb 262143 offset) Unlisted
    ∷ refuse_if (not (executes s)) NotExecute
    ∷ refuse_if (never r s) AboveR3
    ∷ refuse_if (stays r s) NoCrossing
    ∷ refuse_if (not (eqb fault (fault_of (goes_out r s)))) OtherFault
    ∷ refuse_if (not (goes_out r s) && not hit) NotAGate
    ∷ refuse_if (goes_out r s && eqb r.0 0) FromRing0
    ∷ []

unfoldable pub decision_of : Ring → ℕ → ℕ → Segment → Bool → Decision
decision_of r fault offset s hit = first (reasons r fault offset s hit) (aimed r s)

-- "1 unlisted": the target of a call from ring r
abbrev pub target_in : List ℕ → Ring → ℕ → ℕ → Option Segment → Decision
target_in f r fault offset (Some s) = decision_of r fault offset s (is_gate f s.at offset)
target_in f r fault offset None = Err Unlisted

unfoldable pub target_of : List ℕ → Ring → ℕ → ℕ → ℕ → Decision
target_of f r fault x offset = target_in f r fault offset (lookup_of f x)
