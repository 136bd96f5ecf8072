-- Digests: of numbers one after the other, and of what is mixed in piece by piece. Fields: what one that is not an argument's leaves.
-- Assumes nothing.
use mathlib.Core.Path.{◌≡◌, refl}
use mathlib.Core.Bool.{false}
use mathlib.Core.List.{List, [], ◌∷◌, ◌++◌}
use Prim.Native.Nat.{ℕ, ◌<◌, ◌≤◌}
use native.Mathlib.Omega.{arith}
use lib.Dec.{eqb}
use lib.ListN.{length, get_or, set}
use Rattle.std.specs.List.{fold}
use Rattle.std.proofs.lemmas.Bool.{ne_eqb}
use Rattle.std.proofs.lemmas.List.{set-get_or}
use Rattle.rules.specs.declared.Argument.{Argument}
use Rattle.rules.specs.declared.Entry.{Entry}
use Rattle.rules.specs.Record.{zero_argument}
use Rattle.probe.specs.Digests.{mixed, digest_on, argument_numbers, ten_numbers, entry_numbers, entries_numbers}
use Rattle.probe.specs.Fields.{argument_with}

pub digest_then : (d : ℕ) (a b : List ℕ) → digest_on d (a ++ b) ≡ digest_on (digest_on d a) b
unfolding digest_on
digest_then d [] b = refl
digest_then d (x ∷ a) b = digest_then (mixed d x) a b

-- numbers mixed in one by one
pub digest_fold : (d : ℕ) (l : List ℕ) → digest_on d l ≡ fold mixed d l
unfolding digest_on
digest_fold d [] = refl
digest_fold d (x ∷ l) = digest_fold (mixed d x) l

-- the arguments of an entry, of which there are four, mixed in one by one after its ten fields
four : (d : ℕ) (l : List Argument) → length l ≡ 4
    → digest_on d
    (argument_numbers (get_or l 0 zero_argument)
    ++ argument_numbers (get_or l 1 zero_argument)
    ++ argument_numbers (get_or l 2 zero_argument)
    ++ argument_numbers (get_or l 3 zero_argument))
    ≡ fold (λ n a. digest_on n (argument_numbers a)) d l
four d (a ∷ b ∷ x ∷ y ∷ []) h = simp digest_then
four d [] h = cc
four d (a ∷ []) h = absurd (omega arith)
four d (a ∷ b ∷ []) h = absurd (omega arith)
four d (a ∷ b ∷ x ∷ []) h = absurd (omega arith)
four d (a ∷ b ∷ x ∷ y ∷ z ∷ l) h = absurd (omega arith)

pub entry_fold : (d : ℕ) (e : Entry) → length e.arguments ≡ 4
    → digest_on d (entry_numbers e) ≡ fold (λ n a. digest_on n (argument_numbers a)) (digest_on d (ten_numbers e)) e.arguments
unfolding entry_numbers
entry_fold d e h = simp digest_then (simp digest_then at (four (digest_on d (ten_numbers e)) e.arguments h))

-- entries mixed in one by one
pub entries_fold : (d : ℕ) (l : List Entry) → digest_on d (entries_numbers l) ≡ fold (λ n e. digest_on n (entry_numbers e)) d l
unfolding entries_numbers digest_on
entries_fold d [] = refl
entries_fold d (e ∷ l) = rw digest_then (entries_fold (digest_on d (entry_numbers e)) l)

-- a field that is not an argument's leaves the arguments
pub arguments_kept : (field n k : ℕ) (l : List Argument) → field < 20 → set l k (argument_with field n (get_or l k zero_argument)) ≡ l
unfolding argument_with
arguments_kept field n k l h =
    let other : (m : ℕ) → 20 ≤ m → eqb field m ≡ false = λ m b. ne_eqb field m (λ e. omega arith) in
    rw (other 20 (omega arith), other 21 (omega arith), other 22 (omega arith), other 23 (omega arith)) (set-get_or l k zero_argument)
