-- How document 01's rules are put together: choices, lists of tests, runs of tests, refusals in their order. Assumes nothing.
use Rattle.std.specs.Prelude.{Bool, true, false, ◌&&◌, ◌||◌, List, [], ◌∷◌, ℕ, zero, suc, ◌+◌, Result, Ok, Err, ⊤}

abbrev pub pick : {A : Type 0} → Bool → A → A → A
pick true a b = a
pick false a b = b

-- all of a list of tests hold: (a && b) && c, as code writes a & b & c
abbrev pub conj_on : Bool → List Bool → Bool
conj_on a [] = a
conj_on a (b ∷ l) = conj_on (a && b) l

abbrev pub conj : List Bool → Bool
conj [] = true
conj (a ∷ l) = conj_on a l

-- the test p passes at each of the d places i, i + 1, ..
unfoldable pub all_from : (ℕ → Bool) → ℕ → ℕ → Bool
all_from p i zero = true
all_from p i (suc d) = p i && all_from p (i + 1) d

-- the test p passes at one of the d places i, i + 1, ..
unfoldable pub any_from : (ℕ → Bool) → ℕ → ℕ → Bool
any_from p i zero = false
any_from p i (suc d) = p i || any_from p (i + 1) d

-- the test p passes at each place below n
unfoldable pub all_below : (ℕ → Bool) → ℕ → Bool
all_below p zero = true
all_below p (suc n) = all_below p n && p n

-- at how many of the places below n the test p passes
unfoldable pub how_many : (ℕ → Bool) → ℕ → ℕ
how_many p zero = zero
how_many p (suc n) = how_many p n + pick (p n) 1 0

-- a refusal, or none
abbrev pub Refusal : Type 0 → Type 0
Refusal E = Result ⊤ E

-- one refusal, where the test says so
unfoldable pub refuse_if : {E : Type 0} → Bool → E → Refusal E
refuse_if true e = Err e
refuse_if false e = Ok tt

-- the first refusal of a list, in its order, or the answer where there is none
abbrev pub first : {A E : Type 0} → List (Refusal E) → A → Result A E
first [] answer = Ok answer
first (Ok _ ∷ ts) answer = first ts answer
first (Err e ∷ ts) answer = Err e
