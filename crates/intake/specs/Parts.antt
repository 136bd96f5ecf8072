-- An input that is answered part by part. Assumes nothing.
use Rattle.std.specs.Prelude.{List, [], ◌++◌, ℕ, ◌≡◌, ◌+◌, ◌-◌, ◌^◌, ◌<◌, ◌⊎◌, length, Option}
use Rattle.std.specs.Io.KnownBytes.{Consumes, Appends}

-- from one state to another, R answered k parts of an input, of n bytes each, one after the other, by the parts of a text
pub data InParts {S : Type 0} (R : S → List ℕ → List ℕ → S → Type 0) (n : ℕ) (first : S) : ℕ → List ℕ → List ℕ → S → Type 0 where
  none : InParts R n first 0 [] [] first
  more : {k : ℕ} {input text part lines : List ℕ} {before after : S} → InParts R n first k input text before → length part ≡ n → R before part lines after
      → InParts R n first (k + 1) (input ++ part) (text ++ lines) after

-- what a reader lost between two states of it is k whole parts, and they are answered by what a writer gained between two states of it,
-- where those are known
abbrev pub Whole : {S : Type 0} → (S → List ℕ → List ℕ → S → Type 0) → ℕ → ℕ → Option (List ℕ) → Option (List ℕ) → Option (List ℕ) → Option (List ℕ) → S → S → Type 0
Whole R n k left rest held holds before after =
    (input : List ℕ) × (text : List ℕ) × Consumes left rest input × Appends held holds text × InParts R n before k input text after

-- whole parts, and then a shorter one
abbrev pub Ended : {S : Type 0} → (S → List ℕ → List ℕ → S → Type 0) → ℕ → Option (List ℕ) → Option (List ℕ) → Option (List ℕ) → Option (List ℕ) → S → S → Type 0
Ended {S} R n left rest held holds before after =
    (k : ℕ) × (mid : Option (List ℕ)) × (full : Option (List ℕ)) × (between : S) × (part : List ℕ) × (lines : List ℕ)
    × Whole R n k left mid held full before between × Consumes mid rest part × Appends full holds lines × (length part < n) × R between part lines after

-- the input was answered to a part that is not whole, or as many whole parts were as no run uses up
abbrev pub InputAnswered : {S : Type 0} → (S → List ℕ → List ℕ → S → Type 0) → ℕ → Option (List ℕ) → Option (List ℕ) → Option (List ℕ) → Option (List ℕ) → S → S → Type 0
InputAnswered R n left rest held holds before after =
    Ended R n left rest held holds before after ⊎ Whole R n (2 ^ 64 - 1) left rest held holds before after
