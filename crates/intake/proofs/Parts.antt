-- That one more part goes on an input that is answered part by part. Assumes nothing.
use Rattle.std.proofs.Common.{List, [], ℕ, ◌≡◌, ◌+◌, ◌<◌, ◌≤◌, Bool, true, false, sym, ◌∙◌, arith, length, Option}
use lib.Dec.{eqb}
use borrow.Author.Tests.{eqb-true, eqb-false}
use Rattle.std.specs.Io.KnownBytes.{Consumes, Appends}
use Rattle.std.proofs.KnownBytes.{Consumes-nil, Consumes-trans, Appends-nil, Appends-trans}
use Rattle.intake.specs.Parts.{none, more, Whole}

module _ {S : Type 0} (R : S → List ℕ → List ℕ → S → Type 0) (n : ℕ) where
  pub whole_none : (left held : Option (List ℕ)) (s : S) → Whole R n 0 left left held held s s
  whole_none left held s = ([], [], Consumes-nil left, Appends-nil held, none)

  pub whole_more : (k : ℕ) (left rest last held holds full : Option (List ℕ)) (before between after : S) (part lines : List ℕ)
      → Whole R n k left rest held holds before between → Consumes rest last part → Appends holds full lines → length part ≡ n → R between part lines after
      → Whole R n (k + 1) left last held full before after
  whole_more k left rest last held holds full before between after part lines (input, text, lost, gained, parts) loses gains long goes =
      (_, _, Consumes-trans left rest last input part lost loses, Appends-trans held holds full text lines gained gains, more parts long goes)

pub long : (part n : ℕ) (whole : Bool) → whole ≡ true → whole ≡ eqb part n → part ≡ n
long part n whole h e = eqb-true part n (sym e ∙ h)

pub short : (part n : ℕ) (whole : Bool) → whole ≡ false → part ≤ n → whole ≡ eqb part n → part < n
short part n whole h le e = let other = eqb-false part n (sym e ∙ h) in omega (arith, other)
