-- The one law of uniqueness: a contract that is an equation admits one answer. Assumes nothing.
use mathlib.Core.Path.{◌≡◌, sym, ◌∙◌}

-- two results, or two stores at exit, of which each meets `r ≡ answer` are the same
pub unique : {A : Type 0} {answer r s : A} → r ≡ answer → s ≡ answer → r ≡ s
unique p q = p ∙ sym q
