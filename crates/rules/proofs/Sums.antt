-- The words of arguments as an iterator's `sum` counts them. Assumes nothing.
use Rattle.std.proofs.Common.{◌≡◌, ℕ, ◌+◌, ◌-◌, ◌/◌, ◌^◌, ◌≤◌, ◌<◌, List, [], ◌∷◌, ◌∙◌, arith, sum_by}
use Rattle.std.specs.List.{fold}
use Rattle.std.specs.Prelude.{Option}
use Rattle.std.specs.Iterator.Runs.{WholeRun}
use Rattle.std.specs.Iterator.Adapters.{map_steps, map_source, map_callee}
use Rattle.std.specs.Fn.{Called}
use Rattle.std.specs.declared.iter.Map.{Map}
use Rattle.std.proofs.lemmas.Iterator.Adapters.{YieldsAtMost, fits_from_length}
use denote.Param.Members.{Mut}
use Rattle.rules.specs.declared.Argument.{Argument}
use Rattle.rules.specs.Arguments.{words_in}

summed_on : (l : List Argument) (n : ℕ) → fold (λ (m : ℕ) (a : Argument). m + a.length) n l ≡ n + words_in l
summed_on [] n = omega arith
summed_on (a ∷ l) n = summed_on l (n + a.length) ∙ (omega arith)

pub words_summed : (l : List Argument) → sum_by (λ (a : Argument). a.length) l ≡ words_in l
words_summed l = summed_on l 0 ∙ (omega arith)

-- the total of a walk over at most four numbers, each of 32 bits
pub total : {S A F : Type 0} {steps : S → Option A → S → Type 0} {s : Map S F} {g : Mut F (A × Unit {0}) ℕ} (f : F) (r : ℕ)
    → WholeRun (map_steps steps g) s (λ p. r ≡ fold (λ a x. a + x) 0 p.items) → YieldsAtMost steps (map_source s) 4 → map_callee s ≡ f
    → ((x : A) (n : ℕ) (q : F) → Called g f (x, tt) n q → (q ≡ f) × (n ≤ (2 ^ 34 - 1) / 4)) → r < 2 ^ 34
total {g = g} f r w most callee each =
    rw w.3 (fits_from_length g f 4 (2 ^ 34) most callee (omega arith) each w.0 w.0.seen w.1)
