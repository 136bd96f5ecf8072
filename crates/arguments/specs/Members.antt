-- Document 01, "Call": the reasons of a list whose arguments are read. Assumes nothing.
use Rattle.std.specs.Prelude.{Bool, not, List, [], ◌∷◌, ℕ, ◌+◌, ◌*◌, ltb, get_or, Ok}
use Rattle.rules.specs.declared.Ring.{Ring}
use Rattle.rules.specs.declared.Argument.{Argument}
use Rattle.rules.specs.declared.Unfit.{Unfit}
use Rattle.rules.specs.declared.Unfit.TheVariants.{Place, Count, ListEnd}
use Rattle.rules.specs.Tests.{pick, Refusal, refuse_if, first}
use Rattle.rules.specs.Record.{zero_argument, placed}
use Rattle.rules.specs.Arguments.{argument_reason}

-- argument j of a list l of n
abbrev pub reason_at : List ℕ → ℕ → ℕ → Ring → Bool → ℕ → List Argument → ℕ → Refusal Unfit
reason_at f L made r outward n l j = pick (ltb j n) (argument_reason f L made r outward (get_or l j zero_argument)) (Ok tt)

-- "1 place outside 8..L-1; 2 count above 4; 3 list passes L; then argument by argument"
unfoldable pub list_reason : List ℕ → ℕ → ℕ → Ring → Bool → ℕ → ℕ → List Argument → Refusal Unfit
list_reason f L made r outward place n l =
    first
    (refuse_if (not (placed L place 1)) Place
    ∷ refuse_if (ltb 4 n) Count
    ∷ refuse_if (ltb L (place + (1 + 4 * n))) ListEnd
    ∷ reason_at f L made r outward n l 0
    ∷ reason_at f L made r outward n l 1
    ∷ reason_at f L made r outward n l 2
    ∷ reason_at f L made r outward n l 3
    ∷ [])
    tt
