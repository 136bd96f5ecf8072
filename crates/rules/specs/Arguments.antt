-- Document 01, "Call": the argument list, when an argument is permitted, and the reasons for 10. Assumes nothing.
use Rattle.std.specs.Prelude.{Bool, false, ◌&&◌, ◌||◌, not, List, [], ◌∷◌, ◌++◌, ℕ, ◌+◌, ◌*◌, leb, ltb, eqb, Option, Some, None, Ok}
use Rattle.rules.specs.declared.Ring.{Ring}
use Rattle.rules.specs.declared.Argument.{Argument}
use Rattle.rules.specs.declared.Segment.{Segment}
use Rattle.rules.specs.declared.Unfit.{Unfit}
use Rattle.rules.specs.declared.Unfit.TheVariants.{Place, Count, ListEnd, Length, Direction, NotPermitted}
use Rattle.rules.specs.declared.Handed.{Handed}
use Rattle.rules.specs.Tests.{pick, Refusal, refuse_if, first}
use Rattle.rules.specs.Memory.{spot, word, words}
use Rattle.rules.specs.Made.{is_made}
use Rattle.rules.specs.Segments.{lookup_of, reads, writes}
use Rattle.rules.specs.Record.{zero_argument, placed}

-- "The argument list at the argument place in the caller's own stack: a count n, .. then n groups (segment, offset, length,
-- direction)": group j of the list in stack k
unfoldable pub group_at : List ℕ → ℕ → ℕ → ℕ → ℕ → Argument
group_at m L k place j =
    record {
      segment = word m (spot L k (place + (1 + 4 * j)));
      offset = word m (spot L k (place + (2 + 4 * j)));
      length = word m (spot L k (place + (3 + 4 * j)));
      direction = word m (spot L k (place + (4 + 4 * j)));
    }

-- the four arguments of a list of n, zero past the count
abbrev pub group_or : List ℕ → ℕ → ℕ → ℕ → ℕ → ℕ → Argument
group_or m L k place n j = pick (ltb j n) (group_at m L k place j) zero_argument

abbrev pub arguments_at : List ℕ → ℕ → ℕ → ℕ → ℕ → List Argument
arguments_at m L k place n = group_or m L k place n 0 ∷ group_or m L k place n 1 ∷ group_or m L k place n 2 ∷ group_or m L k place n 3 ∷ []

-- "An inward argument is permitted when it lies in a made stack k ≥ caller's ring, at offset ≥ 8 and ending within L"
unfoldable pub in_stack : ℕ → ℕ → Ring → Argument → Bool
in_stack L made r a = leb r.0 a.segment && is_made made a.segment && placed L a.offset a.length

-- "or in a listed segment with caller's ring ≤ r2, read mode for 1 and 3, write mode for 2 and 3, ending at or below 262144"
abbrev pub in_listed : Ring → Argument → Option Segment → Bool
in_listed r a (Some s) =
    leb r.0 s.r2.0
    && (eqb a.direction 2 || reads s)
    && (eqb a.direction 1 || writes s)
    && leb (a.offset + a.length) 262144
in_listed r a None = false

unfoldable pub in_segment : List ℕ → Ring → Argument → Bool
in_segment f r a = in_listed r a (lookup_of f a.segment)

-- "An outward argument is permitted only in the caller's own stack, from offset 8, ending within L."
unfoldable pub in_own : ℕ → Ring → Argument → Bool
in_own L r a = eqb a.segment r.0 && placed L a.offset a.length

unfoldable pub is_permitted : List ℕ → ℕ → ℕ → Ring → Bool → Argument → Bool
is_permitted f L made r outward a = pick outward (in_own L r a) (in_stack L made r a || in_segment f r a)

-- "argument by argument 4 length, 5 direction, 6 not permitted"
abbrev pub argument_reasons : List ℕ → ℕ → ℕ → Ring → Bool → Argument → List (Refusal Unfit)
argument_reasons f L made r outward a =
    refuse_if (not (leb 1 a.length && leb a.length 16)) Length
    ∷ refuse_if (not (leb 1 a.direction && leb a.direction 3)) Direction
    ∷ refuse_if (not (is_permitted f L made r outward a)) NotPermitted
    ∷ []

unfoldable pub argument_reason : List ℕ → ℕ → ℕ → Ring → Bool → Argument → Refusal Unfit
argument_reason f L made r outward a = first (argument_reasons f L made r outward a) tt

-- argument j gives its reason where the list has one more than j
abbrev pub member_reason : List ℕ → List ℕ → ℕ → ℕ → Ring → Bool → ℕ → ℕ → ℕ → Refusal Unfit
member_reason f m L made r outward place n j =
    pick (ltb j n) (argument_reason f L made r outward (group_or m L r.0 place n j)) (Ok tt)

-- "1 place outside 8..L-1; 2 count above 4; 3 list passes L; then argument by argument"
abbrev pub list_reasons : List ℕ → List ℕ → ℕ → ℕ → Ring → Bool → ℕ → ℕ → List (Refusal Unfit)
list_reasons f m L made r outward place n =
    refuse_if (not (placed L place 1)) Place
    ∷ refuse_if (ltb 4 n) Count
    ∷ refuse_if (ltb L (place + (1 + 4 * n))) ListEnd
    ∷ member_reason f m L made r outward place n 0
    ∷ member_reason f m L made r outward place n 1
    ∷ member_reason f m L made r outward place n 2
    ∷ member_reason f m L made r outward place n 3
    ∷ []

unfoldable pub list_reason : List ℕ → List ℕ → ℕ → ℕ → Ring → Bool → ℕ → ℕ → Refusal Unfit
list_reason f m L made r outward place n = first (list_reasons f m L made r outward place n) tt

-- the words of the arguments
abbrev pub words_in : List Argument → ℕ
words_in [] = 0
words_in (a ∷ rest) = a.length + words_in rest

-- the list at a place, as a call from ring r hands it over
unfoldable pub handed_of : List ℕ → List ℕ → ℕ → ℕ → Ring → Bool → ℕ → Handed
handed_of f m L made r outward place =
    record {
      fit = list_reason f m L made r outward place (word m (spot L r.0 place));
      count = word m (spot L r.0 place);
      words = pick outward (words_in (arguments_at m L r.0 place (word m (spot L r.0 place)))) 0;
      arguments = arguments_at m L r.0 place (word m (spot L r.0 place));
    }

-- "the arguments themselves follow the list in order": the words of the arguments in stack k
unfoldable pub copies_of : List ℕ → ℕ → ℕ → List Argument → List ℕ
copies_of m L k [] = []
copies_of m L k (a ∷ rest) = words m (spot L k a.offset) a.length ++ copies_of m L k rest

-- "groups point at the copies (segment the new ring), length and direction kept", the copies being in stack k from an offset on
unfoldable pub pointing : ℕ → ℕ → List Argument → List ℕ
pointing k at [] = []
pointing k at (a ∷ rest) = (k ∷ at ∷ a.length ∷ a.direction ∷ []) ++ pointing k (at + a.length) rest
