-- Document 01, "The run program": "A line, in decimal with one blank between". Assumes nothing.
use Rattle.std.specs.Prelude.{List, [], ◌∷◌, ◌++◌, ℕ, zero, suc, ◌+◌, ◌/◌, ◌%◌, ltb}
use Rattle.std.proofs.lemmas.List.Edits.{sets}
use Rattle.rules.specs.declared.Outcome.{Outcome}
use Rattle.rules.specs.Tests.{pick}

-- the digits of n in ASCII, where it has at most k: those of a tenth of it, where it is 10 or more, and then its last digit
unfoldable pub digits_in : ℕ → ℕ → List ℕ
digits_in zero n = []
digits_in (suc k) n = pick (ltb n 10) [] (digits_in k (n / 10)) ++ ((48 + n % 10) ∷ [])

-- a number below 2^32 has at most ten
unfoldable pub digits : ℕ → List ℕ
digits n = digits_in 10 n

-- what stands after a number, by the numbers that follow: a blank between, a newline at the end
abbrev pub after : List ℕ → ℕ
after [] = 10
after (n ∷ l) = 32

unfoldable pub line : List ℕ → List ℕ
line [] = []
line (n ∷ l) = digits n ++ (after l ∷ line l)

-- "kind, number, reason, ring, open, made, serial, segment, offset, frame, argument place": the numbers of a line, by the kind, the
-- number of stacks made, and the record and the answer after the step
unfoldable pub shown : ℕ → ℕ → Outcome → List ℕ
shown kind made o =
    kind
    ∷ o.answer.number
    ∷ o.answer.reason
    ∷ o.process.ring.0
    ∷ o.process.calls
    ∷ made
    ∷ o.process.serial
    ∷ o.answer.segment
    ∷ o.answer.offset
    ∷ o.answer.frame
    ∷ o.answer.place
    ∷ []

-- bytes are written into lent room from a place on; past its end, none
unfoldable pub written : List ℕ → ℕ → List ℕ → List ℕ
written room at bytes = sets room at bytes
