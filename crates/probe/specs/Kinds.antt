-- docs/TRACE.md: the kinds of the program trace, and when one gives 17. Assumes nothing.
use Rattle.std.specs.Prelude.{Bool, true, ◌||◌, not, [], ◌∷◌, ℕ, leb, ltb, eqb, Err}
use Rattle.rules.specs.Tests.{pick, conj}
use Rattle.desk.specs.declared.Fields.{Fields}
use Rattle.desk.specs.Records.{ring_of, wrong, asked_of, kind_of}
use Rattle.probe.specs.Fields.{field_there}
use Rattle.probe.specs.declared.Told.{Told}
use Rattle.probe.specs.declared.Told.TheVariants.{Run, Look, Room, Field, Word, Byte, File}

-- "look: a is the stack, n1 the offset; 17 where b, c or n2 to n5 is not zero"
abbrev pub look_clean : Fields → Bool
look_clean x = conj (eqb x.instruction 0 ∷ eqb x.zero 0 ∷ eqb x.n2 0 ∷ eqb x.n3 0 ∷ eqb x.n4 0 ∷ eqb x.n5 0 ∷ [])

-- when a kind above 2 gives 17, the store being so many words long and the file so many bytes
unfoldable pub is_odd : ℕ → ℕ → Fields → Bool
is_odd words bytes x =
    pick (eqb x.kind 3) (not (look_clean x))
    (pick (eqb x.kind 4) (ltb 65792 x.n1)
    (pick (eqb x.kind 5) (not (field_there x.whom x.instruction x.zero))
    (pick (eqb x.kind 6) (leb words x.n1)
    (pick (eqb x.kind 7) (leb bytes x.n1 || ltb 255 x.n2)
    (pick (eqb x.kind 8) (ltb 7760 x.n1) true)))))

-- what a kind above 2 asks
abbrev pub further : Fields → Told
further x =
    pick (eqb x.kind 3) (Look (ring_of x) x.n1)
    (pick (eqb x.kind 4) (Room x.n1)
    (pick (eqb x.kind 5) (Field x.whom x.instruction x.zero x.n1 x.n2)
    (pick (eqb x.kind 6) (Word x.n1 x.n2)
    (pick (eqb x.kind 7) (Byte x.n1 x.n2)
    (File x.n1)))))

-- "0, 1, 2 start, crossing, write, as document 01 lays down for the run program, with its rule for 17"
unfoldable pub told_of : ℕ → ℕ → Fields → Told
told_of words bytes x = pick (ltb x.kind 3) (Run (asked_of x)) (pick (is_odd words bytes x) (Run (Err wrong)) (further x))

-- the kind that the line shows
abbrev pub kind_shown : Told → ℕ
kind_shown (Run a) = kind_of a
kind_shown (Look r at) = 3
kind_shown (Room n) = 4
kind_shown (Field a b c n m) = 5
kind_shown (Word at v) = 6
kind_shown (Byte at v) = 7
kind_shown (File n) = 8
