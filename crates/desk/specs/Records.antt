-- Document 01, "The run program": a record of 24 bytes, what it asks, and exactly when it gives 17. Assumes nothing.
use Rattle.std.specs.Prelude.{Bool, true, ◌||◌, not, List, [], ◌∷◌, ℕ, ◌+◌, ltb, eqb, Result, Ok, Err}
use Rattle.rules.specs.declared.Ring.{Ring}
use Rattle.rules.specs.declared.Request.{Request}
use Rattle.rules.specs.Tests.{pick, conj}
use Rattle.rules.specs.Segments.{byte_at, word_at}
use Rattle.desk.specs.declared.Fields.{Fields}
use Rattle.desk.specs.declared.Asked.{Asked}
use Rattle.desk.specs.declared.Asked.TheVariants.{Start, Cross, Write}
use Rattle.desk.specs.declared.Wrong.{Wrong}

-- "kind (0 start, 1 crossing, 2 write); start ring, fault or stack; instruction; zero; five 4-byte numbers, high byte first": the
-- record that begins at a byte of the input
unfoldable pub fields_at : List ℕ → ℕ → Fields
fields_at b at =
    record {
      kind = byte_at b at;
      whom = byte_at b (at + 1);
      instruction = byte_at b (at + 2);
      zero = byte_at b (at + 3);
      n1 = word_at b (at + 4);
      n2 = word_at b (at + 8);
      n3 = word_at b (at + 12);
      n4 = word_at b (at + 16);
      n5 = word_at b (at + 20);
    }

-- "Unused fields are zero": a start uses the ring alone
abbrev pub start_tests : Fields → List Bool
start_tests x = eqb x.instruction 0 ∷ eqb x.n1 0 ∷ eqb x.n2 0 ∷ eqb x.n3 0 ∷ eqb x.n4 0 ∷ eqb x.n5 0 ∷ []

-- "write: offset, value": a write uses the stack and two numbers
abbrev pub write_tests : Fields → List Bool
write_tests x = eqb x.instruction 0 ∷ eqb x.n3 0 ∷ eqb x.n4 0 ∷ eqb x.n5 0 ∷ []

-- a crossing leaves none unused: "for a return the five numbers are ignored"
unfoldable pub unused_zero : Fields → Bool
unused_zero x = pick (eqb x.kind 0) (conj (start_tests x)) (pick (eqb x.kind 2) (conj (write_tests x)) true)

-- "The program gives 17 .. exactly when the kind is above 2, the zero byte or an unused field isn't zero" (of the bytes that are
-- left at the end there is no record)
unfoldable pub is_wrong : Fields → Bool
is_wrong x = ltb 2 x.kind || not (eqb x.zero 0) || not (unused_zero x)

-- "crossing: frame, argument place, running, target segment, target offset"
abbrev pub request_of : Fields → Request
request_of x =
    record { fault = x.whom; instruction = x.instruction; frame = x.n1; place = x.n2; running = x.n3; target = x.n4; offset = x.n5 }

abbrev pub ring_of : Fields → Ring
ring_of x = record { 0 = x.whom }

-- a record that is not in order: number 17
abbrev pub wrong : Wrong
wrong = record {}

-- what a record asks, or number 17
abbrev pub Asking : Type 0
Asking = Result Asked Wrong

-- what a record asks
unfoldable pub asked_of : Fields → Asking
asked_of x =
    pick (is_wrong x) (Err wrong)
    (Ok (pick (eqb x.kind 0) (Start (ring_of x)) (pick (eqb x.kind 1) (Cross (request_of x)) (Write (ring_of x) x.n1 x.n2))))

-- the kind that the line shows: "for a 17, kind is 9"
abbrev pub kind_of : Asking → ℕ
kind_of (Ok (Start r)) = 0
kind_of (Ok (Cross q)) = 1
kind_of (Ok (Write k at v)) = 2
kind_of (Err e) = 9
