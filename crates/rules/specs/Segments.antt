-- Document 01, "Segment file": when a file is sound, and what it says of a segment. Assumes nothing.
use Rattle.std.specs.Prelude.{Bool, ◌&&◌, ◌||◌, List, ℕ, zero, suc, ◌+◌, ◌*◌, ◌/◌, ◌%◌, min, leb, ltb, eqb, length, get_or, Option, Some, None}
use Rattle.rules.specs.declared.Segment.{Segment}
use Rattle.rules.specs.Tests.{pick, all_from, any_from}

-- a byte; two and four bytes, high byte first; 0 past the end
abbrev pub byte_at : List ℕ → ℕ → ℕ
byte_at f k = get_or f k 0

abbrev pub half_at : List ℕ → ℕ → ℕ
half_at f k = byte_at f k * 256 + byte_at f (k + 1)

abbrev pub word_at : List ℕ → ℕ → ℕ
word_at f k = half_at f k * 65536 + half_at f (k + 2)

-- "Records of 40 bytes, no header"
abbrev pub records : List ℕ → ℕ
records f = length f / 40

-- "Bytes 0-1 number .. 2, 3, 4: r1 .. r2 .. r3 .. 5 mode .. 6 gate count .. 7 zero .. 8-39 eight gate offsets of 4 bytes"
abbrev pub number_at : List ℕ → ℕ → ℕ
number_at f i = half_at f (i * 40)

abbrev pub bracket1 : List ℕ → ℕ → ℕ
bracket1 f i = byte_at f (i * 40 + 2)

abbrev pub bracket2 : List ℕ → ℕ → ℕ
bracket2 f i = byte_at f (i * 40 + 3)

abbrev pub bracket3 : List ℕ → ℕ → ℕ
bracket3 f i = byte_at f (i * 40 + 4)

abbrev pub mode_of : List ℕ → ℕ → ℕ
mode_of f i = byte_at f (i * 40 + 5)

abbrev pub gate_count : List ℕ → ℕ → ℕ
gate_count f i = byte_at f (i * 40 + 6)

abbrev pub zero_byte : List ℕ → ℕ → ℕ
zero_byte f i = byte_at f (i * 40 + 7)

abbrev pub gate : List ℕ → ℕ → ℕ → ℕ
gate f i j = word_at f (i * 40 + (8 + j * 4))

-- "strictly ascending by number" (the last record has no next), "number, 64 to 1023"
abbrev pub number_sound : List ℕ → ℕ → Bool
number_sound f i =
    leb 64 (number_at f i) && (leb (number_at f i) 1023
    && (leb (length f) (i * 40 + 40) || ltb (number_at f i) (number_at f (i + 1))))

-- "r1 ≤ r2 ≤ r3 ≤ 63; 5 mode (1 read, 2 write, 4 execute, added); 6 gate count 0 to 8; 7 zero", the highest ring being top
abbrev pub fields_sound : ℕ → List ℕ → ℕ → Bool
fields_sound top f i =
    leb (bracket1 f i) (bracket2 f i)
    && (leb (bracket2 f i) (bracket3 f i)
    && (leb (bracket3 f i) top
    && (leb (mode_of f i) 7
    && (leb (gate_count f i) 8
    && eqb (zero_byte f i) 0))))

-- "strictly ascending up to the count, each at most 262143, zero past it"
abbrev pub gate_sound : List ℕ → ℕ → ℕ → Bool
gate_sound f i j =
    (leb (gate_count f i) (j + 1) || ltb (gate f i j) (gate f i (j + 1)))
    && ((leb (gate_count f i) j || leb (gate f i j) 262143)
    && (ltb j (gate_count f i) || eqb (gate f i j) 0))

unfoldable pub record_sound : ℕ → List ℕ → ℕ → Bool
record_sound top f i = number_sound f i && (fields_sound top f i && all_from (gate_sound f i) 0 8)

-- the whole file (number 2): "0 to 192 of them"
unfoldable pub file_sound : ℕ → List ℕ → Bool
file_sound top f = leb (records f) 192 && (eqb (length f % 40) 0 && all_from (record_sound top f) 0 (records f))

-- the first of the d places i, i + 1, .. at which the test p passes
unfoldable pub first_from : (ℕ → Bool) → ℕ → ℕ → Option ℕ
first_from p i zero = None
first_from p i (suc d) = pick (p i) (Some i) (first_from p (i + 1) d)

-- the first record with that number, among the first 192
abbrev pub numbered : List ℕ → ℕ → ℕ → Bool
numbered f x i = eqb (number_at f i) x

unfoldable pub found : List ℕ → ℕ → Option ℕ
found f x = first_from (numbered f x) 0 (min (records f) 192)

-- the brackets and the mode of record i
unfoldable pub segment_at : List ℕ → ℕ → Segment
segment_at f i =
    record {
      at = i;
      r1 = record { 0 = bracket1 f i };
      r2 = record { 0 = bracket2 f i };
      r3 = record { 0 = bracket3 f i };
      mode = mode_of f i;
    }

abbrev pub listed_at : List ℕ → Option ℕ → Option Segment
listed_at f (Some i) = Some (segment_at f i)
listed_at f None = None

-- what the file says of the segment number x
unfoldable pub lookup_of : List ℕ → ℕ → Option Segment
lookup_of f x = listed_at f (found f x)

-- offset is one of the gates of record i; the zeros past the count are no gates, "Offset 0 may be a gate."
abbrev pub gate_hit : List ℕ → ℕ → ℕ → ℕ → Bool
gate_hit f i offset j = ltb j (gate_count f i) && eqb (gate f i j) offset

unfoldable pub is_gate : List ℕ → ℕ → ℕ → Bool
is_gate f i offset = any_from (gate_hit f i offset) 0 8

-- "mode (1 read, 2 write, 4 execute, added)"
abbrev pub reads : Segment → Bool
reads s = eqb (s.mode % 2) 1

abbrev pub writes : Segment → Bool
writes s = eqb (s.mode / 2 % 2) 1

abbrev pub executes : Segment → Bool
executes s = eqb (s.mode / 4 % 2) 1
