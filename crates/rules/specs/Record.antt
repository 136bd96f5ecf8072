-- Document 01, "Process record": when a record is sound, and what adding an entry and striking the newest leave. Assumes nothing.
use Rattle.std.specs.Prelude.{Bool, true, ◌&&◌, not, List, [], ◌∷◌, ℕ, zero, suc, ◌+◌, ◌-◌, ◌*◌, leb, ltb, eqb, get_or, set, replicate}
use Rattle.rules.specs.declared.Ring.{Ring}
use Rattle.rules.specs.declared.Argument.{Argument}
use Rattle.rules.specs.declared.Entry.{Entry}
use Rattle.rules.specs.declared.Process.{Process}
use Rattle.rules.specs.Tests.{pick, conj, all_from, all_below}
use Rattle.rules.specs.Made.{is_made, with_made}

abbrev pub zero_argument : Argument
zero_argument = record { segment = 0; offset = 0; length = 0; direction = 0 }

-- an entry of zeros with these arguments
abbrev pub zeros_with : List Argument → Entry
zeros_with arguments =
    record { old = record { 0 = 0 }; frame = 0; level = record { 0 = 0 }; segment = 0; offset = 0; place = 0; prior = 0; fresh = 0; count = 0; serial = 0; arguments = arguments }

-- an entry that is struck: "struck and zeroed"
abbrev pub zero_entry : Entry
zero_entry = zeros_with (replicate 4 zero_argument)

-- what the logic reads past the end of the entries, of which there are always 32
abbrev pub no_entry : Entry
no_entry = zeros_with []

abbrev pub argument_at : Entry → ℕ → Argument
argument_at e k = get_or e.arguments k zero_argument

-- "frames 8 to L-32", "place 8 to L-1": x is at least 8, and x and room more end within L
unfoldable pub placed : ℕ → ℕ → ℕ → Bool
placed L x room = leb 8 x && leb (x + room) L

-- "each argument has segment = old ring, offset ≥ 8, length 1 to 16, offset + length ≤ L, direction 1 to 3"
unfoldable pub argument_sound : ℕ → Ring → Argument → Bool
argument_sound L old a =
    conj
    (eqb a.segment old.0
    ∷ leb 8 a.offset
    ∷ leb 1 a.length
    ∷ leb a.length 16
    ∷ leb (a.offset + a.length) L
    ∷ leb 1 a.direction
    ∷ leb a.direction 3
    ∷ [])

unfoldable pub argument_is_zero : Argument → Bool
argument_is_zero a = conj (eqb a.segment 0 ∷ eqb a.offset 0 ∷ eqb a.length 0 ∷ eqb a.direction 0 ∷ [])

-- argument k: "arguments past the count, are all zero"
abbrev pub argument_rule : ℕ → Entry → ℕ → Bool
argument_rule L e k = pick (ltb k e.count) (argument_sound L e.old (argument_at e k)) (argument_is_zero (argument_at e k))

unfoldable pub arguments_sound : ℕ → Entry → Bool
arguments_sound L e = all_below (argument_rule L e) 4

-- "all lengths"
abbrev pub lengths : Entry → ℕ
lengths e = (argument_at e 0).length + (argument_at e 1).length + (argument_at e 2).length + (argument_at e 3).length

-- "Where the call was inward, the argument count is 0 and new frame + 33 ≤ L."
unfoldable pub inward_sound : ℕ → Entry → Bool
inward_sound L e = eqb e.count 0 && leb (e.fresh + 33) L

-- "Where it was outward, the count is n ≤ 4 .. and new frame + 33 + 4n + all lengths ≤ L."
unfoldable pub outward_sound : ℕ → Entry → Bool
outward_sound L e = leb e.count 4 && leb (e.fresh + 33 + 4 * e.count + lengths e) L

-- "in each open entry the old ring is made and differs from the ring entered, old ring ≤ level ≤ 63, old and prior frames 8 to
-- L-32, return segment 64 to 1023, return offset at most 262143, argument place 8 to L-1, new frame ≥ prior + 32";
-- "a call to a ring below the old one was inward"
abbrev pub open_tests : ℕ → ℕ → ℕ → Ring → Entry → List Bool
open_tests top L made entered e =
    is_made made e.old.0
    ∷ not (eqb e.old.0 entered.0)
    ∷ leb e.old.0 e.level.0
    ∷ leb e.level.0 top
    ∷ placed L e.frame 32
    ∷ placed L e.prior 32
    ∷ leb 64 e.segment
    ∷ leb e.segment 1023
    ∷ leb e.offset 262143
    ∷ placed L e.place 1
    ∷ leb (e.prior + 32) e.fresh
    ∷ arguments_sound L e
    ∷ pick (ltb entered.0 e.old.0) (inward_sound L e) (outward_sound L e)
    ∷ []

unfoldable pub open_sound : ℕ → ℕ → ℕ → Ring → Entry → Bool
open_sound top L made entered e = conj (open_tests top L made entered e)

-- the open entries, newest first
unfoldable pub opened : ℕ → List Entry → List Entry
opened zero entries = []
opened (suc n) entries = get_or entries n no_entry ∷ opened n entries

-- "The ring entered is the next open entry's old ring, for the newest the record's ring"
unfoldable pub chained : ℕ → ℕ → ℕ → Ring → List Entry → Bool
chained top L made entered [] = true
chained top L made entered (e ∷ es) = open_sound top L made entered e && chained top L made e.old es

-- "Entries not open .. are all zero."
unfoldable pub entry_is_zero : Entry → Bool
entry_is_zero e =
    conj
    (eqb e.old.0 0
    ∷ eqb e.frame 0
    ∷ eqb e.level.0 0
    ∷ eqb e.segment 0
    ∷ eqb e.offset 0
    ∷ eqb e.place 0
    ∷ eqb e.prior 0
    ∷ eqb e.fresh 0
    ∷ eqb e.count 0
    ∷ eqb e.serial 0
    ∷ argument_is_zero (argument_at e 0)
    ∷ argument_is_zero (argument_at e 1)
    ∷ argument_is_zero (argument_at e 2)
    ∷ argument_is_zero (argument_at e 3)
    ∷ [])

abbrev pub zero_at : List Entry → ℕ → Bool
zero_at entries k = entry_is_zero (get_or entries k no_entry)

-- "Sound: ring at most 63 and made; open count at most 32; in each open entry ..", the highest ring being top (number 4)
unfoldable pub process_sound : ℕ → ℕ → Process → Bool
process_sound top L p =
    leb p.calls 32
    && (leb p.ring.0 top
    && is_made p.made p.ring.0
    && chained top L p.made p.ring (opened p.calls p.entries)
    && all_from (zero_at p.entries) p.calls (32 - p.calls))

-- the newest entry, and zeros where none is open
unfoldable pub newest : Process → Entry
newest p = pick (ltb 0 p.calls) (pick (leb p.calls 32) (get_or p.entries (p.calls - 1) no_entry) zero_entry) zero_entry

-- an accepted call into a ring: that ring runs and its stack is made, the serial is the entry's, and the entry is added
unfoldable pub added : Process → Entry → Ring → Process
added p e to =
    pick (ltb p.calls 32)
    (record { ring = to; made = with_made p.made to.0; serial = e.serial; calls = p.calls + 1; entries = set p.entries p.calls e })
    p

-- an accepted return: the ring is the newest entry's old ring, and the entry "is struck and zeroed"
unfoldable pub struck : Process → Process
struck p =
    pick (ltb 0 p.calls)
    (pick (leb p.calls 32)
    (record { ring = (newest p).old; made = p.made; serial = p.serial; calls = p.calls - 1; entries = set p.entries (p.calls - 1) zero_entry })
    p)
    p
