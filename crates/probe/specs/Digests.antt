-- docs/TRACE.md: the digest of numbers, and the numbers of the whole record in their order. Assumes nothing.
use Rattle.std.specs.Prelude.{List, [], ◌∷◌, ◌++◌, ℕ, ◌+◌, ◌*◌, ◌/◌, ◌%◌, ◌^◌}
use Rattle.rules.specs.declared.Argument.{Argument}
use Rattle.rules.specs.declared.Entry.{Entry}
use Rattle.rules.specs.declared.Process.{Process}
use Rattle.rules.specs.Record.{argument_at}

-- "for each x in turn d := (d × 65,599 + x + 1) mod 4,294,967,291"
abbrev pub mixed : ℕ → ℕ → ℕ
mixed d x = (d * 65599 + x + 1) % 4294967291

unfoldable pub digest_on : ℕ → List ℕ → ℕ
digest_on d [] = d
digest_on d (x ∷ l) = digest_on (mixed d x) l

-- "d after d := 7, and for each x in turn"
unfoldable pub digest : List ℕ → ℕ
digest l = digest_on 7 l

-- "its four arguments of four fields each"
abbrev pub argument_numbers : Argument → List ℕ
argument_numbers a = a.segment ∷ a.offset ∷ a.length ∷ a.direction ∷ []

-- "the ten fields 10 to 19 in order and then its four arguments"
abbrev pub ten_numbers : Entry → List ℕ
ten_numbers e =
    e.old.0
    ∷ e.frame
    ∷ e.level.0
    ∷ e.segment
    ∷ e.offset
    ∷ e.place
    ∷ e.prior
    ∷ e.fresh
    ∷ e.count
    ∷ e.serial
    ∷ []

unfoldable pub entry_numbers : Entry → List ℕ
entry_numbers e =
    ten_numbers e
    ++ argument_numbers (argument_at e 0)
    ++ argument_numbers (argument_at e 1)
    ++ argument_numbers (argument_at e 2)
    ++ argument_numbers (argument_at e 3)

unfoldable pub entries_numbers : List Entry → List ℕ
entries_numbers [] = []
entries_numbers (e ∷ l) = entry_numbers e ++ entries_numbers l

-- "ring, made (high, low), serial, open count, and for each of the 32 entries .."
unfoldable pub record_numbers : Process → List ℕ
record_numbers p =
    (p.ring.0 ∷ p.made / 2 ^ 32 ∷ p.made % 2 ^ 32 ∷ p.serial ∷ p.calls ∷ []) ++ entries_numbers p.entries
