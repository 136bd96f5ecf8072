-- Document 01, "Process record": "a set of stacks already made (one bit a ring)", and the serial. Assumes nothing.
use Rattle.std.specs.Prelude.{Bool, ℕ, ◌+◌, ◌/◌, ◌%◌, ◌^◌, leb, eqb}
use Rattle.rules.specs.Tests.{pick, how_many}

-- stack k is in the set
unfoldable pub is_made : ℕ → ℕ → Bool
is_made made k = eqb (made / 2 ^ k % 2) 1

-- the set with stack k in it; there is no stack above 63
unfoldable pub with_made : ℕ → ℕ → ℕ
with_made made k = pick (is_made made k) made (pick (leb 64 k) made (made + 2 ^ k))

-- "how many stacks are made": how many of the 64 are in the set
unfoldable pub made_count : ℕ → ℕ
made_count made = how_many (is_made made) 64

-- "The serial counts accepted calls and goes from 4294967295 on to 0."
abbrev pub next_serial : ℕ → ℕ
next_serial serial = (serial + 1) % 2 ^ 32
