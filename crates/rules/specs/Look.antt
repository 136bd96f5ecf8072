-- Document 01, "Start, write, look": "Look: hands back 32 words as that very part of the lent store". Assumes nothing.
use Rattle.std.specs.Prelude.{◌≡◌, List, ℕ, ◌+◌, ◌*◌, leb, length, take, drop}
use Rattle.std.specs.Borrow.{Bor}
use Rattle.rules.specs.Tests.{pick}

-- r is that very part of the lent store s: n words from word a on, at the place in memory where they lie. A word is 4 bytes.
pub record IsPart (s r : Bor (List ℕ)) (a n : ℕ) : Type 0 where
  pub block : r.ref_ptr.0 ≡ s.ref_ptr.0
  pub offset : r.ref_ptr.1 ≡ s.ref_ptr.1 + a * 4
  pub words : r.now ≡ take n (drop a s.now)

-- from where, and how many: 32 words from a place on; "refused, an empty part", which lies at the start
abbrev pub part_start : List ℕ → ℕ → ℕ
part_start m p = pick (leb (p + 32) (length m)) p 0

abbrev pub part_length : List ℕ → ℕ → ℕ
part_length m p = pick (leb (p + 32) (length m)) 32 0
