-- How long a line is. Assumes nothing.
use Rattle.std.proofs.Common.{◌≡◌, List, ℕ, ◌≤◌, arith, length, take, length-take}
use Rattle.desk.specs.Lines.{line}
use Rattle.desk.proofs.Laws.{line-few}

-- a line of fourteen numbers
pub line_short : (l : List ℕ) → length l ≡ 14 → length (line (take 64 l)) ≤ 154
line_short l e = let n : length (take 64 l) ≤ 14 = simp length-take (omega arith) in omega (arith, line-few (take 64 l))
