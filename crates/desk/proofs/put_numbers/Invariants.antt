use Rattle.std.proofs.Common.{◌≡◌, ◌+◌, ◌*◌, ◌≤◌, length, drop}
use Rattle.desk.specs.Lines.{line, written}
use Rattle.desk.proofs.put_numbers.Given as goal

-- what is left to write makes the whole line
abbrev pub invariant-loop-i : goal.invariant-loop-i
invariant-loop-i l = record {
  here_bound : l.here ≤ l.at + 11 * l.i;
  place : l.here + length (line (drop l.i l.numbers)) ≡ l.at + length (line l.numbers);
  room : written l.out l.here (line (drop l.i l.numbers)) ≡ written l.fn.out l.at (line l.numbers);
}
