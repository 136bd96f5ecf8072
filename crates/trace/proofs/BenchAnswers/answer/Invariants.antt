use Rattle.std.proofs.Common.{◌*◌, ◌≤◌}
use Rattle.trace.proofs.BenchAnswers.answer.Given as goal

-- a line takes at most 154 bytes
abbrev pub invariant-loop-i : goal.invariant-loop-i
invariant-loop-i l = l.at ≤ 154 * l.i
