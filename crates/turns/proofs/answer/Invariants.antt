use Rattle.std.proofs.Common.{◌≡◌, take}
use Rattle.turns.proofs.Going.{Going}
use Rattle.turns.proofs.answer.Given as goal

abbrev pub invariant-loop-record : goal.invariant-loop-record
invariant-loop-record l = record {
  size : l.record-iterator.size ≡ 24;
  going : Going l.file (take 12288 l.input) l.initial.s l.initial.process l.initial.out l.s l.process l.out l.at l.record-iterator.rest.now;
}
