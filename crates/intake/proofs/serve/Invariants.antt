use Rattle.intake.specs.Parts.{Whole}
use Rattle.intake.proofs.serve.Given as goal

abbrev pub invariant-loop : goal.invariant-loop
invariant-loop g l =
    Whole g.A.Answers.goes g.row.N l.counter (g.I.Read.remaining l.initial.from) (g.I.Read.remaining l.from) (g.O.Write.contents l.initial.to) (g.O.Write.contents l.to) l.initial.by l.by
