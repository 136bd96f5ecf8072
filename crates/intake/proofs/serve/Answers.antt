use Rattle.std.proofs.Common.{inl}
use Rattle.intake.proofs.Parts.{whole_none, whole_more, long, short}
use Rattle.intake.proofs.serve.Goals as goal

pub loop-init : goal.loop-init
loop-init g c = whole_none g.A.Answers.goes g.row.N _ _ _

pub loop-preserved : goal.loop-preserved
loop-preserved g c =
    let e = c.in_ok-serve_part.ensures in
    whole_more g.A.Answers.goes g.row.N _ _ _ _ _ _ _ _ _ _ _ _ c.loop.invariant e.2 e.3 (long _ _ _ c.if-not-branch.false e.5) e.6

pub returns-then-not-branch : goal.returns-then-not-branch
returns-then-not-branch g c =
    let e = c.in_ok-serve_part.ensures in
    inl (_, _, _, _, _, _, c.loop.invariant, e.2, e.3, short _ _ _ c.if-not-branch.true e.4 e.5, e.6)
