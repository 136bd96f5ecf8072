use Rattle.tie.proofs.Laws.{extended}
use Rattle.tie.proofs.cross.Goals as goal

pub returns-clause-extends : goal.returns-clause-extends
returns-clause-extends c = extended c.args.file.now c.args.s.now c.args.p _ _ _ c.cross.ensures.s_after c.cross.ensures.value
