use Rattle.rules.specs.Step.{reach_verdict, outcome, memory_after}
use Rattle.tie.proofs.Laws.{extended}
use Rattle.tie.proofs.write.Goals as goal

pub returns-clause-by_index : goal.returns-clause-by_index
unfolding outcome memory_after reach_verdict
returns-clause-by_index c f = extended f c.args.s.now c.args.p _ _ _ c.write.ensures.s_after c.write.ensures.value
