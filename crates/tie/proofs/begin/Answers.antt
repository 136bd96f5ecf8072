use Rattle.rules.specs.Step.{outcome, memory_after}
use Rattle.tie.proofs.Laws.{began}
use Rattle.tie.proofs.begin.Goals as goal

pub returns-clause-begins : goal.returns-clause-begins
unfolding outcome memory_after
returns-clause-begins c f v = began f c.args.s.now c.args.p c.args.ring _ _ c.start.ensures.s_after c.start.ensures.value v
