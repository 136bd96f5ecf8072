use Rattle.rules.specs.Step.{reach_verdict, outcome}
use Rattle.tie.proofs.Laws.{extended, look_keeps}
use Rattle.tie.proofs.look.Goals as goal

pub returns-clause-by_index : goal.returns-clause-by_index
unfolding outcome reach_verdict
returns-clause-by_index c f =
    extended f c.args.s.now c.args.p _ _ _ (look_keeps f c.args.s.now c.args.p c.args.stack c.args.at) c.look_number.ensures
