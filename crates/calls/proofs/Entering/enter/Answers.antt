use Rattle.rules.proofs.Memory.{then}
use Rattle.calls.proofs.Entering.enter.Goals as goal

pub returns : goal.returns
returns c =
    then _ _ _ _ _ _
    (then _ _ _ _ _ _
    (then _ _ _ _ _ _ c.make_if.ensures c.build_frame.ensures)
    c.build_list.ensures)
    c.scatter.ensures
