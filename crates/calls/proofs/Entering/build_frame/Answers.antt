use Rattle.rules.specs.Call.{frame_stores}
use Rattle.rules.proofs.Memory.{then}
use Rattle.calls.proofs.Entering.build_frame.Goals as goal

pub returns : goal.returns
unfolding frame_stores
returns c =
    then _ _ _ _ _ _
    (then _ _ _ _ _ _
    (then _ _ _ _ _ _
    (then _ _ _ _ _ _ (rw c.args.self.now.same at c.store_pointer.ensures) c.scatter.ensures)
    c.store_pointer-2.ensures)
    (rw c.end.ensures at c.store_pointer-3.ensures))
    c.store_pointer-4.ensures
