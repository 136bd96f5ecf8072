use Rattle.std.proofs.Common.{sym}
use Rattle.gatekeeper.proofs.Laws.{looked}
use Rattle.gatekeeper.proofs.look.Goals as goal

pub returns : goal.returns
returns c = looked _ _ _ _ _ _ c.stack_length-len.ensures (sym c.in-Ok.ensures) c.part.ensures
