use Rattle.std.proofs.Common.{rules}
use Rattle.probe.proofs.Laws.{digest_fold}
use Rattle.probe.proofs.digest_on.Goals as goal

pub returns : goal.returns
returns c = rw digest_fold (search rules)
