use Rattle.std.proofs.Common.{rules}
use Rattle.probe.proofs.Laws.{entries_fold}
use Rattle.probe.proofs.mix_entries.Goals as goal

pub returns : goal.returns
returns c = rw entries_fold (search rules)
