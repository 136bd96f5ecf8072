use Rattle.std.proofs.Common.{◌≡◌, length, rules}
use Rattle.probe.proofs.Laws.{entry_fold}
use Rattle.probe.proofs.mix_entry.Goals as goal

pub returns : goal.returns
returns c = let n : length c.args.e.now.arguments ≡ 4 = search rules in rw (entry_fold c.args.d c.args.e.now n) (search rules)
