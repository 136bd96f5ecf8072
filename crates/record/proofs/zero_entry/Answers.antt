use Rattle.std.proofs.Common.{arith}
use Rattle.std.proofs.lemmas.Grind.{common_steps}
use Rattle.record.proofs.zero_entry.Goals as goal

pub returns : goal.returns
returns c = grind (arith, common_steps)
