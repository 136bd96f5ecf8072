use Rattle.std.proofs.Common.{rules}
use Rattle.words.proofs.Laws.{gathered}
use Rattle.words.proofs.Stack.gather.Goals as goal

pub returns : goal.returns
returns c = gathered 64 c.args.n _ c.min-from.result c.min-room.result _ c.args.s.now (search rules) (search rules) (search rules)
