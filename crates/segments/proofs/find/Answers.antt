use Rattle.std.proofs.Common.{min, rules, tests}
use Rattle.rules.specs.Segments.{records, numbered, found}
use Rattle.segments.proofs.Ranges.{find_over}
use Rattle.segments.proofs.find.Goals as goal

pub returns : goal.returns
unfolding found
returns c = find_over (numbered c.args.f.now c.args.x) (min (records c.args.f.now) 192) _ _ c.find.ensures.ran (search rules) (λ x b q k. search (rules, tests))
