use Rattle.std.proofs.Common.{refl, rules, tests}
use Rattle.rules.specs.Segments.{is_gate, gate_hit}
use Rattle.segments.proofs.Ranges.{any_over}
use Rattle.segments.proofs.Record.has_gate.Goals as goal

pub returns : goal.returns
unfolding is_gate
returns c = any_over (gate_hit c.args.self.file.now c.args.self.at c.args.offset) 8 _ _ c.any.ensures.ran refl (λ x b q k. search (rules, tests))
