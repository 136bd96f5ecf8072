use Rattle.std.proofs.Common.{sym, ◌∙◌}
use Rattle.rules.specs.Memory.{apply}
use Rattle.rules.specs.Call.{making}
use Rattle.calls.proofs.Entering.make_if.Goals as goal

pub returns-then-not-is_made : goal.returns-then-not-is_made
unfolding making
returns-then-not-is_made c = rw (sym c.is_made.ensures ∙ c.if-not-is_made.true) c.make.ensures

pub returns-else-not-is_made : goal.returns-else-not-is_made
unfolding making apply
returns-else-not-is_made c = rw (sym c.is_made.ensures ∙ c.if-not-is_made.false)
