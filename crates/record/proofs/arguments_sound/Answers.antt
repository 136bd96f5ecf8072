use Rattle.std.proofs.Common.{◌∙◌, ltb, ℕ, Bool, rules, tests, arith}
use Rattle.std.proofs.lemmas.Iterator.{YieldsList-from_slice}
use Rattle.std.proofs.lemmas.Iterator.Consumers.{YieldsList-from_enumerate}
use Rattle.std.proofs.lemmas.Iterator.Search.{all_from_yields_List}
use Rattle.rules.specs.declared.Argument.{Argument}
use Rattle.rules.specs.Tests.{pick}
use Rattle.rules.specs.Record.{argument_sound, argument_is_zero}
use Rattle.record.proofs.Walks.{four_below}
use Rattle.record.proofs.arguments_sound.Goals as goal

pub returns : goal.returns
unfolding argument_is_zero
returns c =
    let test : (ℕ × Argument) → Bool = λ q. pick (ltb q.0 c.args.e.now.count) (argument_sound c.args.len c.args.e.now.old q.1) (argument_is_zero q.1) in
    all_from_yields_List test _ _ c.all.result c.all.ensures.ran (YieldsList-from_enumerate (YieldsList-from_slice c.args.e.now.arguments cc) cc) (λ x b q k. search (rules, tests))
    ∙ four_below _ _ (grind arith)
