use Rattle.std.proofs.Common.{◌∙◌, rules, tests, arith}
use Rattle.std.proofs.lemmas.Iterator.{YieldsList-from_slice, YieldsList-from_map}
use Rattle.std.proofs.lemmas.Iterator.Adapters.{fits_from_length, at_most_from_yields_List}
use Rattle.std.proofs.lemmas.Iterator.Consumers.{sum_by_from_yields_List}
use Rattle.rules.specs.declared.Argument.{Argument}
use Rattle.rules.proofs.Sums.{words_summed, total}
use Rattle.rules.proofs.all_lengths.Goals as goal

pub sum-requires-clause-fits : goal.sum-requires-clause-fits
sum-requires-clause-fits c = fits_from_length _ _ 4 _ (at_most_from_yields_List (YieldsList-from_slice c.args.arguments.now cc) (grind arith)) c.map.ensures.closure (omega arith) (λ x r q k. search (rules, tests))

pub returns : goal.returns
returns c =
    record {
      value = sum_by_from_yields_List (λ (a : Argument). a.length) c.args.arguments.now c.map.result _ c.sum.ensures.ran
          (YieldsList-from_map _ (λ (a : Argument). a.length) (YieldsList-from_slice c.args.arguments.now cc) c.map.ensures.closure (λ x r q k. search (rules, tests)))
          ∙ words_summed c.args.arguments.now;
      result_bound = total _ _ (c.sum.ensures.runs tt) (at_most_from_yields_List (YieldsList-from_slice c.args.arguments.now cc) (grind arith)) c.map.ensures.closure (λ x r q k. search (rules, tests));
    }
