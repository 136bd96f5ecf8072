use Rattle.std.proofs.Common.{arith, refl}
use Rattle.run.proofs.Laws.{part_runs}
use Rattle.run.proofs.LentAnswers.answer.Goals as goal

pub returns-clause-lines : goal.returns-clause-lines
returns-clause-lines c =
    let done = c.answer-done.ensures in
    (part_runs _ _ _ c.args.out.now _ _ c.answer-done.result done.value (omega arith) done.out_after done.s_after, refl)
