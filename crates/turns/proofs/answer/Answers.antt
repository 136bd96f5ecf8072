use Rattle.std.proofs.Common.{Err, ◌∙◌, arith}
use Rattle.desk.specs.Records.{wrong}
use Rattle.desk.proofs.Laws.{first_of}
use Rattle.turns.proofs.Going.{line-short, begins, goes_on, none_left, some_left}
use Rattle.turns.proofs.answer.Goals as goal

pub loop-record-init : goal.loop-record-init
loop-record-init c =
    let k = c.chunks_exact-record-items.ensures in
    let it = c.into_iter-record-iterator.ensures.into_iter_gives in
    record { size = rw it k.size; going = begins _ _ _ _ _ _ (rw (it, k.rest, c.min.ensures, first_of)) }

pub loop-record-preserved : goal.loop-record-preserved
loop-record-preserved c =
    let i = c.loop-record.invariant in
    let step = c.in-Some.ensures.steps in
    record {
      size = step.0 ∙ i.size;
      going =
          goes_on _ _ _ _ _ _ _ _ _ _ i.going _ _ _ _ _ _ _ _ step.1.0 (step.1.1 ∙ i.size)
          c.read_record.ensures c.try_from-asked.ensures c.turn-o.ensures.value c.turn-o.ensures.s_after c.put_turn-at.ensures.value c.put_turn-at.ensures.out_after;
    }

pub returns-else-taken-ne0 : goal.returns-else-taken-ne0
returns-else-taken-ne0 c =
    let i = c.loop-record.invariant in
    let d = none_left _ _ _ _ _ _ _ _ _ _ i.going (rw i.size at c.in-None.ensures.steps.1.0) (omega (arith, rw (c.min.ensures, first_of) at c.if-taken-ne0.false)) in
    record { value = d.0; at_bound = omega (arith, i.going.small); out_after = d.1; s_after = d.2 }

pub returns-then-taken-ne0 : goal.returns-then-taken-ne0
returns-then-taken-ne0 c =
    let i = c.loop-record.invariant in
    let d =
    some_left _ _ _ _ _ _ _ _ _ _ i.going (rw i.size at c.in-None.ensures.steps.1.0) _ _ _ (λ e. (rw (c.min.ensures, first_of) at c.if-taken-ne0.true) (omega (arith, e))) c.wrong.ensures c.put_turn-at-then-taken-ne0.ensures.value c.put_turn-at-then-taken-ne0.ensures.out_after in
    record { value = d.0; at_bound = omega (arith, i.going.small, line-short (Err wrong) c.wrong.result); out_after = d.1; s_after = d.2 }
