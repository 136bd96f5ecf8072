use borrow.Author.Tests.{eq-eqb, ne_eqb}
use Rattle.gatekeeper.proofs.Crossing.{by_return, by_call}
use Rattle.gatekeeper.proofs.cross.Goals as goal

pub returns-then-q-eq1 : goal.returns-then-q-eq1
returns-then-q-eq1 c =
    let h = c.give_back.ensures in
    let r = by_return c.args.file.now c.args.s.now c.args.p c.args.q _ _ (eq-eqb _ _ c.if-q-eq1.true) h.value h.s_after in
    record { value = r.0; s_after = r.1 }

pub returns : goal.returns
returns c =
    let h = c.call.ensures in
    let r = by_call c.args.file.now c.args.s.now c.args.p c.args.q _ _ (ne_eqb _ _ c.if-q-eq1.false) h.value h.s_after in
    record { value = r.0; s_after = r.1 }
