use Rattle.std.proofs.Common.{sym, ◌∙◌, arith}
use Rattle.calls.proofs.Laws.{headed}
use Rattle.calls.proofs.Entering.build_list.Goals as goal

pub returns-then-is_outward : goal.returns-then-is_outward
returns-then-is_outward c =
    rw (sym c.is_outward.ensures ∙ c.if-is_outward.true) (headed _ _ _ _ _ _ _ _ _ (omega arith) c.store_word.ensures c.point_list.ensures)
