use Rattle.returns.proofs.Laws.{all_set}
use Rattle.returns.proofs.set_back.Goals as goal

pub returns : goal.returns
returns c =
    all_set _ _ _ _ _ _ _ _ c.requires c.gather-copies.ensures c.store_pointer.ensures c.store_word.ensures c.copy_back.ensures
