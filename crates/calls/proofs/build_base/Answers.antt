use Rattle.rules.specs.Memory.{puts}
use Rattle.rules.specs.Call.{base_stores}
use Rattle.rules.proofs.Memory.{then}
use Rattle.calls.proofs.build_base.Goals as goal

pub returns : goal.returns
unfolding base_stores puts
returns c = then _ _ _ _ _ _ c.store_pointer.ensures c.store_word.ensures
