-- What the builder of a call needs of its parts, over plain variables. Assumes nothing.
use mathlib.Core.Path.{◌≡◌}
use mathlib.Core.List.{List, [], ◌∷◌, ◌++◌}
use Prim.Native.Nat.{ℕ, ◌+◌, ◌-◌, ◌*◌, ◌≤◌, min}
use native.Mathlib.Omega.{arith}
use lib.Dec.{ltb}
use lib.ListN.{take, replicate}
use Rattle.rules.specs.declared.Ring.{Ring}
use Rattle.rules.specs.declared.Level.{Level}
use Rattle.std.specs.Prelude.{Ok}
use Rattle.rules.specs.declared.Request.{Request}
use Rattle.rules.specs.declared.Seen.{Seen}
use Rattle.rules.specs.Tests.{pick}
use Rattle.rules.specs.Rings.{larger_of}
use Rattle.rules.specs.Memory.{spot, words, puts, apply}
use Rattle.rules.specs.Made.{next_serial}
use Rattle.rules.specs.Arguments.{copies_of, pointing}
use Rattle.rules.specs.Call.{entered, end_of, copies_at, arguments, making, frame_stores, base_stores, call_stores}
use Rattle.rules.proofs.Memory.{then}
use Rattle.calls.proofs.Laws.{taken}

-- the words gathered, and the stores of the parts, are the stores of the call
pub built : (m : List ℕ) (r : Ring) (made calls serial : ℕ) (q : Request) (v : Seen) (to : Ring) (level : Level) (next : ℕ)
    (caller list copied s t : List ℕ)
    → v.decision ≡ Ok to
    → v.handed.count ≤ 4
    → caller ≡ words m (spot v.len r.0 q.frame) (min 32 64) ++ replicate (64 - 32) 0
    → list ≡ words m (spot v.len r.0 q.place) (min (1 + 4 * v.handed.count) 64) ++ replicate (64 - (1 + 4 * v.handed.count)) 0
    → take v.handed.words copied ≡ pick (ltb r.0 to.0) (copies_of m v.len r.0 (arguments v)) []
    → s ≡ apply v.len
    (making v.len made to.0 ++ frame_stores (take 32 caller) r.0 q.frame to.0 v.fresh v.used (end_of v)
    ++ puts to.0 (v.fresh + 32)
    (pick (ltb r.0 to.0) (v.handed.count ∷ pointing to.0 (copies_at v) (arguments v)) (take (1 + 4 * v.handed.count) list))
    ++ puts to.0 (copies_at v) (take v.handed.words copied)) m
    → level ≡ larger_of (larger_of v.saved r) to
    → next ≡ next_serial serial
    → t ≡ apply v.len (base_stores to.0 (calls + 1) level next) s
    → t ≡ apply v.len (call_stores m r made calls serial q v) m
unfolding call_stores
built m r made calls serial q v to level next caller list copied s t e few ec el eo es lv ns et =
    let c : take 32 caller ≡ words m (spot v.len r.0 q.frame) 32 = taken m caller _ 32 (omega arith) ec in
    let l : take (1 + 4 * v.handed.count) list ≡ words m (spot v.len r.0 q.place) (1 + 4 * v.handed.count) = taken m list _ (1 + 4 * v.handed.count) (omega arith) el in
    let is : entered v.decision ≡ to = rw e in
    rw is (then v.len _ _ m s t (rw (c, l, eo) at es) (rw (lv, ns) at et))
