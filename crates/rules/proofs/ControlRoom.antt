-- The three sentences that the control room would say, and one on the spare words, each a short theorem from demand 3. Assumes nothing.
use mathlib.Core.Path.{◌≡◌, refl, sym, ap, ◌∙◌}
use mathlib.Core.Logic.{⊎_elim, ◌⊎◌, inl, inr}
use mathlib.Core.Bool.{true, false, false≢true}
use mathlib.Core.List.{List, ◌∷◌}
use Prim.Native.Nat.{ℕ, ◌<◌, ◌≤◌}
use native.Mathlib.Omega.{arith}
use lib.ListN.{take}
use Rattle.rules.specs.declared.Ring.{Ring}
use Rattle.rules.specs.declared.Request.{Request}
use Rattle.std.specs.Prelude.{Ok}
use Rattle.rules.specs.Memory.{spot, word, stack_length}
use Rattle.rules.specs.Made.{is_made}
use Rattle.rules.specs.Record.{newest}
use Rattle.rules.specs.Step.{Event, crosses, writes, State, returns, verdict, outcome, step}
use Rattle.rules.specs.History.{Done, begins, Run, Call, unstruck, into, sees, new_ring, May, written, call_left, call_frame, call_list, call_copies, call_base, call_making, return_left, return_level, return_argument, Covers, Restored, ByGate, Falls, gate, back}
use Rattle.rules.proofs.Called.{called, fresh_high}
use Rattle.rules.proofs.Extent.{lands}
use Rattle.rules.proofs.Runs.{returned, run_long}
use Rattle.rules.proofs.Demand3.{demand3, ring_called, ring_returned}

module _ (top : ℕ) (low : top ≤ 63) (f : List ℕ) {r : Ring} {s : State} {h : List Done} (run : Run top f r s h) where
  -- "No program outside reaches a keeper but through a listed gate": an accepted call into a lower ring aims at a gate that the segment
  -- file lists, from that segment's call bracket; and the only other way down is the return to a keeper that had itself called outward.
  pub record GoesBack : Type 0 where
    pub call : Call
    pub rest : List Call
    pub newest_call : unstruck h ≡ call ∷ rest
    pub outward : call.before.process.ring.0 < (into f call).0

  pub only_by_gate : (e : Event) → begins e (verdict top f s e) ≡ false → (step top f s e).process.ring.0 < s.process.ring.0
      → ((q : Request) × (e ≡ crosses q) × (returns q ≡ false) × ByGate f s.process.ring q) ⊎ GoesBack
  only_by_gate e b less = go (unstruck h) refl ((demand3 top f low run e b).falls less).1
    where
      go : {e : Event} (u : List Call) → unstruck h ≡ u → Falls f s.process.ring u e
          → ((q : Request) × (e ≡ crosses q) × (returns q ≡ false) × ByGate f s.process.ring q) ⊎ GoesBack
      go u is (gate {q = q} w g) = inl (q, refl, w, g)
      go u is (back {c = c} {cs = cs} w l) = inr (record { call = c; rest = cs; newest_call = is; outward = l })

  -- "What an outer program writes cannot change where a return goes": an accepted return gives back the frame, the argument place and
  -- the return place as they stood when the call that it strikes was made, whatever was written since.
  pub return_goes : (q : Request) → returns q ≡ true → verdict top f s (crosses q) ≡ Ok tt
      → (c : Call) × (cs : List Call) × (unstruck h ≡ c ∷ cs) × Restored f (step top f s (crosses q)) (outcome top f s (crosses q)).answer c
  return_goes q w v = (demand3 top f low run (crosses q) refl).restored q refl w v

  -- the accepted crossing e goes into or out of ring k: k is the ring before the step, or the ring after it
  pub record Crosses (e : Event) (k : ℕ) : Type 0 where
    pub request : Request
    pub is : e ≡ crosses request
    pub accepted : verdict top f s e ≡ Ok tt
    pub side : (s.process.ring.0 ≡ k) ⊎ ((step top f s e).process.ring.0 ≡ k)

  -- the accepted write e stores word o of stack k, from the stack's own ring or a lower one
  pub record Writes (e : Event) (k o : ℕ) : Type 0 where
    pub stack : Ring
    pub value : ℕ
    pub is : e ≡ writes stack o value
    pub own : stack.0 ≡ k
    pub accepted : verdict top f s e ≡ Ok tt
    pub lower : s.process.ring.0 ≤ k

  -- "A keeper's stack is touched only by its own ring, lower rings, and crossings into or out of it."
  pub touched_only : (e : Event) → begins e (verdict top f s e) ≡ false → (k o : ℕ) → o < stack_length s.memory
      → (word (step top f s e).memory (spot (stack_length s.memory) k o) ≡ word s.memory (spot (stack_length s.memory) k o))
      ⊎ (Writes e k o ⊎ Crosses e k)
  touched_only e b k o l = ⊎_elim inl (λ m. inr (by m.1 m.0)) ((demand3 top f low run e b).words k o l)
    where
      leaves : (q : Request) → verdict top f s (crosses q) ≡ Ok tt → Crosses (crosses q) s.process.ring.0
      leaves q v = record { request = q; is = refl; accepted = v; side = inl refl }

      calls : (q : Request) → returns q ≡ false → verdict top f s (crosses q) ≡ Ok tt → Crosses (crosses q) (new_ring f s q)
      calls q w v = record { request = q; is = refl; accepted = v; side = inr (ap (λ (x : Ring). x.0) (ring_called top f s q w v)) }

      goes_back : (q : Request) → returns q ≡ true → verdict top f s (crosses q) ≡ Ok tt → Crosses (crosses q) (newest s.process).old.0
      goes_back q w v = record { request = q; is = refl; accepted = v; side = inr (ap (λ (x : Ring). x.0) (ring_returned top f s q w v)) }

      by : {e : Event} {k o : ℕ} → May f s e k o → verdict top f s e ≡ Ok tt → Writes e k o ⊎ Crosses e k
      by (written {k = j} {v = w} a) v = inl (record { stack = j; value = w; is = refl; own = refl; accepted = v; lower = a })
      by (call_left {q = q} w a) v = inr (leaves q v)
      by (call_frame {q = q} w a b) v = inr (calls q w v)
      by (call_list {q = q} w a b) v = inr (calls q w v)
      by (call_copies {q = q} w a b c) v = inr (calls q w v)
      by (call_base {q = q} w a b) v = inr (calls q w v)
      by (call_making {q = q} w a) v = inr (calls q w v)
      by (return_left {q = q} w a) v = inr (leaves q v)
      by (return_level {q = q} w) v = inr (goes_back q w v)
      by (return_argument {q = q} w a b) v = inr (goes_back q w v)

  -- "5-7 spare": of a made stack they change by an accepted write of that very word alone.
  pub spare : (e : Event) → begins e (verdict top f s e) ≡ false → (k o : ℕ) → is_made s.process.made k ≡ true → 5 ≤ o → o < 8
      → (word (step top f s e).memory (spot (stack_length s.memory) k o) ≡ word s.memory (spot (stack_length s.memory) k o))
      ⊎ Writes e k o
  spare e b k o made lo hi =
      ⊎_elim inl (λ m. by m.1 m.0 made lo hi) ((demand3 top f low run e b).words k o (omega (arith, run_long run)))
    where
      high : (q : Request) → returns q ≡ false → verdict top f s (crosses q) ≡ Ok tt → 40 ≤ (sees f s q).fresh
      high q w v = fresh_high top f s.memory s.process q (called top f s.memory s.process q (rw w at v))

      back_high : {o : ℕ} (q : Request) → returns q ≡ true → verdict top f s (crosses q) ≡ Ok tt
          → Covers (take (newest s.process).count (newest s.process).arguments) o → 8 ≤ o
      back_high {o} q w v c = (lands top (stack_length s.memory) s.process.made s.process.ring (newest s.process) o (returned top f s q (rw w at v)).open_entry c).low

      by : {e : Event} {k o : ℕ} → May f s e k o → verdict top f s e ≡ Ok tt → is_made s.process.made k ≡ true → 5 ≤ o → o < 8
          → (word (step top f s e).memory (spot (stack_length s.memory) k o) ≡ word s.memory (spot (stack_length s.memory) k o))
          ⊎ Writes e k o
      by (written {k = j} {v = w} a) v m l h = inr (record { stack = j; value = w; is = refl; own = refl; accepted = v; lower = a })
      by (call_left w a) v m l h = absurd (omega arith)
      by (call_frame {q = q} w a b) v m l h = absurd (omega (arith, high q w v))
      by (call_list {q = q} w a b) v m l h = absurd (omega (arith, high q w v))
      by (call_copies {q = q} w a b c) v m l h = absurd (omega (arith, high q w v))
      by (call_base w a b) v m l h = absurd (omega arith)
      by (call_making w a) v m l h = absurd (false≢true (sym a ∙ m))
      by (return_left w a) v m l h = absurd (omega arith)
      by (return_level w) v m l h = absurd (omega arith)
      by (return_argument {q = q} w a c) v m l h = absurd (omega (arith, back_high q w v c))
