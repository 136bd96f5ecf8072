-- Demand 3 (specs/History.antt), proved of every step of every run. Assumes nothing.
use mathlib.Core.Path.{◌≡◌, refl, sym, ap, ◌∙◌, subst}
use mathlib.Core.Logic.{⊎_elim, ◌⊎◌, inl, inr}
use mathlib.Core.Bool.{Bool, true, false}
use mathlib.Core.List.{List, [], ◌∷◌, ◌++◌}
use Prim.Native.Nat.{ℕ, ◌+◌, ◌*◌, ◌<◌, ◌≤◌}
use native.Mathlib.Nat.{lt_irrefl, suc-mul, mul-le-mul_right}
use native.Mathlib.Omega.{arith}
use lib.ListN.{length, take}
use Rattle.rules.specs.declared.Ring.{Ring}
use Rattle.rules.specs.declared.Entry.{Entry}
use Rattle.rules.specs.declared.Process.{Process}
use Rattle.rules.specs.declared.Request.{Request}
use Rattle.rules.specs.declared.Answer.{Answer}
use Rattle.rules.specs.Answer.{Verdict}
use Rattle.std.specs.Prelude.{Ok, Err}
use Rattle.rules.specs.Tests.{pick}
use Rattle.rules.specs.Memory.{spot, word, Store, puts, apply, stack_length}
use Rattle.rules.specs.Record.{process_sound, newest, struck}
use Rattle.rules.specs.Call.{to, call_verdict, call_stores, call_entry, call_next}
use Rattle.rules.specs.Return.{back_stores, return_verdict, return_stores, return_answer}
use Rattle.rules.specs.Step.{Event, starts, crosses, writes, looks, State, returns, reach_verdict, verdict, ground, stores, next, outcome, memory_after, step}
use Rattle.rules.specs.History.{Done, begins, Run, Call, unstruck, calls_in, sees, into, entry_in, ring_of, is_entered, May, written, Restored, Falls, gate, back, Demand3}
use Rattle.rules.proofs.Memory.{Each, nothing, each_puts, framed, apply-append, length-apply, inside}
use Rattle.rules.proofs.Record.{newest_is}
use Rattle.rules.proofs.Verdicts.{reach_facts}
use Rattle.rules.proofs.Called.{called}
use Rattle.rules.proofs.Extent.{each_call, each_return, each_back, lands}
use Rattle.rules.proofs.Runs.{top_of, added_is, struck_is, accepted_memory, accepted_process, refused-process, refused-step, Returned, returned, Inv, kept}

module _ (top : ℕ) (f : List ℕ) where
  -- ---- claim 5: the words that change

  -- the stores of an accepted step, whatever was asked, are in their stacks and are named words
  MayIn : State → Event → ℕ → ℕ → Type 0
  MayIn s e k o = (o < stack_length s.memory) × May f s e k o

  crossing_may : (s : State) (q : Request) (b : Bool) → returns q ≡ b
      → pick b (return_verdict top f s.memory s.process q) (call_verdict top f s.memory s.process q) ≡ Ok tt
      → Each (MayIn s (crosses q))
      (pick b (return_stores s.memory (stack_length s.memory) s.process.ring (newest s.process))
      (call_stores s.memory s.process.ring s.process.made s.process.calls s.process.serial q (sees f s q)))
  unfolding MayIn
  crossing_may s q true w v =
      let t = returned top f s q v in each_return top f s q w t.long.1 t.open_entry
  crossing_may s q false w v = each_call top f s q w (called top f s.memory s.process q v)

  stores_may : (s : State) (e : Event) → begins e (verdict top f s e) ≡ false → verdict top f s e ≡ Ok tt → Each (MayIn s e) (stores top f s e)
  unfolding MayIn reach_verdict
  stores_may s (starts k) b v = absurd (let n : begins (starts k) (Ok tt) ≡ false = rw v at b in let z : ◌≡◌ {A = ℕ} 0 1 = cc in omega arith)
  stores_may s (crosses q) b v = crossing_may s q (returns q) refl v
  stores_may s (writes k at w) b v =
      let h = reach_facts top (stack_length s.memory) (process_sound top (stack_length s.memory) s.process) s.process.ring k at 1 v in
      each_puts (MayIn s (writes k at w)) k.0 at (w ∷ [])
      (λ i l. let z : at + i ≡ at = omega arith in rw z (omega (arith, h.inside), written h.above))
  stores_may s (looks k at) b v = nothing

  -- a step that is no accepted start stores into the store it was handed
  ground_is : (s : State) (e : Event) (v : Verdict) → begins e v ≡ false → v ≡ Ok tt → ground top f s e ≡ s.memory
  ground_is s (starts k) (Ok tt) b v = absurd (let z : ◌≡◌ {A = ℕ} 0 1 = cc in omega arith)
  ground_is s (starts k) (Err r) b v = absurd (let z : ◌≡◌ {A = ℕ} 0 1 = cc in omega arith)
  ground_is s (crosses q) v b w = refl
  ground_is s (writes k at x) v b w = refl
  ground_is s (looks k at) v b w = refl

  words_change : (s : State) (e : Event) (v : Verdict) → verdict top f s e ≡ v → begins e v ≡ false → (k o : ℕ) → o < stack_length s.memory
      → (word (step top f s e).memory (spot (stack_length s.memory) k o) ≡ word s.memory (spot (stack_length s.memory) k o))
      ⊎ ((v ≡ Ok tt) × May f s e k o)
  unfolding MayIn
  words_change s e (Err x) v b k o l = inl (ap (λ (t : State). word t.memory (spot (stack_length s.memory) k o)) (refused-step top f s e x v))
  words_change s e (Ok tt) v b k o l =
      let L = stack_length s.memory in
      let g = ground_is s e (Ok tt) b refl in
      let m : memory_after top f s e ≡ apply L (stores top f s e) s.memory = accepted_memory top f s e v ∙ ap (apply L (stores top f s e)) g in
      let each = stores_may s e (ap (begins e) v ∙ b) v in
      ⊎_elim
      (λ h. inl (ap (λ (t : List ℕ). word t (spot L k o)) m ∙ h))
      (λ h. inr (refl, h))
      (framed L (May f s e) (stores top f s e) s.memory each k o l)

  -- ---- the ring after an accepted crossing

  pub ring_called : (s : State) (q : Request) → returns q ≡ false → verdict top f s (crosses q) ≡ Ok tt
      → (step top f s (crosses q)).process.ring ≡ to (sees f s q)
  unfolding call_next
  ring_called s q w v =
      let p = s.process in
      let v' : call_verdict top f s.memory p q ≡ Ok tt = rw w at v in
      let c = called top f s.memory p q v' in
      ap (λ (x : Process). x.ring)
      (accepted_process top f s (crosses q) v ∙ (ap (λ (b : Bool). pick b (struck p) (call_next p q (sees f s q))) w
      ∙ added_is p (call_entry p.ring p.serial q (sees f s q)) (to (sees f s q)) c.tests.room))

  pub ring_returned : (s : State) (q : Request) → returns q ≡ true → verdict top f s (crosses q) ≡ Ok tt
      → (step top f s (crosses q)).process.ring ≡ (newest s.process).old
  ring_returned s q w v =
      let p = s.process in
      let v' : return_verdict top f s.memory p q ≡ Ok tt = rw w at v in
      let t = returned top f s q v' in
      ap (λ (x : Process). x.ring)
      (accepted_process top f s (crosses q) v ∙ (ap (λ (b : Bool). pick b (struck p) (call_next p q (sees f s q))) w ∙ struck_is p t.tests.opens t.few))

  -- ---- claim 4: how the ring falls

  ring-after : (s : State) (e : Event) → verdict top f s e ≡ Ok tt → (step top f s e).process.ring ≡ (next top f s e).ring
  ring-after s e v = ap (λ (p : Process). p.ring) (accepted_process top f s e v)

  falls_way : (r : Ring) (s : State) (q : Request) (u : List Call) (n : ℕ) (g : ℕ → Bool) (b : Bool) → returns q ≡ b
      → pick b (return_verdict top f s.memory s.process q) (call_verdict top f s.memory s.process q) ≡ Ok tt
      → Inv f r s.process u n g
      → (pick b (struck s.process) (call_next s.process q (sees f s q))).ring.0 < s.process.ring.0
      → Falls f s.process.ring u (crosses q)
  unfolding call_next call_entry
  falls_way r s q u n g false w v i less =
      let c = called top f s.memory s.process q v in
      let p = s.process in
      let t = to (sees f s q) in
      let is : (call_next p q (sees f s q)).ring ≡ t = ap (λ (x : Process). x.ring) (added_is p (call_entry p.ring p.serial q (sees f s q)) t c.tests.room) in
      let down : t.0 < p.ring.0 = omega (arith, ap (λ (x : Ring). x.0) is) in
      let a = c.target in
      ⊎_elim
      (λ o. absurd (omega (arith, o.below, ap (λ (x : Ring). x.0) o.into)))
      (λ o. gate w (record { s = a.s; listed = a.listed; above = o.above; within = o.within; gated = o.gated }))
      a.enters.way
  falls_way r s q u n g true w v i less =
      let t = returned top f s q v in
      let p = s.process in
      let some = t.tests.opens in
      let c = top_of (entry_in f) p.calls p.entries u some i.entries in
      let new : newest p ≡ entry_in f c.call = newest_is p some t.few ∙ c.entry in
      let old : (newest p).old ≡ c.call.before.process.ring = ap (λ (x : Entry). x.old) new in
      let here : p.ring ≡ into f c.call = i.ring ∙ ap (ring_of f r) c.is in
      let is : (struck p).ring ≡ (newest p).old = ap (λ (x : Process). x.ring) (struck_is p some t.few) in
      let down : c.call.before.process.ring.0 < (into f c.call).0 = omega (arith, ap (λ (x : Ring). x.0) old, ap (λ (x : Ring). x.0) here, ap (λ (x : Ring). x.0) is) in
      rw c.is (back w down)

  ring-falls : (r : Ring) (s : State) (u : List Call) (n : ℕ) (g : ℕ → Bool) (e : Event) (v : Verdict) → verdict top f s e ≡ v → begins e v ≡ false
      → Inv f r s.process u n g → (step top f s e).process.ring.0 < s.process.ring.0 → (v ≡ Ok tt) × Falls f s.process.ring u e
  ring-falls r s u n g e (Err x) v b i less =
      absurd (lt_irrefl s.process.ring.0 (rw (refused-process top f s e x v) at less))
  ring-falls r s u n g (starts k) (Ok tt) v b i less = absurd (let z : ◌≡◌ {A = ℕ} 0 1 = cc in omega arith)
  ring-falls r s u n g (crosses q) (Ok tt) v b i less =
      (refl, falls_way r s q u n g (returns q) refl v i (rw (accepted_process top f s (crosses q) v) at less))
  ring-falls r s u n g (writes k at x) (Ok tt) v b i less =
      absurd (lt_irrefl s.process.ring.0 (rw (accepted_process top f s (writes k at x) v) at less))
  ring-falls r s u n g (looks k at) (Ok tt) v b i less =
      absurd (lt_irrefl s.process.ring.0 (rw (accepted_process top f s (looks k at) v) at less))

  -- ---- claim 3: what a return restores

  length_kept : (L : ℕ) (ss : List Store) (m : List ℕ) → stack_length (apply L ss m) ≡ stack_length m
  unfolding stack_length
  length_kept L ss m = rw (length-apply L ss m)

  -- word 3 of the old stack is the entry's level: nothing that is copied back reaches down to it
  level-back : (s : State) (q : Request) → top ≤ 63 → Returned top f s q
      → word (apply (stack_length s.memory) (return_stores s.memory (stack_length s.memory) s.process.ring (newest s.process)) s.memory)
      (spot (stack_length s.memory) (newest s.process).old.0 3)
      ≡ (newest s.process).level.0
  unfolding return_stores
  level-back s q low t =
      let L = stack_length s.memory in
      let m = s.memory in
      let e = newest s.process in
      let h = t.open_entry in
      let left = puts s.process.ring.0 0 (s.process.ring.0 ∷ e.prior ∷ []) in
      let level = puts e.old.0 3 (e.level.0 ∷ []) in
      let args = back_stores m L s.process.ring.0 e.old.0 (e.fresh + (33 + 4 * e.count)) (take e.count e.arguments) in
      let m1 = apply L left m in
      let m2 = apply L level m1 in
      let split : apply L (left ++ level ++ args) m ≡ apply L args m2 = apply-append L (left ++ level) args m ∙ ap (apply L args) (apply-append L left level m) in
      let high : Each (λ k o. (o < L) × (8 ≤ o)) args =
      each_back (λ k o. (o < L) × (8 ≤ o)) m L s.process.ring.0 e.old.0 (e.fresh + (33 + 4 * e.count)) (take e.count e.arguments)
      (λ o c. let n = lands top L s.process.made s.process.ring e o h c in (n.fits, n.low))
      in
      let stays : word (apply L args m2) (spot L e.old.0 3) ≡ word m2 (spot L e.old.0 3) =
      ⊎_elim (λ (x : word (apply L args m2) (spot L e.old.0 3) ≡ word m2 (spot L e.old.0 3)). x) (λ x. absurd (lt_irrefl 3 (omega (arith, x))))
      (framed L (λ k o. 8 ≤ o) args m2 high e.old.0 3 (omega (arith, t.long.1)))
      in
      let small : e.old.0 ≤ 63 = omega (arith, h.raised, h.level) in
      let room : spot L e.old.0 3 + 1 ≤ length m1 = rw length-apply (omega (arith, t.long.0, t.long.1, suc-mul e.old.0 L, mul-le-mul_right {m = e.old.0 + 1} {n = 64} L (omega arith))) in
      let there = inside L e.old.0 3 0 (e.level.0 ∷ []) m1 (omega arith) room in
      ap (λ (x : List ℕ). word x (spot L e.old.0 3)) split ∙ (stays ∙ there)

  restores : (r : Ring) (s : State) (q : Request) (u : List Call) (n : ℕ) (g : ℕ → Bool) → top ≤ 63 → returns q ≡ true
      → verdict top f s (crosses q) ≡ Ok tt → Inv f r s.process u n g
      → (c : Call) × (cs : List Call) × (u ≡ c ∷ cs) × Restored f (step top f s (crosses q)) (outcome top f s (crosses q)).answer c
  unfolding call_entry return_answer outcome
  restores r s q u n g low w v i =
      let L = stack_length s.memory in
      let p = s.process in
      let v' : return_verdict top f s.memory p q ≡ Ok tt = rw w at v in
      let t = returned top f s q v' in
      let some = t.tests.opens in
      let c = top_of (entry_in f) p.calls p.entries u some i.entries in
      let new : newest p ≡ entry_in f c.call = newest_is p some t.few ∙ c.entry in
      let old = ap (λ (x : Entry). x.old) new in
      let m : memory_after top f s (crosses q) ≡ apply L (return_stores s.memory L p.ring (newest p)) s.memory = rw w at (accepted_memory top f s (crosses q) v) in
      let a : (outcome top f s (crosses q)).answer ≡ return_answer (newest p) = rw (v, w) in
      let same : stack_length (memory_after top f s (crosses q)) ≡ L = ap stack_length m ∙ length_kept L _ s.memory in
      let is : (struck p).ring ≡ (newest p).old = ap (λ (x : Process). x.ring) (struck_is p some t.few) in
      let after : (outcome top f s (crosses q)).process ≡ struck p = accepted_process top f s (crosses q) v ∙ ap (λ (b : Bool). pick b (struck p) (call_next p q (sees f s q))) w in (
        c.call,
        c.rest,
        c.is,
        record {
          ring = ap (λ (x : Process). x.ring) after ∙ (is ∙ old);
          level =
              ap (λ (x : ℕ). word (memory_after top f s (crosses q)) (spot x c.call.before.process.ring.0 3)) same
              ∙ (ap (λ (x : List ℕ). word x (spot L c.call.before.process.ring.0 3)) m
              ∙ (ap (λ (x : Ring). word (apply L (return_stores s.memory L p.ring (newest p)) s.memory) (spot L x.0 3)) (sym old)
              ∙ (level-back s q low t ∙ ap (λ (x : Entry). x.level.0) new)));
          frame = ap (λ (x : Answer). x.frame) a ∙ ap (λ (x : Entry). x.frame) new;
          place = ap (λ (x : Answer). x.place) a ∙ ap (λ (x : Entry). x.place) new;
          segment = ap (λ (x : Answer). x.segment) a ∙ ap (λ (x : Entry). x.segment) new;
          offset = ap (λ (x : Answer). x.offset) a ∙ ap (λ (x : Entry). x.offset) new;
        },
      )

  -- ---- demand 3

  pub demand3 : {r : Ring} {s : State} {h : List Done} → top ≤ 63 → Run top f r s h → (e : Event) → begins e (verdict top f s e) ≡ false
      → Demand3 top f r s h e
  demand3 {r} {s} {h} low run e b =
      let i = kept top low f r run in
      record {
        ring = i.ring;
        entries = i.entries;
        count = i.count;
        serial = i.serial;
        made = i.made;
        restored = restored;
        falls = ring-falls r s (unstruck h) (calls_in h) (is_entered f r h) e (verdict top f s e) refl b i;
        words = words_change s e (verdict top f s e) refl b;
        refused = λ r v. refused-step top f s e r v;
      }
    where
      restored : (q : Request) → e ≡ crosses q → returns q ≡ true → verdict top f s e ≡ Ok tt
          → (c : Call) × (cs : List Call) × (unstruck h ≡ c ∷ cs) × Restored f (step top f s e) (outcome top f s e).answer c
      restored q is w v =
          subst (λ (x : Event). (c : Call) × (cs : List Call) × (unstruck h ≡ c ∷ cs) × Restored f (step top f s x) (outcome top f s x).answer c) (sym is)
          (restores r s q (unstruck h) (calls_in h) (is_entered f r h) low w (rw is at v) (kept top low f r run))
