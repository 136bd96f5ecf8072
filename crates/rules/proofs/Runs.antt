-- What every run keeps: ring, entries, count, serial and made set against the history (claims 1 and 2 of specs/History.antt).
-- Assumes nothing.
use mathlib.Core.Path.{◌≡◌, refl, sym, ap, ap₂, ◌∙◌}
use mathlib.Core.Bool.{Bool, true, false, ◌||◌, or-true, or-false}
use mathlib.Core.List.{List, [], ◌∷◌, map}
use Prim.Native.Nat.{ℕ, zero, suc, ◌+◌, ◌-◌, ◌*◌, ◌/◌, ◌%◌, ◌^◌, ◌<◌, ◌≤◌}
use native.Mathlib.Numerals.{add-one}
use native.Mathlib.Nat.{not-suc-le-zero, div-eq_of_lt}
use native.Mathlib.Decide.{ℕ_discrete}
use native.Mathlib.Omega.{arith}
use lib.Dec.{eqb}
use lib.Pow.{pow_pos}
use lib.ListN.{length, get_or, set, length-set, length-replicate}
use lib.Seq.{get_or-set_same, get_or-set_other}
use borrow.Author.Tests.{lt-ltb, le-leb, eq-eqb, ne_eqb}
use Rattle.rules.specs.declared.Ring.{Ring}
use Rattle.rules.specs.declared.Entry.{Entry}
use Rattle.rules.specs.declared.Process.{Process}
use Rattle.rules.specs.declared.Request.{Request}
use Rattle.rules.specs.Answer.{Verdict, memory_by, outcome_by}
use Rattle.std.specs.Prelude.{Ok, Err}
use Rattle.rules.specs.declared.Refused.{Refused}
use Rattle.rules.specs.Tests.{pick}
use Rattle.rules.specs.Memory.{apply, stack_length}
use Rattle.rules.specs.Made.{is_made, with_made, next_serial}
use Rattle.rules.specs.Segments.{file_sound}
use Rattle.rules.specs.Record.{no_entry, zero_entry, opened, process_sound, newest, added, struck}
use Rattle.rules.specs.Call.{to, call_verdict, call_entry, call_next}
use Rattle.rules.specs.Return.{return_verdict}
use Rattle.rules.specs.Step.{Event, starts, crosses, writes, looks, State, returns, start_next, verdict, ground, stores, next, given, outcome, memory_after, step}
use Rattle.rules.specs.History.{Done, begins, Run, begun, then, Call, tail, unstruck, calls_in, sees, entry_in, ring_of, is_entered}
use Rattle.rules.proofs.Made.{with_made_lem, with_other, serial-step}
use Rattle.rules.proofs.Memory.{length_told, length-apply}
use Rattle.rules.proofs.Record.{whole, newest_is, newest_open, Held, held}
use Rattle.rules.proofs.Verdicts.{JudgedBack, return_facts, start_facts}
use Rattle.rules.proofs.Called.{called}

-- ---- the open entries of an array

-- entries below a place do not see what is set there
opened_set : (n k : ℕ) (es : List Entry) (e : Entry) → n ≤ k → opened n (set es k e) ≡ opened n es
unfolding opened
opened_set zero k es e h = refl
opened_set (suc n) k es e h =
    ap₂ (λ (x : Entry) (l : List Entry). x ∷ l) (get_or-set_other es k n e no_entry (λ q. omega arith)) (opened_set n k es e (omega arith))

-- one entry more
opened_add : (n : ℕ) (es : List Entry) (e : Entry) → n < length es → opened (n + 1) (set es n e) ≡ e ∷ opened n es
unfolding opened
opened_add n es e h = rw (add-one, get_or-set_same es n e no_entry, opened_set n n es e (omega arith))

-- the newest of the open entries, and the others
pub record Top {A : Type 0} (g : A → Entry) (n : ℕ) (es : List Entry) (u : List A) : Type 0 where
  pub call : A
  pub rest : List A
  pub is : u ≡ call ∷ rest
  pub entry : get_or es (n - 1) no_entry ≡ g call
  pub others : opened (n - 1) es ≡ map g rest

pub top_of : {A : Type 0} (g : A → Entry) (n : ℕ) (es : List Entry) (u : List A) → 0 < n → opened n es ≡ map g u → Top g n es u
unfolding opened
top_of g zero es u h e = absurd (not-suc-le-zero h)
top_of g (suc n) es [] h e = absurd (let z : ◌≡◌ {A = ℕ} 0 1 = cc in omega arith)
top_of g (suc n) es (c ∷ cs) h e =
    let q : suc n - 1 ≡ n = omega arith in
    record { call = c; rest = cs; is = refl; entry = rw q (let x : get_or es n no_entry ≡ g c = cc in x); others = rw q (let x : opened n es ≡ map g cs = cc in x) }

-- ---- the made set

none_made : (k : ℕ) → is_made 0 k ≡ false
unfolding is_made
none_made k = let e : 0 / 2 ^ k ≡ 0 = div-eq_of_lt (pow_pos k) in rw e

-- a ring is added to a set: the others are as they were
pub made_more : (made t k : ℕ) (b : Bool) → t < 64 → is_made made k ≡ b → is_made (with_made made t) k ≡ b || eqb k t
made_more made t k b low e = go (ℕ_discrete k t)
  where
    go : Dec (k ≡ t) → is_made (with_made made t) k ≡ b || eqb k t
    go (yes q) = rw (eq-eqb k t q, or-true b, q) (with_made_lem made t low)
    go (no q) = rw (ne_eqb k t q, or-false b) (with_other made t low k q ∙ e)

-- ---- the record after a call and after a return

pub added_is : (p : Process) (e : Entry) (t : Ring) → p.calls < 32
    → added p e t ≡ record { ring = t; made = with_made p.made t.0; serial = e.serial; calls = p.calls + 1; entries = set p.entries p.calls e }
unfolding added
added_is p e t room = rw (lt-ltb p.calls 32 room)

pub struck_is : (p : Process) → 0 < p.calls → p.calls ≤ 32
    → struck p ≡ record { ring = (newest p).old; made = p.made; serial = p.serial; calls = p.calls - 1; entries = set p.entries (p.calls - 1) zero_entry }
unfolding struck
struck_is p some most = rw (lt-ltb 0 p.calls some, le-leb p.calls 32 most)

-- ---- a step, by its verdict

module _ (top : ℕ) (f : List ℕ) (s : State) (e : Event) where
  pub accepted_memory : verdict top f s e ≡ Ok tt → memory_after top f s e ≡ apply (stack_length s.memory) (stores top f s e) (ground top f s e)
  unfolding memory_after
  accepted_memory v = rw v

  pub accepted_process : verdict top f s e ≡ Ok tt → (outcome top f s e).process ≡ next top f s e
  unfolding outcome
  accepted_process v = ap (λ (w : Verdict). (outcome_by w s.process (next top f s e) (given top f s e)).process) v

  pub refused-process : (r : Refused) → verdict top f s e ≡ Err r → (outcome top f s e).process ≡ s.process
  unfolding outcome
  refused-process r v = ap (λ (w : Verdict). (outcome_by w s.process (next top f s e) (given top f s e)).process) v

  pub refused-step : (r : Refused) → verdict top f s e ≡ Err r → step top f s e ≡ s
  unfolding outcome memory_after
  refused-step r v = rw v

-- an accepted return, by its facts
pub record Returned (top : ℕ) (f : List ℕ) (s : State) (q : Request) : Type 0 where
  pub tests : JudgedBack (stack_length s.memory) (file_sound top f) (process_sound top (stack_length s.memory) s.process) s.process.calls s.process.ring q (newest s.process)
  pub long : (length s.memory ≡ 64 * stack_length s.memory) × (128 ≤ stack_length s.memory) × (stack_length s.memory ≤ 1024)
  pub few : s.process.calls ≤ 32
  pub open_entry : Held top (stack_length s.memory) s.process.made s.process.ring (newest s.process)

pub returned : (top : ℕ) (f : List ℕ) (s : State) (q : Request) → return_verdict top f s.memory s.process q ≡ Ok tt → Returned top f s q
unfolding return_verdict
returned top f s q e =
    let L = stack_length s.memory in
    let j = return_facts L (file_sound top f) (process_sound top L s.process) s.process.calls s.process.ring q (newest s.process) e in
    record {
      tests = j;
      long = length_told s.memory j.some;
      few = (whole top L s.process j.whole).calls;
      open_entry = held top L s.process.made s.process.ring (newest s.process) (newest_open top L s.process j.whole j.opens);
    }

-- ---- what every run keeps

-- each call was made from the ring that the calls before it, not yet struck, had entered
abbrev pub Chain : List ℕ → Ring → List Call → Type 0
Chain f r [] = Unit {0}
Chain f r (c ∷ cs) = (c.before.process.ring ≡ ring_of f r cs) × Chain f r cs

pub record Inv (f : List ℕ) (r : Ring) (p : Process) (u : List Call) (n : ℕ) (in-set : ℕ → Bool) : Type 0 where
  pub ring : p.ring ≡ ring_of f r u
  pub chain : Chain f r u
  pub entries : opened p.calls p.entries ≡ map (entry_in f) u
  pub count : p.calls ≡ length u
  pub serial : p.serial ≡ n % 2 ^ 32
  pub made : (k : ℕ) → is_made p.made k ≡ in-set k
  pub size : length p.entries ≡ 32

module _ (top : ℕ) (low : top ≤ 63) (f : List ℕ) (r : Ring) where
  -- a call adds itself
  keep_call : (s : State) (q : Request) (u : List Call) (n : ℕ) (in-set : ℕ → Bool) → call_verdict top f s.memory s.process q ≡ Ok tt
      → Inv f r s.process u n in-set
      → Inv f r (call_next s.process q (sees f s q)) (record { before = s; request = q } ∷ u) (n + 1) (λ k. in-set k || eqb k (to (sees f s q)).0)
  unfolding call_next call_entry
  keep_call s q u n in-set v i =
      let c = called top f s.memory s.process q v in
      let p = s.process in
      let e = call_entry p.ring p.serial q (sees f s q) in
      let room = c.tests.room in
      let at : opened (p.calls + 1) (set p.entries p.calls e) ≡ e ∷ opened p.calls p.entries = opened_add p.calls p.entries e (omega (arith, i.size)) in
      rw (added_is p e (to (sees f s q)) room)
      (record {
        ring = refl;
        chain = (i.ring, i.chain);
        entries = at ∙ ap (λ (l : List Entry). e ∷ l) i.entries;
        count = omega (arith, i.count);
        serial = ap next_serial i.serial ∙ serial-step n;
        made = λ k. made_more p.made (to (sees f s q)).0 k (in-set k) (omega (arith, c.below)) (i.made k);
        size = length-set p.entries p.calls e ∙ i.size;
      })

  -- a return strikes the newest
  keep_return : (s : State) (q : Request) (u : List Call) (n : ℕ) (in-set : ℕ → Bool) → return_verdict top f s.memory s.process q ≡ Ok tt
      → Inv f r s.process u n in-set → Inv f r (struck s.process) (tail u) n in-set
  unfolding call_entry
  keep_return s q u n in-set v i =
      let t = returned top f s q v in
      let p = s.process in
      let some = t.tests.opens in
      let c = top_of (entry_in f) p.calls p.entries u some i.entries in
      let old : (newest p).old ≡ c.call.before.process.ring = ap (λ (x : Entry). x.old) (newest_is p some t.few ∙ c.entry) in
      let links : Chain f r (c.call ∷ c.rest) = rw c.is at i.chain in
      let many : p.calls ≡ suc (length c.rest) = i.count ∙ ap length c.is in
      rw (struck_is p some t.few, c.is)
      (record {
        ring = old ∙ links.0;
        chain = links.1;
        entries = opened_set (p.calls - 1) (p.calls - 1) p.entries zero_entry (omega arith) ∙ c.others;
        count = omega (arith, many);
        serial = i.serial;
        made = i.made;
        size = length-set p.entries (p.calls - 1) zero_entry ∙ i.size;
      })

  -- what is kept, of a state and its history
  abbrev pub Kept : State → List Done → Type 0
  Kept s h = Inv f r s.process (unstruck h) (calls_in h) (is_entered f r h)

  -- the record after an accepted start
  keep_start : (s : State) → verdict top f s (starts r) ≡ Ok tt → Kept (step top f s (starts r)) []
  unfolding start_next opened
  keep_start s v =
      let h = start_facts top (stack_length s.memory) r v in
      rw (accepted_process top f s (starts r) v)
      (record {
        ring = refl;
        chain = tt;
        entries = refl;
        count = refl;
        serial = refl;
        made = λ k. made_more 0 r.0 k false (omega (arith, h.1)) (none_made k);
        size = length-replicate 32 zero_entry;
      })

  -- a step that is no call adds nothing to the number of calls and to the rings entered
  quiet : (p : Process) (u : List Call) (n : ℕ) (in-set : ℕ → Bool) → Inv f r p u n in-set → Inv f r p u (n + 0) (λ k. in-set k || false)
  quiet p u n in-set i =
      record {
        ring = i.ring;
        chain = i.chain;
        entries = i.entries;
        count = i.count;
        serial = i.serial ∙ ap (λ (x : ℕ). x % 2 ^ 32) (let z : n ≡ n + 0 = omega arith in z);
        made = λ k. i.made k ∙ sym (or-false (in-set k));
        size = i.size;
      }

  -- a crossing, by its way
  keep_way : (s : State) (q : Request) (b : Bool) (u : List Call) (n : ℕ) (in-set : ℕ → Bool)
      → pick b (return_verdict top f s.memory s.process q) (call_verdict top f s.memory s.process q) ≡ Ok tt
      → Inv f r s.process u n in-set
      → Inv f r (pick b (struck s.process) (call_next s.process q (sees f s q))) (pick b (tail u) (record { before = s; request = q } ∷ u))
      (n + pick b 0 1) (λ k. in-set k || pick b false (eqb k (to (sees f s q)).0))
  keep_way s q true u n in-set v i = quiet (struck s.process) (tail u) n in-set (keep_return s q u n in-set v i)
  keep_way s q false u n in-set v i = keep_call s q u n in-set v i

  -- one step more, by what was asked and how it was judged
  keep_step : (s : State) (h : List Done) (e : Event) (v : Verdict) → verdict top f s e ≡ v → begins e v ≡ false → Kept s h
      → Kept (step top f s e) (record { before = s; event = e; verdict = v } ∷ h)
  keep_step s h (crosses q) (Ok tt) v b i =
      rw (accepted_process top f s (crosses q) v) (keep_way s q (returns q) (unstruck h) (calls_in h) (is_entered f r h) v i)
  keep_step s h (writes k at w) (Ok tt) v b i =
      rw (accepted_process top f s (writes k at w) v) (quiet s.process (unstruck h) (calls_in h) (is_entered f r h) i)
  keep_step s h (looks k at) (Ok tt) v b i =
      rw (accepted_process top f s (looks k at) v) (quiet s.process (unstruck h) (calls_in h) (is_entered f r h) i)
  keep_step s h (starts k) (Ok tt) v b i = absurd (let z : ◌≡◌ {A = ℕ} 0 1 = cc in omega arith)
  keep_step s h (crosses q) (Err x) v b i =
      rw (refused-process top f s (crosses q) x v) (quiet s.process (unstruck h) (calls_in h) (is_entered f r h) i)
  keep_step s h (writes k at w) (Err x) v b i =
      rw (refused-process top f s (writes k at w) x v) (quiet s.process (unstruck h) (calls_in h) (is_entered f r h) i)
  keep_step s h (looks k at) (Err x) v b i =
      rw (refused-process top f s (looks k at) x v) (quiet s.process (unstruck h) (calls_in h) (is_entered f r h) i)
  keep_step s h (starts k) (Err x) v b i =
      rw (refused-process top f s (starts k) x v) (quiet s.process (unstruck h) (calls_in h) (is_entered f r h) i)

  pub kept : {s : State} {h : List Done} → Run top f r s h → Kept s h
  kept (begun s v) = keep_start s v
  kept (then {s = s} {h = h} run e b) = keep_step s h e (verdict top f s e) refl b (kept run)

-- ---- one stack length

same_length : (m n : List ℕ) → length m ≡ length n → stack_length m ≡ stack_length n
unfolding stack_length
same_length m n e = rw e

-- a step changes words and never how many there are
step-length : (top : ℕ) (f : List ℕ) (s : State) (e : Event) → length (memory_after top f s e) ≡ length s.memory
unfolding memory_after
step-length top f s e = by (verdict top f s e)
  where
    ground_long : (e : Event) → length (ground top f s e) ≡ length s.memory
    ground_long (starts k) = length-replicate (length s.memory) 0
    ground_long (crosses q) = refl
    ground_long (writes k at v) = refl
    ground_long (looks k at) = refl

    by : (v : Verdict) → length (memory_by v s.memory (apply (stack_length s.memory) (stores top f s e) (ground top f s e))) ≡ length s.memory
    by (Ok tt) = length-apply (stack_length s.memory) (stores top f s e) (ground top f s e) ∙ ground_long e
    by (Err r) = refl

-- "with .. one stack length": every state of a run has a permitted one, and a step keeps it
pub step_long : (top : ℕ) (f : List ℕ) (s : State) (e : Event) → stack_length (step top f s e).memory ≡ stack_length s.memory
step_long top f s e = same_length (memory_after top f s e) s.memory (step-length top f s e)

pub run_long : {top : ℕ} {f : List ℕ} {r : Ring} {s : State} {h : List Done} → Run top f r s h → 128 ≤ stack_length s.memory
run_long {top} {f} {r} (begun s v) =
    let h = start_facts top (stack_length s.memory) r v in
    rw (step_long top f s (starts r)) (length_told s.memory h.0).1
run_long {top} {f} {r} (then {s = s} run e b) = rw (step_long top f s e) (run_long run)
