-- Laws of specs/Record.antt: what soundness says of an open entry. Assumes nothing.
use mathlib.Core.Path.{◌≡◌, refl}
use mathlib.Core.Bool.{Bool, true, false, ◌&&◌}
use mathlib.Core.List.{List, [], ◌∷◌}
use Prim.Native.Nat.{ℕ, zero, suc, ◌+◌, ◌-◌, ◌<◌, ◌≤◌}
use native.Mathlib.Nat.{not-suc-le-zero}
use native.Mathlib.Decide.{ℕ_discrete}
use borrow.Author.Tests.{leb-true, eqb-true, eqb-false, lt-ltb, le-leb, not-true, eq-eqb, ne_eqb}
use native.Mathlib.Omega.{arith}
use lib.Dec.{leb, ltb, eqb}
use lib.ListN.{get_or}
use Rattle.rules.specs.declared.Ring.{Ring}
use Rattle.rules.specs.declared.Entry.{Entry}
use Rattle.rules.specs.declared.Process.{Process}
use Rattle.rules.specs.Tests.{pick, all_from}
use Rattle.rules.specs.Made.{is_made}
use Rattle.rules.specs.Record.{no_entry, argument_at, placed, argument_sound, argument_rule, arguments_sound, inward_sound, outward_sound, open_tests, open_sound, opened, chained, zero_at, process_sound, newest}
use Rattle.rules.proofs.Tests.{and_l, and_r, conj_at, below_at}

-- ---- what soundness says of the record

pub record Whole (top L : ℕ) (p : Process) : Type 0 where
  pub calls : p.calls ≤ 32
  pub ring : p.ring.0 ≤ top
  pub made : is_made p.made p.ring.0 ≡ true
  pub chain : chained top L p.made p.ring (opened p.calls p.entries) ≡ true
  pub rest : all_from (zero_at p.entries) p.calls (32 - p.calls) ≡ true

pub whole : (top L : ℕ) (p : Process) → process_sound top L p ≡ true → Whole top L p
unfolding process_sound
whole top L p e =
    let ring = leb p.ring.0 top in
    let made = is_made p.made p.ring.0 in
    let chain = chained top L p.made p.ring (opened p.calls p.entries) in
    let rest = all_from (zero_at p.entries) p.calls (32 - p.calls) in
    let all = and_r (leb p.calls 32) (ring && made && chain && rest) e in
    let three = and_l (ring && made && chain) rest all in
    let two = and_l (ring && made) chain three in
    record {
      calls = leb-true p.calls 32 (and_l (leb p.calls 32) (ring && made && chain && rest) e);
      ring = leb-true p.ring.0 top (and_l ring made two);
      made = and_r ring made two;
      chain = and_r (ring && made) chain three;
      rest = and_r (ring && made && chain) rest all;
    }

-- ---- what it says of an open entry

-- the ring that call k entered: "the next open entry's old ring, for the newest the record's ring"
abbrev pub entered_at : Ring → ℕ → List Entry → ℕ → Ring
entered_at ring n es k = pick (eqb (k + 1) n) ring (get_or es (k + 1) no_entry).old

chain_at : (top L made : ℕ) (ring : Ring) (n : ℕ) (es : List Entry) (k : ℕ) → chained top L made ring (opened n es) ≡ true → k < n
    → open_sound top L made (entered_at ring n es k) (get_or es k no_entry) ≡ true
unfolding chained opened
chain_at top L made ring zero es k e h = absurd (not-suc-le-zero h)
chain_at top L made ring (suc n) es k e h =
    go (ℕ_discrete k n) (chain_at top L made (get_or es n no_entry).old n es k (and_r (open_sound top L made ring (get_or es n no_entry)) (chained top L made (get_or es n no_entry).old (opened n es)) e))
  where
    here : open_sound top L made ring (get_or es n no_entry) ≡ true
    here = and_l (open_sound top L made ring (get_or es n no_entry)) (chained top L made (get_or es n no_entry).old (opened n es)) e

    same : (b : Bool) → eqb (k + 1) n ≡ b → k < n → entered_at (get_or es n no_entry).old n es k ≡ (get_or es (k + 1) no_entry).old
    same true q l = rw (q, eqb-true (k + 1) n q)
    same false q l = rw q

    go : Dec (k ≡ n) → (k < n → open_sound top L made (entered_at (get_or es n no_entry).old n es k) (get_or es k no_entry) ≡ true)
        → open_sound top L made (entered_at ring (suc n) es k) (get_or es k no_entry) ≡ true
    go (yes q) ih = let s : eqb (k + 1) (suc n) ≡ true = eq-eqb (k + 1) (suc n) (omega arith) in rw (s, q) here
    go (no q) ih =
        let l : k < n = omega arith in
        let s : eqb (k + 1) (suc n) ≡ false = ne_eqb (k + 1) (suc n) (λ z. q (omega arith)) in
        rw s (rw (same (eqb (k + 1) n) refl l) at (ih l))

-- the newest entry is the one that the ring of the record was entered by
pub newest_is : (p : Process) → 0 < p.calls → p.calls ≤ 32 → newest p ≡ get_or p.entries (p.calls - 1) no_entry
unfolding newest
newest_is p some most = rw (lt-ltb 0 p.calls some, le-leb p.calls 32 most)

module _ (top L : ℕ) (p : Process) (sound : process_sound top L p ≡ true) where
  pub open_at : (k : ℕ) → k < p.calls → open_sound top L p.made (entered_at p.ring p.calls p.entries k) (get_or p.entries k no_entry) ≡ true
  open_at k h = chain_at top L p.made p.ring p.calls p.entries k (whole top L p sound).chain h

  pub newest_open : 0 < p.calls → open_sound top L p.made p.ring (newest p) ≡ true
  newest_open some =
      let l : p.calls - 1 < p.calls = omega arith in
      let s : eqb (p.calls - 1 + 1) p.calls ≡ true = eq-eqb (p.calls - 1 + 1) p.calls (omega arith) in
      rw (newest_is p some (whole top L p sound).calls) (rw s at (open_at (p.calls - 1) l))

-- x is at least 8, and x and room more end within L
pub record Placed (L x room : ℕ) : Type 0 where
  pub low : 8 ≤ x
  pub fits : x + room ≤ L

pub placed_told : (L x room : ℕ) → placed L x room ≡ true → Placed L x room
unfolding placed
placed_told L x room e =
    record { low = leb-true 8 x (and_l (leb 8 x) (leb (x + room) L) e); fits = leb-true (x + room) L (and_r (leb 8 x) (leb (x + room) L) e) }

-- the facts of an open entry, in the document's order
pub record Held (top L set : ℕ) (entered : Ring) (e : Entry) : Type 0 where
  pub made : is_made set e.old.0 ≡ true
  pub differs : e.old.0 ≡ entered.0 → ⊥
  pub raised : e.old.0 ≤ e.level.0
  pub level : e.level.0 ≤ top
  pub frame : Placed L e.frame 32
  pub prior : Placed L e.prior 32
  pub low : 64 ≤ e.segment
  pub segment : e.segment ≤ 1023
  pub offset : e.offset ≤ 262143
  pub place : Placed L e.place 1
  pub fresh : e.prior + 32 ≤ e.fresh
  pub arguments : arguments_sound L e ≡ true
  pub way : pick (ltb entered.0 e.old.0) (inward_sound L e) (outward_sound L e) ≡ true

pub held : (top L made : ℕ) (entered : Ring) (e : Entry) → open_sound top L made entered e ≡ true → Held top L made entered e
unfolding open_sound
held top L made entered e h =
    let at : (i : ℕ) → get_or (open_tests top L made entered e) i true ≡ true = λ i. conj_at (open_tests top L made entered e) i h in
    record {
      made = at 0;
      differs = eqb-false e.old.0 entered.0 (not-true _ (at 1));
      raised = leb-true e.old.0 e.level.0 (at 2);
      level = leb-true e.level.0 top (at 3);
      frame = placed_told L e.frame 32 (at 4);
      prior = placed_told L e.prior 32 (at 5);
      low = leb-true 64 e.segment (at 6);
      segment = leb-true e.segment 1023 (at 7);
      offset = leb-true e.offset 262143 (at 8);
      place = placed_told L e.place 1 (at 9);
      fresh = leb-true (e.prior + 32) e.fresh (at 10);
      arguments = at 11;
      way = at 12;
    }

-- an argument below the count
pub record Lent (L : ℕ) (e : Entry) (k : ℕ) : Type 0 where
  pub own : (argument_at e k).segment ≡ e.old.0
  pub low : 8 ≤ (argument_at e k).offset
  pub some : 1 ≤ (argument_at e k).length
  pub most : (argument_at e k).length ≤ 16
  pub fits : (argument_at e k).offset + (argument_at e k).length ≤ L
  pub direction : (1 ≤ (argument_at e k).direction) × ((argument_at e k).direction ≤ 3)

pub lent : (L : ℕ) (e : Entry) (k : ℕ) → arguments_sound L e ≡ true → k < 4 → k < e.count → Lent L e k
unfolding arguments_sound argument_sound
lent L e k h l n =
    let a = argument_at e k in
    let s : argument_sound L e.old a ≡ true = rw (lt-ltb k e.count n) at (below_at (argument_rule L e) 4 k h l) in
    let ts =
    eqb a.segment e.old.0 ∷ leb 8 a.offset ∷ leb 1 a.length ∷ leb a.length 16 ∷ leb (a.offset + a.length) L ∷ leb 1 a.direction ∷ leb a.direction 3 ∷ []
    in
    let at : (i : ℕ) → get_or ts i true ≡ true = λ i. conj_at ts i s in
    record {
      own = eqb-true a.segment e.old.0 (at 0);
      low = leb-true 8 a.offset (at 1);
      some = leb-true 1 a.length (at 2);
      most = leb-true a.length 16 (at 3);
      fits = leb-true (a.offset + a.length) L (at 4);
      direction = (leb-true 1 a.direction (at 5), leb-true a.direction 3 (at 6));
    }
