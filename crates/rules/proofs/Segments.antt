-- Laws of specs/Segments.antt (document 01, "Segment file"): what a search finds, what a sound file says of its records and of
-- the segment that a look-up finds, and what a gate hit says. Assumes nothing.
use mathlib.Core.Path.{◌≡◌, refl, sym, ap, ◌∙◌}
use mathlib.Core.Bool.{Bool, true, false, ◌&&◌, ◌||◌}
use mathlib.Core.List.{List, [], ◌∷◌}
use Prim.Native.Nat.{ℕ, zero, suc, ◌+◌, ◌*◌, ◌%◌, ◌≤◌, ◌<◌, min}
use native.Mathlib.Omega.{arith}
use lib.Dec.{leb, ltb, eqb}
use lib.ListN.{length, get_or}
use borrow.Author.Tests.{leb-true, ltb-true, eqb-true, lt-leb}
use Rattle.rules.specs.declared.Segment.{Segment}
use Rattle.std.specs.Prelude.{Option, Some, None}
use Rattle.rules.specs.Tests.{pick, all_from}
use Rattle.rules.specs.Segments.{
  records,
  number_at,
  bracket1,
  bracket2,
  bracket3,
  mode_of,
  gate_count,
  zero_byte,
  gate,
  number_sound,
  fields_sound,
  gate_sound,
  record_sound,
  file_sound,
  first_from,
  numbered,
  found,
  segment_at,
  listed_at,
  lookup_of,
  gate_hit,
  is_gate,
}
use Rattle.rules.proofs.Tests.{and_l, and_r, all_at, any_at}

-- ---- a search

-- what a search finds is a place of its run, and the test passes there
pub first_at : (p : ℕ → Bool) (i d k : ℕ) → first_from p i d ≡ Some k → (p k ≡ true) × (k < i + d)
unfolding first_from
first_at p i zero k t = absurd (let z : ◌≡◌ {A = ℕ} 0 1 = cc in omega arith)
first_at p i (suc d) k t = go (p i) refl t (first_at p (i + 1) d k)
  where
    go : (b : Bool) → p i ≡ b → pick b (Some i) (first_from p (i + 1) d) ≡ Some k
        → (first_from p (i + 1) d ≡ Some k → (p k ≡ true) × (k < i + 1 + d)) → (p k ≡ true) × (k < i + suc d)
    go true e t ih = let s : i ≡ k = cc in (rw (← s) e, omega arith)
    go false e t ih = let h = ih t in (h.0, omega arith)

-- ---- what a sound file says of its records

-- the rules that record i keeps, the highest ring being top
pub record SoundRecord (top : ℕ) (f : List ℕ) (i : ℕ) : Type 0 where
  pub low : 64 ≤ number_at f i
  pub high : number_at f i ≤ 1023
  pub ascends : i * 40 + 40 < length f → number_at f i < number_at f (i + 1)
  pub first : bracket1 f i ≤ bracket2 f i
  pub second : bracket2 f i ≤ bracket3 f i
  pub third : bracket3 f i ≤ top
  pub mode : mode_of f i ≤ 7
  pub count : gate_count f i ≤ 8
  pub blank : zero_byte f i ≡ 0
  pub gates : (j : ℕ) → j < 8 → gate_sound f i j ≡ true

-- tests put together as a && (b && ..), and the i-th of them where all hold
abbrev nested : List Bool → Bool
nested [] = true
nested (a ∷ []) = a
nested (a ∷ b ∷ l) = a && nested (b ∷ l)

nested_at : (l : List Bool) (i : ℕ) → nested l ≡ true → get_or l i true ≡ true
nested_at [] i e = refl
nested_at (a ∷ []) zero e = e
nested_at (a ∷ []) (suc i) e = refl
nested_at (a ∷ b ∷ l) zero e = and_l a (nested (b ∷ l)) e
nested_at (a ∷ b ∷ l) (suc i) e = nested_at (b ∷ l) i (and_r a (nested (b ∷ l)) e)

-- a test that holds where the one before it does not
or_r : (a b : Bool) → a || b ≡ true → a ≡ false → b ≡ true
or_r a b e n = rw n at e

-- a record that is sound keeps each rule
pub record_facts : (top : ℕ) (f : List ℕ) (i : ℕ) → record_sound top f i ≡ true → SoundRecord top f i
unfolding record_sound
record_facts top f i e =
    let last = leb (length f) (i * 40 + 40) in
    let part = nested_at (number_sound f i ∷ fields_sound top f i ∷ all_from (gate_sound f i) 0 8 ∷ []) in
    let n = nested_at (leb 64 (number_at f i) ∷ leb (number_at f i) 1023 ∷ (last || ltb (number_at f i) (number_at f (i + 1))) ∷ []) in
    let rest = leb (mode_of f i) 7 ∷ leb (gate_count f i) 8 ∷ eqb (zero_byte f i) 0 ∷ [] in
    let b = nested_at (leb (bracket1 f i) (bracket2 f i) ∷ leb (bracket2 f i) (bracket3 f i) ∷ leb (bracket3 f i) top ∷ rest) in
    let p = part 0 e in
    let q = part 1 e in
    record {
      low = leb-true _ _ (n 0 p);
      high = leb-true _ _ (n 1 p);
      ascends = λ h. ltb-true _ _ (or_r last _ (n 2 p) (lt-leb _ _ h));
      first = leb-true _ _ (b 0 q);
      second = leb-true _ _ (b 1 q);
      third = leb-true _ _ (b 2 q);
      mode = leb-true _ _ (b 3 q);
      count = leb-true _ _ (b 4 q);
      blank = eqb-true _ _ (b 5 q);
      gates = λ j h. all_at (gate_sound f i) 0 8 j (part 2 e) (omega arith) (omega arith);
    }

-- "0 to 192 of them", whole records, and each of them sound
pub record SoundFile (top : ℕ) (f : List ℕ) : Type 0 where
  pub few : records f ≤ 192
  pub whole : length f % 40 ≡ 0
  pub each : (i : ℕ) → i < records f → SoundRecord top f i

pub file_facts : (top : ℕ) (f : List ℕ) → file_sound top f ≡ true → SoundFile top f
unfolding file_sound
file_facts top f e =
    let t = nested_at (leb (records f) 192 ∷ eqb (length f % 40) 0 ∷ all_from (record_sound top f) 0 (records f) ∷ []) in
    record {
      few = leb-true _ _ (t 0 e);
      whole = eqb-true _ _ (t 1 e);
      each = λ i h. record_facts top f i (all_at (record_sound top f) 0 (records f) i (t 2 e) (omega arith) (omega arith));
    }

-- ---- the segment that a look-up finds

-- in any file: s is what the record at its place says, and that record has the number x
pub record ListedAs (f : List ℕ) (x : ℕ) (s : Segment) : Type 0 where
  pub place : s.at < records f
  pub below : s.at < 192
  pub named : number_at f s.at ≡ x
  pub says : s ≡ segment_at f s.at

pub listed_facts : (f : List ℕ) (x : ℕ) (s : Segment) → lookup_of f x ≡ Some s → ListedAs f x s
unfolding lookup_of found segment_at
listed_facts f x s e = go (found f x) refl e
  where
    go : (d : Option ℕ) → found f x ≡ d → listed_at f d ≡ Some s → ListedAs f x s
    go None q e = absurd (let z : ◌≡◌ {A = ℕ} 0 1 = cc in omega arith)
    go (Some k) q e =
        let h = first_at (numbered f x) 0 (min (records f) 192) k q in
        let w : s ≡ segment_at f k = cc in
        let a : s.at ≡ k = ap (λ (t : Segment). t.at) w in
        record {
          place = omega arith;
          below = omega arith;
          named = rw a (eqb-true (number_at f k) x h.0);
          says = w ∙ ap (segment_at f) (sym a);
        }

-- in a sound file: the record keeps its rules, and so do the brackets of s
pub record SoundSegment (top : ℕ) (f : List ℕ) (x : ℕ) (s : Segment) : Type 0 where
  pub listed : ListedAs f x s
  pub sound : SoundRecord top f s.at
  pub low : 64 ≤ x
  pub high : x ≤ 1023
  pub first : s.r1.0 ≤ s.r2.0
  pub second : s.r2.0 ≤ s.r3.0
  pub third : s.r3.0 ≤ top

pub segment_facts : (top : ℕ) (f : List ℕ) (x : ℕ) (s : Segment) → file_sound top f ≡ true → lookup_of f x ≡ Some s
    → SoundSegment top f x s
unfolding segment_at
segment_facts top f x s e l =
    let h = listed_facts f x s l in
    let r = (file_facts top f e).each s.at h.place in
    record {
      listed = h;
      sound = r;
      low = rw h.named at r.low;
      high = rw h.named at r.high;
      first = rw h.says r.first;
      second = rw h.says r.second;
      third = rw h.says r.third;
    }

-- ---- a gate that is hit

pub gate_hit_lem : (f : List ℕ) (i offset : ℕ) → is_gate f i offset ≡ true
    → (j : ℕ) × (j < 8) × (j < gate_count f i) × (gate f i j ≡ offset)
unfolding is_gate
gate_hit_lem f i offset e =
    let h = any_at (gate_hit f i offset) 0 8 e in
    let j = h.0 in
    let t = nested_at (ltb j (gate_count f i) ∷ eqb (gate f i j) offset ∷ []) in
    (j, omega arith, ltb-true _ _ (t 0 h.3), eqb-true _ _ (t 1 h.3))

-- a gate of a sound record is an offset of its segment
pub gate-within : (top : ℕ) (f : List ℕ) (i offset : ℕ) → SoundRecord top f i → is_gate f i offset ≡ true → offset ≤ 262143
gate-within top f i offset s e =
    let h = gate_hit_lem f i offset e in
    let j = h.0 in
    let past = leb (gate_count f i) j in
    let rises = leb (gate_count f i) (j + 1) || ltb (gate f i j) (gate f i (j + 1)) in
    let t = and_l (past || leb (gate f i j) 262143) _ (and_r rises _ (s.gates j h.1)) in
    rw h.3 at (leb-true (gate f i j) 262143 (or_r past _ t (lt-leb _ _ h.2)))
