-- What an accepted call says of the store, the target and the argument list (specs/Call.antt). Assumes nothing.
use mathlib.Core.Path.{◌≡◌, refl}
use mathlib.Core.Bool.{Bool, true, false, ◌&&◌, ◌||◌, not}
use mathlib.Core.List.{List}
use Prim.Native.Nat.{ℕ, zero, suc, ◌+◌, ◌*◌, ◌<◌, ◌≤◌}
use native.Mathlib.Decide.{dec_lt}
use native.Mathlib.Omega.{arith}
use lib.Dec.{leb, eqb}
use lib.ListN.{length, take}
use borrow.Author.Tests.{lt-ltb, le-ltb, leb-true}
use Rattle.rules.specs.declared.Ring.{Ring}
use Rattle.rules.specs.declared.Process.{Process}
use Rattle.rules.specs.declared.Request.{Request}
use Rattle.rules.specs.declared.Seen.{Seen}
use Rattle.std.specs.Prelude.{Ok}
use Rattle.rules.specs.Memory.{spot, word, stack_length}
use Rattle.rules.specs.Segments.{file_sound}
use Rattle.rules.specs.Record.{placed, process_sound}
use Rattle.rules.specs.Arguments.{group_or, arguments_at, words_in, handed_of}
use Rattle.rules.specs.Made.{is_made}
use Rattle.rules.specs.Call.{goes_outward, entered, decision, handed, made_or, base_sound, used, fresh, seen, to, arguments, call_verdict}
use Rattle.rules.proofs.Tests.{and_l, and_r}
use Rattle.rules.proofs.Memory.{length_told}
use Rattle.rules.proofs.Segments.{segment_facts}
use Rattle.rules.proofs.Bracket.{Aimed, aimed_at, entered_other, entered_below}
use Rattle.rules.proofs.Arguments.{Listing, list_facts}
use Rattle.rules.proofs.Verdicts.{Judged, call_facts, call_accepts}

-- ---- the words of a list of n arguments

-- what lies past the count is zero, so the first n have all the words
pub words_taken : (m : List ℕ) (L k place n : ℕ) → n ≤ 4
    → words_in (take n (arguments_at m L k place n)) ≡ words_in (arguments_at m L k place n)
words_taken m L k place zero h = refl
words_taken m L k place (suc zero) h = omega arith
words_taken m L k place (suc (suc zero)) h = omega arith
words_taken m L k place (suc (suc (suc zero))) h = omega arith
words_taken m L k place (suc (suc (suc (suc zero)))) h = refl
words_taken m L k place (suc (suc (suc (suc (suc n))))) h = absurd (omega arith)

module _ (f m : List ℕ) (L made : ℕ) (r : Ring) (outward : Bool) (place n : ℕ) (fine : Listing f m L made r outward place n) where
  pub short : (j : ℕ) → (group_or m L r.0 place n j).length ≤ 16
  short j = go (dec_lt j n)
    where
      go : Dec (j < n) → (group_or m L r.0 place n j).length ≤ 16
      go (yes h) = rw (lt-ltb j n h) (fine.each j h).most
      go (no h) = rw (le-ltb j n (omega arith)) (omega arith)

  pub words-few : words_in (arguments_at m L r.0 place n) ≤ 64
  words-few = omega (arith, short 0, short 1, short 2, short 3)

-- ---- the new frame

-- a made target stack: "19 below last-used + 32" gives 11
base_high : (m : List ℕ) (L k used fresh : ℕ) → base_sound m L k used fresh ≡ true → 40 ≤ fresh
unfolding base_sound placed
base_high m L k used fresh e =
    let first = eqb (word m (spot L k 0)) k && (leb 8 used && leb (used + 32) L) in
    let both = first && eqb (word m (spot L k (used + 18))) k in
    let last = leb-true (used + 32) fresh (and_r both (leb (used + 32) fresh) e) in
    let inner = and_l first (eqb (word m (spot L k (used + 18))) k) (and_l both (leb (used + 32) fresh) e) in
    let low = leb-true 8 used (and_l (leb 8 used) (leb (used + 32) L) (and_r (eqb (word m (spot L k 0)) k) (leb 8 used && leb (used + 32) L) inner)) in
    omega arith

-- a stack only now made
new_high : (f m : List ℕ) (r : Ring) (made : ℕ) (q : Request) → is_made made (entered (decision f m r made q)).0 ≡ false → 40 ≤ fresh f m r made q
unfolding fresh made_or
new_high f m r made q e = rw e (omega arith)

-- ---- an accepted call

pub record Called (top : ℕ) (f m : List ℕ) (p : Process) (q : Request) (v : Seen) : Type 0 where
  pub tests : Judged top (file_sound top f) (process_sound top (stack_length m) p) p.calls q v
  pub long : (length m ≡ 64 * stack_length m) × (128 ≤ stack_length m) × (stack_length m ≤ 1024)
  pub target : Aimed f p.ring q.fault q.target q.offset (to v)
  pub below : (to v).0 ≤ top
  pub other : p.ring.0 ≡ (to v).0 → ⊥
  pub list : Listing f m (stack_length m) p.made p.ring (goes_outward p.ring v.decision) q.place v.handed.count

module _ (top : ℕ) (f m : List ℕ) (p : Process) (q : Request) where
  -- the facts of its tests give acceptance
  pub call_passes : Judged top (file_sound top f) (process_sound top (stack_length m) p) p.calls q (seen f m p.ring p.made q)
      → call_verdict top f m p q ≡ Ok tt
  unfolding call_verdict
  call_passes j = call_accepts top (file_sound top f) (process_sound top (stack_length m) p) p.calls q (seen f m p.ring p.made q) j

  pub called : call_verdict top f m p q ≡ Ok tt → Called top f m p q (seen f m p.ring p.made q)
  unfolding call_verdict seen decision handed handed_of
  called e =
      let v = seen f m p.ring p.made q in
      let j = call_facts top (file_sound top f) (process_sound top (stack_length m) p) p.calls q v e in
      let a = aimed_at f p.ring q.fault q.target q.offset (to v) j.enters in
      let s = segment_facts top f q.target a.s j.listed a.listed in
      record {
        tests = j;
        long = length_told m j.some;
        target = a;
        below = entered_below _ _ _ _ _ _ top s.first s.second s.third a.enters;
        other = entered_other _ _ _ _ _ _ a.enters;
        list = list_facts f m (stack_length m) p.made p.ring (goes_outward p.ring v.decision) q.place v.handed.count j.list;
      }

  -- what an outward call copies
  pub copied_words : Called top f m p q (seen f m p.ring p.made q) → goes_outward p.ring (seen f m p.ring p.made q).decision ≡ true
      → (words_in (arguments (seen f m p.ring p.made q)) ≡ (seen f m p.ring p.made q).handed.words)
      × ((seen f m p.ring p.made q).handed.words ≤ 64)
  unfolding seen handed handed_of
  copied_words c out =
      let n = word m (spot (stack_length m) p.ring.0 q.place) in
      let few = words-few f m (stack_length m) p.made p.ring (goes_outward p.ring (decision f m p.ring p.made q)) q.place n c.list in
      rw out (words_taken m (stack_length m) p.ring.0 q.place n c.list.count, few)

  -- the new frame lies past the first one: "an empty frame lies at 8 and the next at 40"
  pub fresh_high : Called top f m p q (seen f m p.ring p.made q) → 40 ≤ (seen f m p.ring p.made q).fresh
  unfolding seen
  fresh_high c = go (is_made p.made (entered (decision f m p.ring p.made q)).0) refl c.tests.base
    where
      go : (b : Bool) → is_made p.made (entered (decision f m p.ring p.made q)).0 ≡ b
          → not b || base_sound m (stack_length m) (entered (decision f m p.ring p.made q)).0 (used f m p.ring p.made q) (fresh f m p.ring p.made q) ≡ true
          → 40 ≤ fresh f m p.ring p.made q
      go true e w = base_high m (stack_length m) _ _ _ w
      go false e w = new_high f m p.ring p.made q e
