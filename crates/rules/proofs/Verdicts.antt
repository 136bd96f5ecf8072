-- Laws of the lists of tests in specs/Call.antt, specs/Return.antt and specs/Step.antt: acceptance gives each fact, and the facts give
-- acceptance. Assumes nothing.
use mathlib.Core.Path.{◌≡◌, refl, ap}
use mathlib.Core.Bool.{Bool, true, false, ◌&&◌, ◌||◌, not}
use mathlib.Core.List.{List}
use Prim.Native.Nat.{ℕ, ◌+◌, ◌<◌, ◌≤◌}
use native.Mathlib.Omega.{arith}
use lib.Dec.{leb, ltb, eqb}
use borrow.Author.Tests.{ltb-false, leb-false, eqb-true, eqb-false, not-false, le-ltb, lt-leb, eq-eqb, ne_eqb}
use Rattle.rules.specs.declared.Ring.{Ring}
use Rattle.rules.specs.declared.Entry.{Entry}
use Rattle.rules.specs.Bracket.{Decision}
use Rattle.std.specs.Prelude.{Ok, Err}
use Rattle.rules.specs.declared.Request.{Request}
use Rattle.rules.specs.declared.Seen.{Seen}
use Rattle.rules.specs.Answer.{Verdict}
use Rattle.rules.specs.Tests.{Refusal, first}
use Rattle.rules.specs.Record.{placed}
use Rattle.rules.specs.declared.Unfit.{Unfit}
use Rattle.rules.specs.Call.{entered, target_test, list_test, asked, end_of, call_tests, judged}
use Rattle.rules.specs.Return.{fault_back, return_tests, judged_back}
use Rattle.rules.specs.Step.{start_tests, judged_start, reach_tests, judged_reach}
use Rattle.rules.proofs.Tests.{Passed, not_refused, lets_pass, passed, through}

-- a list of refusals that ends in acceptance: none is given
accepted : (ts : List Verdict) → first {A = Unit {0}} ts tt ≡ Ok tt → Passed ts
accepted ts e = (passed ts tt tt e).0

not_none : {b : Bool} → b ≡ true → not b ≡ false
not_none e = rw e

or_none : (a b : Bool) → a || b ≡ false → (a ≡ false) × (b ≡ false)
or_none false b e = (refl, e)
or_none true b e = absurd (let z : ◌≡◌ {A = ℕ} 0 1 = cc in omega arith)

none_or : {a b : Bool} → a ≡ false → b ≡ false → a || b ≡ false
none_or p q = rw p q

above_zero : (n : ℕ) → eqb n 0 ≡ false → 0 < n
above_zero n e = let z = eqb-false n 0 e in omega arith

zero_not : (n : ℕ) → 0 < n → eqb n 0 ≡ false
zero_not n h = ne_eqb n 0 (λ e. omega arith)

-- ---- a call

-- a decision that is not refused enters its ring
enters_ring : (d : Decision) → target_test d ≡ Ok tt → d ≡ Ok (entered d)
enters_ring (Ok to) e = refl
enters_ring (Err b) e = absurd (let z : ◌≡◌ {A = ℕ} 0 1 = cc in omega arith)

fits : (r : Refusal Unfit) → list_test r ≡ Ok tt → r ≡ Ok tt
fits (Ok tt) e = refl
fits (Err u) e = absurd (let z : ◌≡◌ {A = ℕ} 0 1 = cc in omega arith)

pub record Judged (top : ℕ) (file sound : Bool) (calls : ℕ) (q : Request) (v : Seen) : Type 0 where
  pub some : 0 < v.len
  pub listed : file ≡ true
  pub whole : sound ≡ true
  pub asks : asked q ≡ true
  pub frame : placed v.len q.frame 32 ≡ true
  pub back : v.runs && eqb v.segment q.running && leb v.offset 262143 ≡ true
  pub level : v.saved.0 ≤ top
  pub room : calls < 32
  pub enters : v.decision ≡ Ok (entered v.decision)
  pub list : v.handed.fit ≡ Ok tt
  pub base : v.base ≡ true
  pub fits : end_of v ≤ v.len

module _ (top : ℕ) (file sound : Bool) (calls : ℕ) (q : Request) (v : Seen) where
  facts : Passed (call_tests top file sound calls q v) → Judged top file sound calls q v
  facts (n1, (n2, (n4, (n5, (n6, (n7, (n8, (n9, (n3, (n10, (n11, (n12, _)))))))))))) =
      record {
        some = above_zero v.len (not_refused _ _ n1);
        listed = not-false file (not_refused _ _ n2);
        whole = not-false sound (not_refused _ _ n4);
        asks = not-false (asked q) (not_refused _ _ n5);
        frame = not-false (placed v.len q.frame 32) (not_refused _ _ n6);
        back = not-false (v.runs && eqb v.segment q.running && leb v.offset 262143) (not_refused _ _ n7);
        level = ltb-false top v.saved.0 (not_refused _ _ n8);
        room = leb-false 32 calls (not_refused _ _ n9);
        enters = enters_ring v.decision n3;
        list = fits v.handed.fit n10;
        base = not-false v.base (not_refused _ _ n11);
        fits = ltb-false v.len (end_of v) (not_refused _ _ n12);
      }

  pub call_facts : judged top file sound calls q v ≡ Ok tt → Judged top file sound calls q v
  unfolding judged
  call_facts e =
      facts (accepted (call_tests top file sound calls q v) e)

  pub call_accepts : Judged top file sound calls q v → judged top file sound calls q v ≡ Ok tt
  unfolding judged
  call_accepts j =
      through (call_tests top file sound calls q v) tt (
        lets_pass _ (zero_not v.len j.some),
        (
          lets_pass _ (not_none j.listed),
          (
            lets_pass _ (not_none j.whole),
            (
              lets_pass _ (not_none j.asks),
              (
                lets_pass _ (not_none j.frame),
                (
                  lets_pass _ (not_none j.back),
                  (
                    lets_pass _ (le-ltb top v.saved.0 j.level),
                    (
                      lets_pass _ (lt-leb 32 calls j.room),
                      (
                        ap target_test j.enters,
                        (
                          ap list_test j.list,
                          (lets_pass _ (not_none j.base), (lets_pass _ (le-ltb v.len (end_of v) j.fits), tt)),
                        ),
                      ),
                    ),
                  ),
                ),
              ),
            ),
          ),
        ),
      )

-- ---- a return

pub record JudgedBack (L : ℕ) (file sound : Bool) (calls : ℕ) (ring : Ring) (q : Request) (e : Entry) : Type 0 where
  pub some : 0 < L
  pub listed : file ≡ true
  pub whole : sound ≡ true
  pub asks : asked q ≡ true
  pub opens : 0 < calls
  pub fits : q.fault ≡ fault_back ring e.old

module _ (L : ℕ) (file sound : Bool) (calls : ℕ) (ring : Ring) (q : Request) (e : Entry) where
  back_none : Passed (return_tests L file sound calls ring q e) → JudgedBack L file sound calls ring q e
  back_none (n1, (n2, (n4, (n5, (n13, _))))) =
      let h = or_none (eqb calls 0) (not (eqb q.fault (fault_back ring e.old))) (not_refused _ _ n13) in
      record {
        some = above_zero L (not_refused _ _ n1);
        listed = not-false file (not_refused _ _ n2);
        whole = not-false sound (not_refused _ _ n4);
        asks = not-false (asked q) (not_refused _ _ n5);
        opens = above_zero calls h.0;
        fits = eqb-true q.fault (fault_back ring e.old) (not-false (eqb q.fault (fault_back ring e.old)) h.1);
      }

  pub return_facts : judged_back L file sound calls ring q e ≡ Ok tt → JudgedBack L file sound calls ring q e
  unfolding judged_back
  return_facts h = back_none (accepted (return_tests L file sound calls ring q e) h)

  pub return_accepts : JudgedBack L file sound calls ring q e → judged_back L file sound calls ring q e ≡ Ok tt
  unfolding judged_back
  return_accepts j =
      through (return_tests L file sound calls ring q e) tt (
        lets_pass _ (zero_not L j.some),
        (
          lets_pass _ (not_none j.listed),
          (
            lets_pass _ (not_none j.whole),
            (
              lets_pass _ (not_none j.asks),
              (
                lets_pass _ (none_or (zero_not calls j.opens) (not_none (eq-eqb q.fault (fault_back ring e.old) j.fits))),
                tt,
              ),
            ),
          ),
        ),
      )

-- ---- a start

pub start_facts : (top L : ℕ) (r : Ring) → judged_start top L r ≡ Ok tt → (0 < L) × (r.0 ≤ top)
unfolding judged_start
start_facts top L r e =
    let h = accepted (start_tests top L r) e in
    (above_zero L (not_refused _ _ h.0), ltb-false top r.0 (not_refused _ _ h.1.0))

pub start_accepts : (top L : ℕ) (r : Ring) → 0 < L → r.0 ≤ top → judged_start top L r ≡ Ok tt
unfolding judged_start
start_accepts top L r some low =
    through (start_tests top L r) tt (lets_pass _ (zero_not L some), (lets_pass _ (le-ltb top r.0 low), tt))

-- ---- a write, and a look

pub record Reached (top L : ℕ) (sound : Bool) (ring k : Ring) (at room : ℕ) : Type 0 where
  pub some : 0 < L
  pub whole : sound ≡ true
  pub stack : k.0 ≤ top
  pub inside : at + room ≤ L
  pub above : ring.0 ≤ k.0

module _ (top L : ℕ) (sound : Bool) (ring k : Ring) (at room : ℕ) where
  pub reach_facts : judged_reach top L sound ring k at room ≡ Ok tt → Reached top L sound ring k at room
  unfolding judged_reach
  reach_facts e =
      let n = accepted (reach_tests top L sound ring k at room) e in
      let h = or_none (ltb top k.0) (ltb L (at + room)) (not_refused _ _ n.1.1.0) in
      record {
        some = above_zero L (not_refused _ _ n.0);
        whole = not-false sound (not_refused _ _ n.1.0);
        stack = ltb-false top k.0 h.0;
        inside = ltb-false L (at + room) h.1;
        above = ltb-false k.0 ring.0 (not_refused _ _ n.1.1.1.0);
      }

  pub reach_accepts : Reached top L sound ring k at room → judged_reach top L sound ring k at room ≡ Ok tt
  unfolding judged_reach
  reach_accepts j =
      through (reach_tests top L sound ring k at room) tt (
        lets_pass _ (zero_not L j.some),
        (
          lets_pass _ (not_none j.whole),
          (
            lets_pass _ (none_or (le-ltb top k.0 j.stack) (le-ltb L (at + room) j.inside)),
            (lets_pass _ (le-ltb k.0 ring.0 j.above), tt),
          ),
        ),
      )
