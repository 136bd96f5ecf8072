-- Laws of specs/Bracket.antt (document 01, "Brackets"): what holds of a call that enters a ring. Assumes nothing.
use mathlib.Core.Path.{◌≡◌, refl, sym}
use mathlib.Core.Logic.{◌⊎◌, inl, inr, ⊎_elim}
use mathlib.Core.Bool.{Bool, true, false, ◌&&◌, not}
use mathlib.Core.List.{List}
use Prim.Native.Nat.{ℕ, ◌≤◌, ◌<◌}
use native.Mathlib.Omega.{arith}
use lib.Dec.{eqb}
use borrow.Author.Tests.{ltb-true, ltb-false, leb-false, eqb-true, eqb-false, not-false, le-leb}
use Rattle.rules.specs.declared.Ring.{Ring}
use Rattle.rules.specs.declared.Segment.{Segment}
use Rattle.std.specs.Prelude.{Option, Some, None, Ok}
use Rattle.rules.specs.Tests.{pick}
use Rattle.rules.specs.Segments.{executes, lookup_of, is_gate}
use Rattle.rules.specs.Bracket.{goes_out, stays, aimed, fault_of, reasons, decision_of, target_in, target_of}
use Rattle.rules.proofs.Tests.{Passed, not_refused, passed}

-- "r < r1 outward, enters r1", "fault 2 outward", "Ring 0 makes no outward call."
pub record Out (r : Ring) (fault : ℕ) (s : Segment) (to : Ring) : Type 0 where
  pub below : r.0 < s.r1.0
  pub into : to ≡ s.r1
  pub fits : fault ≡ 2
  pub some : 0 < r.0

-- "r2 < r ≤ r3 inward, enters r2, at a gate only", "Fault 1 is inward"
pub record In (r : Ring) (fault : ℕ) (s : Segment) (hit : Bool) (to : Ring) : Type 0 where
  pub above : s.r2.0 < r.0
  pub within : r.0 ≤ s.r3.0
  pub into : to ≡ s.r2
  pub fits : fault ≡ 1
  pub gated : hit ≡ true

-- a call from ring r at an offset of the segment s enters the ring to
pub record Entered (r : Ring) (fault offset : ℕ) (s : Segment) (hit : Bool) (to : Ring) : Type 0 where
  pub runs : executes s ≡ true
  pub inside : offset ≤ 262143
  pub way : Out r fault s to ⊎ In r fault s hit to

module _ (r : Ring) (fault offset : ℕ) (s : Segment) (hit : Bool) (to : Ring) where
  -- none of the reasons is given, and the ring is the one aimed at
  facts : Passed (reasons r fault offset s hit) → aimed r s ≡ to → Entered r fault offset s hit to
  facts (far, (runs, (above, (same, (other, (shut, (ground, _))))))) e =
      record {
        runs = not-false (executes s) (not_refused _ _ runs);
        inside = ltb-false _ _ (not_refused _ _ far);
        way = go (goes_out r s) refl (not_refused _ _ same) (not_refused _ _ other) (not_refused _ _ shut) (not_refused _ _ ground) e;
      }
    where
      go : (out : Bool) → goes_out r s ≡ out → stays r s ≡ false → not (eqb fault (fault_of out)) ≡ false → not out && not hit ≡ false
          → out && eqb r.0 0 ≡ false → pick out s.r1 s.r2 ≡ to → Out r fault s to ⊎ In r fault s hit to
      go true q same other shut ground e =
          let z = eqb-false r.0 0 ground in
          inl (record { below = ltb-true _ _ q; into = sym e; fits = eqb-true _ _ (not-false (eqb fault 2) other); some = omega arith })
      go false q same other shut ground e =
          inr
          (record {
            above = leb-false r.0 s.r2.0 (rw (le-leb _ _ (ltb-false r.0 s.r1.0 q)) at same);
            within = ltb-false _ _ (not_refused _ _ above);
            into = sym e;
            fits = eqb-true _ _ (not-false (eqb fault 1) other);
            gated = not-false hit shut;
          })

  pub entered : decision_of r fault offset s hit ≡ Ok to → Entered r fault offset s hit to
  unfolding decision_of
  entered e = let h = passed (reasons r fault offset s hit) (aimed r s) to e in facts h.0 h.1

  -- the ring entered is not the caller's, and is no ring above the highest where the brackets are sound
  pub entered_other : Entered r fault offset s hit to → r.0 ≡ to.0 → ⊥
  entered_other h e = ⊎_elim (λ o. let t = rw o.into at e in omega arith) (λ i. let t = rw i.into at e in omega arith) h.way

  pub entered_below : (top : ℕ) → s.r1.0 ≤ s.r2.0 → s.r2.0 ≤ s.r3.0 → s.r3.0 ≤ top → Entered r fault offset s hit to
      → to.0 ≤ top
  entered_below top a b c h = ⊎_elim (λ o. rw o.into (omega arith)) (λ i. rw i.into (omega arith)) h.way

-- the target of a call that enters a ring is listed
pub record Aimed (f : List ℕ) (r : Ring) (fault x offset : ℕ) (to : Ring) : Type 0 where
  pub s : Segment
  pub listed : lookup_of f x ≡ Some s
  pub enters : Entered r fault offset s (is_gate f s.at offset) to

pub aimed_at : (f : List ℕ) (r : Ring) (fault x offset : ℕ) (to : Ring) → target_of f r fault x offset ≡ Ok to
    → Aimed f r fault x offset to
unfolding target_of
aimed_at f r fault x offset to e = go (lookup_of f x) refl e
  where
    go : (l : Option Segment) → lookup_of f x ≡ l → target_in f r fault offset l ≡ Ok to → Aimed f r fault x offset to
    go (Some s) q e = record { s = s; listed = q; enters = entered r fault offset s (is_gate f s.at offset) to e }
    go None q e = absurd (let z : ◌≡◌ {A = ℕ} 0 1 = cc in omega arith)
