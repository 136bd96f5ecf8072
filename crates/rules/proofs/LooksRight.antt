-- Document 01, "Errors that look right": each warning as a law of the definitions. Assumes nothing.
use mathlib.Core.Path.{◌≡◌, refl, sym, ap, ap₂, ◌∙◌}
use mathlib.Core.Logic.{⊎_elim}
use mathlib.Core.Bool.{Bool, true, false}
use mathlib.Core.List.{List, [], ◌∷◌, ◌++◌, map}
use Prim.Native.Nat.{ℕ, suc, ◌+◌, ◌*◌, ◌<◌, ◌≤◌}
use native.Mathlib.Omega.{arith}
use lib.Dec.{leb, ltb}
use lib.ListN.{length, take}
use borrow.Author.Tests.{lt-ltb, le-ltb}
use Rattle.rules.specs.declared.Ring.{Ring}
use Rattle.rules.specs.declared.Argument.{Argument}
use Rattle.rules.specs.declared.Entry.{Entry}
use Rattle.rules.specs.declared.Process.{Process}
use Rattle.rules.specs.declared.Segment.{Segment}
use Rattle.rules.specs.declared.Request.{Request}
use Rattle.rules.specs.declared.Seen.{Seen}
use Rattle.std.specs.Prelude.{Ok, Err}
use Rattle.rules.specs.declared.Refused.{Refused}
use Rattle.rules.specs.Tests.{pick}
use Rattle.rules.specs.Memory.{spot, words, Store, puts}
use Rattle.rules.specs.Bracket.{goes_out, decision_of}
use Rattle.rules.specs.Call.{level_of, call_answer}
use Rattle.rules.specs.Return.{back_stores, return_stores}
use Rattle.rules.specs.Step.{Event, crosses, State, returns, judged_reach, verdict, given, memory_after}
use Rattle.rules.proofs.Memory.{length-words}
use Rattle.rules.proofs.Bracket.{entered}
use Rattle.rules.proofs.Verdicts.{reach_facts}
use Rattle.rules.proofs.Runs.{refused-step}

-- "Taking an inward return's place from the frame on the outer stack": where a return goes is the same for any two stores
pub return_fixed : (top : ℕ) (f m n : List ℕ) (p : Process) (q : Request) → returns q ≡ true
    → given top f (record { memory = m; process = p }) (crosses q) ≡ given top f (record { memory = n; process = p }) (crosses q)
return_fixed top f m n p q w = rw w

-- "Copying return arguments to addresses read from the outer list": where a return stores, and what it copies back to, is the same
-- for any two stores
abbrev pub place : Store → List ℕ
place s = s.stack ∷ s.offset ∷ []

map-append : (a b : List Store) → map place (a ++ b) ≡ map place a ++ map place b
map-append [] b = refl
map-append (s ∷ a) b = ap (λ (l : List (List ℕ)). place s ∷ l) (map-append a b)

same_places : (k at : ℕ) (vs ws : List ℕ) → length vs ≡ length ws → map place (puts k at vs) ≡ map place (puts k at ws)
unfolding puts
same_places k at [] [] e = refl
same_places k at (v ∷ vs) (w ∷ ws) e = ap (λ (l : List (List ℕ)). (k ∷ at ∷ []) ∷ l) (same_places k (suc at) vs ws (let h : length vs ≡ length ws = omega arith in h))
same_places k at [] (w ∷ ws) e = absurd (omega arith)
same_places k at (v ∷ vs) [] e = absurd (omega arith)

back-places : (m n : List ℕ) (L left old at : ℕ) (xs : List Argument)
    → map place (back_stores m L left old at xs) ≡ map place (back_stores n L left old at xs)
unfolding back_stores
back-places m n L left old at [] = refl
back-places m n L left old at (a ∷ xs) =
    let b = leb 2 a.direction in
    let here = pick b (puts old a.offset (words m (spot L left at) a.length)) [] in
    let there = pick b (puts old a.offset (words n (spot L left at) a.length)) [] in
    map-append here (back_stores m L left old (at + a.length) xs)
    ∙ (ap₂ (λ (x y : List (List ℕ)). x ++ y) (one b) (back-places m n L left old (at + a.length) xs)
    ∙ sym (map-append there (back_stores n L left old (at + a.length) xs)))
  where
    one : (b : Bool) → map place (pick b (puts old a.offset (words m (spot L left at) a.length)) []) ≡ map place (pick b (puts old a.offset (words n (spot L left at) a.length)) [])
    one true = same_places old a.offset _ _ (length-words m (spot L left at) a.length ∙ sym (length-words n (spot L left at) a.length))
    one false = refl

pub return_places : (m n : List ℕ) (L : ℕ) (left : Ring) (e : Entry) → map place (return_stores m L left e) ≡ map place (return_stores n L left e)
unfolding return_stores
return_places m n L left e =
    let head = puts left.0 0 (left.0 ∷ e.prior ∷ []) ++ puts e.old.0 3 (e.level.0 ∷ []) in
    let at = e.fresh + (33 + 4 * e.count) in
    let xs = take e.count e.arguments in
    map-append head (back_stores m L left.0 e.old.0 at xs)
    ∙ (ap (λ (y : List (List ℕ)). map place head ++ y) (back-places m n L left.0 e.old.0 at xs)
    ∙ sym (map-append head (back_stores n L left.0 e.old.0 at xs)))

-- "Checking arguments in the caller's stack and handing over that list": the list handed over lies at new frame + 32, in the new stack,
-- where no write from an outer ring is accepted
pub list_handed : (q : Request) (v : Seen) → (call_answer q v).place ≡ v.fresh + 32
unfolding call_answer
list_handed q v = refl

pub no_outer_write : (top L : ℕ) (sound : Bool) (ring k : Ring) (at : ℕ) → k.0 < ring.0 → judged_reach top L sound ring k at 1 ≡ Ok tt → ⊥
no_outer_write top L sound ring k at outer e = let h = reach_facts top L sound ring k at 1 e in omega (arith, h.above)

-- "Entering r1 on an inward call": it enters r2
pub inward_enters_r2 : (r : Ring) (fault offset : ℕ) (s : Segment) (hit : Bool) (to : Ring) → goes_out r s ≡ false
    → decision_of r fault offset s hit ≡ Ok to → to ≡ s.r2
inward_enters_r2 r fault offset s hit to way e =
    ⊎_elim (λ o. absurd (let t = lt-ltb r.0 s.r1.0 o.below in let z : ◌≡◌ {A = ℕ} 0 1 = cc in omega arith)) (λ i. i.into) (entered r fault offset s hit to e).way

-- "Refusing a level below the ring; it is raised."
pub level_raised : (r : Ring) (v : Seen) → v.saved.0 < r.0 → (level_of r v).0 ≡ r.0
level_raised r v below = rw (lt-ltb v.saved.0 r.0 below)

-- number 8's test does not hold of it
pub low_level_passes : (top : ℕ) (r : Ring) (v : Seen) → r.0 ≤ top → v.saved.0 ≤ r.0 → ltb top v.saved.0 ≡ false
low_level_passes top r v low below = le-ltb top v.saved.0 (omega arith)

-- "Making a stack before room is known": a refused step stores nothing, and so makes no stack
pub refused_stores_nothing : (top : ℕ) (f : List ℕ) (s : State) (e : Event) (r : Refused) → verdict top f s e ≡ Err r
    → memory_after top f s e ≡ s.memory
refused_stores_nothing top f s e r v = ap (λ (t : State). t.memory) (refused-step top f s e r v)
