-- Laws of specs/Tests.antt: what a list of tests, a run of tests and a list of refusals tell, and a loop's turns over a run.
-- Assumes nothing.
use mathlib.Core.Path.{◌≡◌, refl, ap₂}
use mathlib.Core.Logic.{⊎_elim}
use mathlib.Core.Bool.{Bool, true, false, ◌&&◌, ◌||◌, false≢true}
use mathlib.Core.List.{List, [], ◌∷◌, ◌++◌}
use Prim.Native.Nat.{ℕ, zero, suc, ◌+◌, ◌-◌, ◌≤◌, ◌<◌}
use native.Mathlib.Nat.{not-suc-le-zero, le_of_suc-le-suc, eq-or-lt_of_le}
use native.Mathlib.Decide.{dec_lt}
use native.Mathlib.Omega.{arith}
use lib.ListN.{get_or}
use Rattle.std.specs.Prelude.{Ok, Err}
use Rattle.rules.specs.Tests.{pick, conj_on, conj, all_from, any_from, all_below, how_many, refuse_if, Refusal, first}

pub and_l : (a b : Bool) → a && b ≡ true → a ≡ true
and_l true b e = refl
and_l false b e = e

pub and_r : (a b : Bool) → a && b ≡ true → b ≡ true
and_r true b e = e
and_r false b e = absurd (false≢true e)

-- ---- a list of tests

conj_on_all : (a : Bool) (l : List Bool) → conj_on a l ≡ true → (a ≡ true) × ((i : ℕ) → get_or l i true ≡ true)
conj_on_all a [] e = (e, λ i. refl)
conj_on_all a (b ∷ l) e =
    let h = conj_on_all (a && b) l e in
    (and_l a b h.0, at (and_r a b h.0) h.1)
  where
    at : b ≡ true → ((i : ℕ) → get_or l i true ≡ true) → (i : ℕ) → get_or (b ∷ l) i true ≡ true
    at t rest zero = t
    at t rest (suc i) = rest i

-- the i-th test of a list whose tests all hold
pub conj_at : (l : List Bool) (i : ℕ) → conj l ≡ true → get_or l i true ≡ true
conj_at [] i e = refl
conj_at (a ∷ l) zero e = (conj_on_all a l e).0
conj_at (a ∷ l) (suc i) e = (conj_on_all a l e).1 i

-- ---- a run of tests

-- a run that passes, passes at each of its places
pub all_at : (p : ℕ → Bool) (i d k : ℕ) → all_from p i d ≡ true → i ≤ k → k < i + d → p k ≡ true
unfolding all_from
all_at p i zero k t h l = absurd (omega arith)
all_at p i (suc d) k t h l = go (dec_lt i k) (all_at p (i + 1) d k (and_r (p i) (all_from p (i + 1) d) t))
  where
    go : Dec (i < k) → (i + 1 ≤ k → k < i + 1 + d → p k ≡ true) → p k ≡ true
    go (yes s) ih = ih (omega arith) (omega arith)
    go (no s) ih = let e : k ≡ i = omega arith in rw e (and_l (p i) (all_from p (i + 1) d) t)

-- a run passes where each of its places does
pub all_make : (p : ℕ → Bool) (i d : ℕ) → ((k : ℕ) → i ≤ k → k < i + d → p k ≡ true) → all_from p i d ≡ true
unfolding all_from
all_make p i zero h = refl
all_make p i (suc d) h = rw (h i (omega arith) (omega arith)) (all_make p (i + 1) d (λ k a b. h k (omega arith) (omega arith)))

-- a run in which one place passes says at which
pub any_at : (p : ℕ → Bool) (i d : ℕ) → any_from p i d ≡ true → (k : ℕ) × (i ≤ k) × (k < i + d) × (p k ≡ true)
unfolding any_from
any_at p i zero t = absurd (false≢true t)
any_at p i (suc d) t = go (p i) refl t (any_at p (i + 1) d)
  where
    go : (b : Bool) → p i ≡ b → b || any_from p (i + 1) d ≡ true
        → (any_from p (i + 1) d ≡ true → (k : ℕ) × (i + 1 ≤ k) × (k < i + 1 + d) × (p k ≡ true))
        → (k : ℕ) × (i ≤ k) × (k < i + suc d) × (p k ≡ true)
    go true e t ih = (i, omega arith, omega arith, e)
    go false e t ih = let h = ih t in (h.0, omega arith, omega arith, h.3)

-- ---- a loop over n places, of which i are done: what is left of a run

pub left : (n i : ℕ) → i < n → n - i ≡ suc (n - (i + 1))
left n i h = omega arith

pub done : (n i : ℕ) → n ≤ i → n - i ≡ 0
done n i h = omega arith

module _ (p : ℕ → Bool) (n i : ℕ) where
  pub all_more : i < n → p i ≡ true → all_from p i (n - i) ≡ all_from p (i + 1) (n - (i + 1))
  unfolding all_from
  all_more h t = rw (left n i h, t)

  pub all_stop : i < n → p i ≡ false → all_from p i (n - i) ≡ false
  unfolding all_from
  all_stop h t = rw (left n i h, t)

  pub all_done : n ≤ i → all_from p i (n - i) ≡ true
  unfolding all_from
  all_done h = rw (done n i h)

-- ---- each place below n

pub below_at : (f : ℕ → Bool) (n k : ℕ) → all_below f n ≡ true → k < n → f k ≡ true
unfolding all_below
below_at f zero k e h = absurd (not-suc-le-zero h)
below_at f (suc n) k e h =
    ⊎_elim (λ q. rw q (and_r (all_below f n) (f n) e)) (λ l. below_at f n k (and_l (all_below f n) (f n) e) l)
    (eq-or-lt_of_le (le_of_suc-le-suc h))

pub below_make : (f : ℕ → Bool) (n : ℕ) → ((k : ℕ) → k < n → f k ≡ true) → all_below f n ≡ true
unfolding all_below
below_make f zero h = refl
below_make f (suc n) h = rw (below_make f n (λ k l. h k (omega arith)), h n (omega arith))

-- ---- how many places pass

same_count : (p q : ℕ → Bool) (n : ℕ) → ((i : ℕ) → i < n → q i ≡ p i) → how_many q n ≡ how_many p n
unfolding how_many
same_count p q zero h = refl
same_count p q (suc n) h = ap₂ (λ (x : ℕ) (b : Bool). x + pick b 1 0) (same_count p q n (λ i l. h i (omega arith))) (h n (omega arith))

-- one place more passes
pub one_more : (p q : ℕ → Bool) (k n : ℕ) → k < n → p k ≡ false → q k ≡ true → ((i : ℕ) → (i ≡ k → ⊥) → q i ≡ p i)
    → how_many q n ≡ how_many p n + 1
unfolding how_many
one_more p q k zero h a b o = absurd (omega arith)
one_more p q k (suc n) h a b o = go (dec_lt k n) (one_more p q k n)
  where
    go : Dec (k < n) → (k < n → p k ≡ false → q k ≡ true → ((i : ℕ) → (i ≡ k → ⊥) → q i ≡ p i) → how_many q n ≡ how_many p n + 1)
        → how_many q n + pick (q n) 1 0 ≡ how_many p n + pick (p n) 1 0 + 1
    go (yes l) ih = rw (o n (λ e. omega arith)) (omega (arith, ih l a b o))
    go (no l) ih =
        let e : k ≡ n = omega arith in
        rw (← e, a, b) (omega (arith, same_count p q k (λ i s. o i (λ t. omega arith))))

-- ---- refusals in their order

-- no refusal of the list is one
abbrev pub Passed : {E : Type 0} → List (Refusal E) → Type 0
Passed [] = Unit {0}
Passed (t ∷ ts) = (t ≡ Ok tt) × Passed ts

pub not_refused : {E : Type 0} (b : Bool) (e : E) → refuse_if b e ≡ Ok tt → b ≡ false
unfolding refuse_if
not_refused false e h = refl
not_refused true e h = absurd (let z : ◌≡◌ {A = ℕ} 0 1 = cc in omega arith)

pub lets_pass : {E : Type 0} {b : Bool} (e : E) → b ≡ false → refuse_if b e ≡ Ok tt
unfolding refuse_if
lets_pass e h = rw h

-- an accepted answer: every refusal was passed, and the answer is the one at the end
pub passed : {A E : Type 0} (ts : List (Refusal E)) (a b : A) → first ts a ≡ Ok b → Passed ts × (a ≡ b)
passed [] a b e = (tt, let q : Ok a ≡ Ok b = e in cc)
passed (Ok tt ∷ ts) a b e = let h = passed ts a b e in ((refl, h.0), h.1)
passed (Err r ∷ ts) a b e = absurd (let z : ◌≡◌ {A = ℕ} 0 1 = cc in omega arith)

-- its dual: where no refusal is given, the answer is the one at the end
pub through : {A E : Type 0} (ts : List (Refusal E)) (a : A) → Passed ts → first ts a ≡ Ok a
through [] a n = refl
through (t ∷ ts) a n = rw n.0 (through ts a n.1)

-- a refusal whose test holds
pub refused_if : {E : Type 0} {b : Bool} (e : E) → b ≡ true → refuse_if b e ≡ Err e
unfolding refuse_if
refused_if e h = rw h

-- a refusal is given exactly where it is the first of its list
pub given-when : {A E : Type 0} (ts : List (Refusal E)) (t : Refusal E) (e : E) (us : List (Refusal E)) (a : A) → Passed ts → t ≡ Err e
    → first (ts ++ t ∷ us) a ≡ Err e
given-when [] t e us a n h = rw h
given-when (s ∷ ts) t e us a n h = rw n.0 (given-when ts t e us a n.1 h)

-- and of tests exactly where it is the first whose test holds
pub given_if : {A E : Type 0} (ts : List (Refusal E)) (b : Bool) (e : E) (us : List (Refusal E)) (a : A) → Passed ts → b ≡ true
    → first (ts ++ refuse_if b e ∷ us) a ≡ Err e
given_if ts b e us a n h = given-when ts (refuse_if b e) e us a n (refused_if e h)
