-- Laws of specs/Made.antt: a ring added is in and the others are as they were, the count of bits is the number of made rings,
-- one more where a ring is added, and the serial is a number of calls modulo 2 ^ 32. Assumes nothing.
use mathlib.Core.Path.{◌≡◌, refl, sym, ap, ap₂, ◌∙◌}
use mathlib.Core.Bool.{Bool, true, false}
use Prim.Native.Nat.{ℕ, zero, suc, ◌+◌, ◌-◌, ◌*◌, ◌/◌, ◌%◌, ◌^◌, ◌≤◌, ◌<◌}
use native.Mathlib.Nat.{mod-lt, mod-add-mod, add_comm, one-mul, add-mod_right, mod-eq_of_lt, div-eq_of_lt}
use native.Mathlib.Decide.{dec_lt}
use native.Mathlib.Numerals.{one-add}
use native.Mathlib.Omega.{arith}
use lib.Dec.{eqb, lit<}
use lib.Arith.{digits_lt}
use lib.Pow.{pow_pos, pow-add, pow_mono, split, high, low, mod-pow-add, field, mod-mod-pow, shr-shr, shr_lt, shl_exact}
use lib.Count.{ones, ones_cat}
use borrow.Author.Tests.{eqb-false, lt-leb, le-leb}
use Rattle.rules.specs.Tests.{pick, how_many}
use Rattle.rules.proofs.Tests.{one_more}
use Rattle.rules.specs.Made.{next_serial, is_made, with_made, made_count}

-- ---- the count of bits is the number of made rings

bit_ones : (b : ℕ) → b < 2 → ones b ≡ pick (eqb b 1) 1 0
unfolding ones
bit_ones zero h = refl
bit_ones (suc zero) h = refl
bit_ones (suc (suc b)) h = absurd (omega arith)

ones_below : (m n : ℕ) → ones (m % 2 ^ n) ≡ how_many (is_made m) n
unfolding how_many is_made ones
ones_below m zero = let e : m % 1 ≡ 0 = omega arith in ap ones e
ones_below m (suc n) =
    ap (λ (x : ℕ). ones (m % 2 ^ x)) (sym (one-add n)) ∙ ap ones (mod-pow-add m 1 n)
    ∙ ones_cat n (m / 2 ^ n % 2) (m % 2 ^ n) (mod-lt m (pow_pos n))
    ∙ ap₂ (λ (x y : ℕ). x + y) (bit_ones (m / 2 ^ n % 2) (omega arith)) (ones_below m n)
    ∙ add_comm (pick (is_made m n) 1 0) (how_many (is_made m) n)

pub ones_made : (m : ℕ) → m < 2 ^ 64 → ones m ≡ made_count m
unfolding made_count
ones_made m h = ap ones (sym (mod-eq_of_lt h)) ∙ ones_below m 64

-- no ring above 63 is in a set of 64 bits
pub none_above : (m k : ℕ) → m < 2 ^ 64 → 64 ≤ k → is_made m k ≡ false
unfolding is_made
none_above m k h l =
    let e : m / 2 ^ k ≡ 0 = div-eq_of_lt (omega (arith, pow_mono l)) in rw e

-- ---- a ring is added

pub bit_clear : (m k : ℕ) → is_made m k ≡ false → m / 2 ^ k % 2 ≡ 0
unfolding is_made
bit_clear m k e = let n : m / 2 ^ k % 2 ≡ 1 → ⊥ = eqb-false (m / 2 ^ k % 2) 1 e in omega arith

-- two numbers that agree above digit i, or below digit k, agree in the digit
high_digit : (n m k i : ℕ) → n / 2 ^ (1 + k) ≡ m / 2 ^ (1 + k) → k < i → n / 2 ^ i % 2 ≡ m / 2 ^ i % 2
high_digit n m k i e h =
    let s : (1 + k) + (i - (1 + k)) ≡ i = omega arith in
    rw (← s, ← shr-shr n (1 + k) (i - (1 + k)), ← shr-shr m (1 + k) (i - (1 + k)), e)

low_digit : (n m k i : ℕ) → n % 2 ^ k ≡ m % 2 ^ k → i < k → n / 2 ^ i % 2 ≡ m / 2 ^ i % 2
low_digit n m k i e h =
    let s : (k - (1 + i)) + (1 + i) ≡ k = omega arith in
    let f : n % 2 ^ ((k - (1 + i)) + (1 + i)) ≡ m % 2 ^ ((k - (1 + i)) + (1 + i)) = rw s e in
    let g : n % 2 ^ (1 + i) ≡ m % 2 ^ (1 + i) =
    sym (mod-mod-pow n (k - (1 + i)) (1 + i)) ∙ ap (λ (x : ℕ). x % 2 ^ (1 + i)) f ∙ mod-mod-pow m (k - (1 + i)) (1 + i)
    in
    sym (field n 1 i) ∙ ap (λ (x : ℕ). x / 2 ^ i) g ∙ field m 1 i

module _ (m k : ℕ) (clear : m / 2 ^ k % 2 ≡ 0) where
  low_part : m % 2 ^ (1 + k) ≡ m % 2 ^ k
  low_part = mod-pow-add m 1 k ∙ rw clear (omega arith)

  sum_lt : 2 ^ k + m % 2 ^ k < 2 ^ (1 + k)
  sum_lt = omega (arith, pow-add 2 1 k, mod-lt m (pow_pos k))

  shape : m + 2 ^ k ≡ m / 2 ^ (1 + k) * 2 ^ (1 + k) + (2 ^ k + m % 2 ^ k)
  shape = omega (arith, split m (1 + k), low_part)

  pub sum_fits : m < 2 ^ 64 → k < 64 → m + 2 ^ k < 2 ^ 64
  sum_fits h l =
      let s : (63 - k) + (1 + k) ≡ 64 = omega arith in
      let p : 2 ^ 64 ≡ 2 ^ (63 - k) * 2 ^ (1 + k) = ap (λ (x : ℕ). 2 ^ x) (sym s) ∙ pow-add 2 (63 - k) (1 + k) in
      let q : m / 2 ^ (1 + k) < 2 ^ (63 - k) = shr_lt (63 - k) (1 + k) (rw s h) in
      rw (shape, p) (digits_lt q sum_lt)

  same_high : (m + 2 ^ k) / 2 ^ (1 + k) ≡ m / 2 ^ (1 + k)
  same_high = ap (λ (x : ℕ). x / 2 ^ (1 + k)) shape ∙ high (m / 2 ^ (1 + k)) (1 + k) sum_lt

  digit_set : (m + 2 ^ k) / 2 ^ k % 2 ≡ 1
  digit_set =
      sym (field (m + 2 ^ k) 1 k)
      ∙ ap (λ (x : ℕ). x / 2 ^ k) (ap (λ (x : ℕ). x % 2 ^ (1 + k)) shape ∙ low (m / 2 ^ (1 + k)) (1 + k) sum_lt)
      ∙ ap (λ (x : ℕ). (x + m % 2 ^ k) / 2 ^ k) (sym (one-mul (2 ^ k))) ∙ high 1 k (mod-lt m (pow_pos k))

  digit_kept : (i : ℕ) → (i ≡ k → ⊥) → (m + 2 ^ k) / 2 ^ i % 2 ≡ m / 2 ^ i % 2
  digit_kept i ne = go (dec_lt i k)
    where
      go : Dec (i < k) → (m + 2 ^ k) / 2 ^ i % 2 ≡ m / 2 ^ i % 2
      go (yes h) = low_digit (m + 2 ^ k) m k i (add-mod_right m (2 ^ k)) h
      go (no h) = high_digit (m + 2 ^ k) m k i same_high (omega arith)

-- the set with ring k in it
module _ (m k : ℕ) where
  pub with_old : is_made m k ≡ true → with_made m k ≡ m
  unfolding with_made
  with_old e = rw e

  pub with_out : is_made m k ≡ false → 64 ≤ k → with_made m k ≡ m
  unfolding with_made
  with_out e h = rw (e, le-leb 64 k h)

  pub with_new : is_made m k ≡ false → k < 64 → with_made m k ≡ m + 2 ^ k
  unfolding with_made
  with_new e h = rw (e, lt-leb 64 k h)

-- the bit of ring k, as the code shifts it
pub shifted : (k : ℕ) → k < 64 → (1 * 2 ^ k) % 2 ^ 64 ≡ 2 ^ k
shifted k h = shl_exact 1 k 64 (lit< tt) (omega arith) ∙ one-mul (2 ^ k)

module _ (m k : ℕ) (top : k < 64) where
  pub with_made_lem : is_made (with_made m k) k ≡ true
  unfolding is_made
  with_made_lem = go (is_made m k) refl
    where
      go : (b : Bool) → is_made m k ≡ b → is_made (with_made m k) k ≡ true
      go true e = rw (with_old m k e) e
      go false e = rw (with_new m k e top, digit_set m k (bit_clear m k e))

  pub with_other : (i : ℕ) → (i ≡ k → ⊥) → is_made (with_made m k) i ≡ is_made m i
  unfolding is_made
  with_other i ne = go (is_made m k) refl
    where
      go : (b : Bool) → is_made m k ≡ b → is_made (with_made m k) i ≡ is_made m i
      go true e = rw (with_old m k e)
      go false e = rw (with_new m k e top, digit_kept m k (bit_clear m k e) i ne)

-- ---- one more

pub count_more : (m k : ℕ) → k < 64 → is_made m k ≡ false → made_count (with_made m k) ≡ made_count m + 1
unfolding made_count
count_more m k l e = one_more (is_made m) (is_made (with_made m k)) k 64 l e (with_made_lem m k l) (with_other m k l)

-- ---- the serial is the number of accepted calls, modulo 2 ^ 32

pub serial-step : (n : ℕ) → next_serial (n % 2 ^ 32) ≡ (n + 1) % 2 ^ 32
serial-step n = mod-add-mod n (2 ^ 32) 1
