-- The set with a ring in it, as the code makes it, by `|`. Assumes nothing.
use Rattle.std.proofs.Common.{◌≡◌, ℕ, zero, suc, ◌+◌, ◌*◌, ◌/◌, ◌%◌, ◌^◌, ◌<◌, Bool, true, false, sym, refl, ap, ◌∙◌, ap₂, mod-lt, arith, pow_pos, pow-add, eqb-true}
use lib.Pow.{split, mod-pow-add}
use lib.Bits.{bit_or, or_block, or_zero_l, or_zero_r, or_self}
use Rattle.rules.specs.Made.{is_made, with_made}
use Rattle.rules.proofs.Made.{with_old, with_new, bit_clear}

or_one : (b : ℕ) → b < 2 → bit_or b 1 ≡ 1
or_one zero h = or_zero_l 1
or_one (suc zero) h = or_self 1
or_one (suc (suc b)) h = absurd (omega arith)

digit_lt : (b r p : ℕ) → b < 2 → r < p → b * p + r < 2 * p
digit_lt zero r p h l = omega arith
digit_lt (suc zero) r p h l = omega arith
digit_lt (suc (suc b)) r p h l = absurd (omega arith)

module _ (m k : ℕ) where
  whole : m ≡ m / 2 ^ (1 + k) * 2 ^ (1 + k) + (m / 2 ^ k % 2 * 2 ^ k + m % 2 ^ k)
  whole = omega (arith, split m (1 + k), mod-pow-add m 1 k)

  or_shape : bit_or m (2 ^ k) ≡ m / 2 ^ (1 + k) * 2 ^ (1 + k) + (2 ^ k + m % 2 ^ k)
  or_shape =
      let p = 2 ^ k in
      let q = 2 ^ (1 + k) in
      let b = m / 2 ^ k % 2 in
      let r = m % 2 ^ k in
      let a = m / 2 ^ (1 + k) in
      let two : q ≡ 2 * p = pow-add 2 1 k in
      let one : p ≡ 0 * q + (1 * p + 0) = omega arith in
      let lb : b < 2 = omega arith in
      let lr : r < p = mod-lt m (pow_pos k) in
      ap₂ bit_or whole one
      ∙ or_block (1 + k) a 0 (b * p + r) (1 * p + 0) (rw two (digit_lt b r p lb lr)) (omega (arith, pow_pos k))
      ∙ ap₂ (λ (x y : ℕ). x * q + y) (or_zero_r a) (or_block k b 1 r 0 lr (pow_pos k) ∙ ap₂ (λ (x y : ℕ). x * p + y) (or_one b lb) (or_zero_r r))
      ∙ ap (λ (x : ℕ). a * q + x) (omega arith)

  pub or_with : k < 64 → bit_or m (2 ^ k) ≡ with_made m k
  unfolding is_made
  or_with top = go (is_made m k) refl
    where
      go : (b : Bool) → is_made m k ≡ b → bit_or m (2 ^ k) ≡ with_made m k
      go true e =
          let d : m / 2 ^ k % 2 ≡ 1 = eqb-true (m / 2 ^ k % 2) 1 e in
          let w : m ≡ m / 2 ^ (1 + k) * 2 ^ (1 + k) + (1 * 2 ^ k + m % 2 ^ k) = rw d at whole in
          or_shape ∙ omega arith ∙ sym (with_old m k e)
      go false e =
          let d : m / 2 ^ k % 2 ≡ 0 = bit_clear m k e in
          let w : m ≡ m / 2 ^ (1 + k) * 2 ^ (1 + k) + (0 * 2 ^ k + m % 2 ^ k) = rw d at whole in
          or_shape ∙ omega arith ∙ sym (with_new m k e top)
