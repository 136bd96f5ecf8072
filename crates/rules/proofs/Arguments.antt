-- Laws of specs/Arguments.antt: what a list that gives no reason for 10 says of its arguments, and how long its words are.
-- Assumes nothing.
use mathlib.Core.Path.{◌≡◌, refl, ◌∙◌}
use mathlib.Core.Bool.{Bool, true, ◌&&◌}
use mathlib.Core.List.{List, [], ◌∷◌, ◌++◌}
use Prim.Native.Nat.{ℕ, zero, suc, ◌+◌, ◌*◌, ◌<◌, ◌≤◌, zero-le}
use native.Mathlib.Numerals.{add-one}
use native.Mathlib.Nat.{add_assoc}
use native.Mathlib.Omega.{arith}
use lib.Dec.{leb}
use lib.ListN.{length, take, get_or, length-append}
use lib.Seq.{take-suc}
use borrow.Author.Tests.{leb-true, ltb-false, not-false, lt-ltb}
use Rattle.std.specs.Prelude.{Ok}
use Rattle.rules.specs.declared.Ring.{Ring}
use Rattle.rules.specs.declared.Argument.{Argument}
use Rattle.rules.specs.Memory.{spot, words}
use Rattle.rules.specs.Record.{zero_argument, placed}
use Rattle.rules.specs.Arguments.{group_at, is_permitted, argument_reasons, argument_reason, member_reason, list_reasons, list_reason, words_in, copies_of, pointing}
use Rattle.rules.proofs.Tests.{and_l, and_r, not_refused, passed}
use Rattle.rules.proofs.Memory.{length-words}

-- "length 1 to 16 words, direction 1 .. 2 .. 3", and permitted
pub record Fine (f : List ℕ) (L made : ℕ) (r : Ring) (outward : Bool) (a : Argument) : Type 0 where
  pub some : 1 ≤ a.length
  pub most : a.length ≤ 16
  pub low : 1 ≤ a.direction
  pub high : a.direction ≤ 3
  pub permitted : is_permitted f L made r outward a ≡ true

module _ (f : List ℕ) (L made : ℕ) (r : Ring) (outward : Bool) where
  pub argument_facts : (a : Argument) → argument_reason f L made r outward a ≡ Ok tt → Fine f L made r outward a
  unfolding argument_reason
  argument_facts a e =
      let n = (passed (argument_reasons f L made r outward a) tt tt e).0 in
      let long = not-false (leb 1 a.length && leb a.length 16) (not_refused _ _ n.0) in
      let way = not-false (leb 1 a.direction && leb a.direction 3) (not_refused _ _ n.1.0) in
      record {
        some = leb-true 1 a.length (and_l (leb 1 a.length) (leb a.length 16) long);
        most = leb-true a.length 16 (and_r (leb 1 a.length) (leb a.length 16) long);
        low = leb-true 1 a.direction (and_l (leb 1 a.direction) (leb a.direction 3) way);
        high = leb-true a.direction 3 (and_r (leb 1 a.direction) (leb a.direction 3) way);
        permitted = not-false (is_permitted f L made r outward a) (not_refused _ _ n.1.1.0);
      }

-- a list that is handed over with no reason
pub record Listing (f m : List ℕ) (L made : ℕ) (r : Ring) (outward : Bool) (place n : ℕ) : Type 0 where
  pub within : placed L place 1 ≡ true
  pub count : n ≤ 4
  pub fits : place + (1 + 4 * n) ≤ L
  pub each : (j : ℕ) → j < n → Fine f L made r outward (group_at m L r.0 place j)

module _ (f m : List ℕ) (L made : ℕ) (r : Ring) (outward : Bool) (place n : ℕ) where
  member_fine : (j : ℕ) → member_reason f m L made r outward place n j ≡ Ok tt → j < n → Fine f L made r outward (group_at m L r.0 place j)
  member_fine j e h =
      let t = lt-ltb j n h in
      argument_facts f L made r outward (group_at m L r.0 place j) (rw t at e)

  pub list_facts : list_reason f m L made r outward place n ≡ Ok tt → Listing f m L made r outward place n
  unfolding list_reason
  list_facts e =
      let h = (passed (list_reasons f m L made r outward place n) tt tt e).0 in
      let few : n ≤ 4 = ltb-false 4 n (not_refused _ _ h.1.0) in
      let each = h.1.1.1 in
      record {
        within = not-false (placed L place 1) (not_refused _ _ h.0);
        count = few;
        fits = ltb-false L (place + (1 + 4 * n)) (not_refused _ _ h.1.1.0);
        each = all each.0 each.1.0 each.1.1.0 each.1.1.1.0 few;
      }
    where
      all : member_reason f m L made r outward place n 0 ≡ Ok tt → member_reason f m L made r outward place n 1 ≡ Ok tt
          → member_reason f m L made r outward place n 2 ≡ Ok tt → member_reason f m L made r outward place n 3 ≡ Ok tt → n ≤ 4
          → (j : ℕ) → j < n → Fine f L made r outward (group_at m L r.0 place j)
      all a b c d few zero h = member_fine 0 a h
      all a b c d few (suc zero) h = member_fine 1 b h
      all a b c d few (suc (suc zero)) h = member_fine 2 c h
      all a b c d few (suc (suc (suc zero))) h = member_fine 3 d h
      all a b c d few (suc (suc (suc (suc j)))) h = absurd (omega arith)

-- ---- lengths

pub length-copies : (m : List ℕ) (L k : ℕ) (xs : List Argument) → length (copies_of m L k xs) ≡ words_in xs
unfolding copies_of
length-copies m L k [] = refl
length-copies m L k (a ∷ rest) =
    length-append (words m (spot L k a.offset) a.length) (copies_of m L k rest)
    ∙ rw (length-words, length-copies m L k rest)

pub length-pointing : (k at : ℕ) (xs : List Argument) → length (pointing k at xs) ≡ 4 * length xs
unfolding pointing
length-pointing k at [] = refl
length-pointing k at (a ∷ rest) = rw (length-pointing k (at + a.length) rest) (omega arith)

-- ---- one argument more

pub words_more : (rest : List Argument) (a : Argument) → words_in (rest ++ (a ∷ [])) ≡ words_in rest + a.length
words_more [] a = omega arith
words_more (b ∷ rest) a = rw (words_more rest a, ← add_assoc)

-- the words of the first i + 1 arguments, in a loop over them
pub words_turn : (l : List Argument) (i : ℕ) (d : Argument) → i < length l → words_in (take (i + 1) l) ≡ words_in (take i l) + (get_or l i d).length
words_turn l i d h = rw (add-one, take-suc l i d, words_more)

-- ---- the words of the first arguments are no more than those of all

words_le : (l : List Argument) (i : ℕ) → words_in (take i l) ≤ words_in l
words_le l zero = zero-le
words_le [] (suc i) = zero-le
words_le (a ∷ l) (suc i) = omega (arith, words_le l i)

pub next_fits : (l : List Argument) (i : ℕ) → i < length l → words_in (take i l) + (get_or l i zero_argument).length ≤ words_in l
next_fits l i h = rw (← words_turn l i zero_argument h) (words_le l (i + 1))
