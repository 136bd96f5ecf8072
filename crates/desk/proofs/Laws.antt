-- Digits and written bytes: what one more digit makes, and what is written in two goes. Assumes nothing.
use mathlib.Core.Path.{◌≡◌, refl, sym, ap, ◌∙◌}
use mathlib.Core.Bool.{Bool, true, false}
use mathlib.Core.List.{List, [], ◌∷◌, ◌++◌}
use Prim.Native.Nat.{ℕ, zero, suc, min, ◌+◌, ◌*◌, ◌/◌, ◌%◌, ◌^◌, ◌<◌, ◌≤◌, zero-le, suc-le-suc}
use native.Mathlib.Nat.{add_assoc, min_comm, add-zero, add-suc, suc-add, pow-suc}
use native.Mathlib.Numerals.{add-one}
use native.Mathlib.Omega.{arith}
use lib.Dec.{ltb, leb-suc-zero, leb-suc-suc}
use lib.ListN.{length, set, get_or, drop, length-append, drop_of_length-le, take}
use lib.Seq.{length-sets, drop-cons}
use Rattle.std.proofs.lemmas.List.{take_min}
use borrow.Author.Tests.{lt-ltb}
use Rattle.rules.specs.Tests.{pick}
use Rattle.desk.specs.Lines.{digits_in, digits, after, line, written}

-- ---- digits

tenth : (n k : ℕ) → n < 10 ^ suc k → n / 10 < 10 ^ k
tenth n k h = let e : 10 ^ suc k ≡ 10 ^ k * 10 = pow-suc 10 k in omega (arith, e)

-- once there is room for every digit, more room changes nothing
enough : (k n : ℕ) → n < 10 ^ suc k → digits_in (suc (suc k)) n ≡ digits_in (suc k) n
unfolding digits_in
enough zero n h = let l : n < 10 = omega arith in rw (lt-ltb n 10 l)
enough (suc k) n h = rw (enough k (n / 10) (tenth n (suc k) h))

-- the digits that stand before the last one
abbrev pub before_last : ℕ → List ℕ
before_last n = pick (ltb n 10) [] (digits (n / 10))

pub digits_last : (n : ℕ) → n < 2 ^ 32 → digits n ≡ before_last n ++ ((48 + n % 10) ∷ [])
unfolding digits digits_in
digits_last n l = rw (← enough 8 (n / 10) (omega arith))

by_one : (b : Bool) (k : ℕ) (l : List ℕ) → length l ≤ k → length (pick b [] l) + 1 ≤ suc k
by_one true k l h = omega arith
by_one false k l h = omega arith

few_in : (k n : ℕ) → length (digits_in k n) ≤ k
unfolding digits_in
few_in zero n = zero-le
few_in (suc k) n = simp length-append (by_one (ltb n 10) k (digits_in k (n / 10)) (few_in k (n / 10)))

pub few : (n : ℕ) → length (digits n) ≤ 10
unfolding digits
few n = few_in 10 n

-- ---- written bytes

pub written_then : (m : List ℕ) (at : ℕ) (a b : List ℕ) → written m at (a ++ b) ≡ written (written m at a) (at + length a) b
unfolding written
written_then m at [] b = rw add-zero
written_then m at (v ∷ a) b = rw (written_then (set m at v) (suc at) a b, add-suc, suc-add)

-- writing changes no length
pub length-written : (m : List ℕ) (at : ℕ) (a : List ℕ) → length (written m at a) ≡ length m
unfolding written
length-written m at a = length-sets m at a

pub same_room : (s m a b : List ℕ) (here at : ℕ) → written s here a ≡ written m at b → length s ≡ length m
same_room s m a b here at e = sym (length-written s here a) ∙ ap length e ∙ length-written m at b

-- ---- a number is written, from its first digit on

pub digit_turn : (m s t : List ℕ) (at next n : ℕ) → n < 2 ^ 32
    → next ≡ at + length (before_last n) → s ≡ written m at (before_last n) → t ≡ set s next (48 + n % 10)
    → (next + 1 ≡ at + length (digits n)) × (t ≡ written m at (digits n))
unfolding written
digit_turn m s t at next n l e w p =
    (rw (digits_last n l, length-append, e, add_assoc), rw (digits_last n l, written_then, ← w, ← e) p)

-- ---- a line is written, number by number: what is left to write makes the whole line

after_is : (l : List ℕ) → after l ≡ pick (ltb 0 (length l)) 32 10
after_is [] = refl
after_is (n ∷ l) = rw (lt-ltb 0 (suc (length l)) (suc-le-suc zero-le))

more_after : (l : List ℕ) (i : ℕ) → ltb 0 (length (drop i l)) ≡ ltb i (length l)
more_after l zero = refl
more_after [] (suc i) = rw (leb-suc-zero (suc i))
more_after (n ∷ l) (suc i) = rw (leb-suc-suc (suc i) (length l)) (more_after l i)

pub line_turn : (l : List ℕ) (i : ℕ) → i < length l
    → line (drop i l) ≡ digits (get_or l i 0) ++ (pick (ltb (i + 1) (length l)) 32 10 ∷ line (drop (i + 1) l))
unfolding line
line_turn l i h = rw (add-one, drop-cons l i 0, after_is, more_after)

pub number_turn : (m s t l : List ℕ) (i here next v : ℕ) → i < length l
    → next ≡ here + length (digits (get_or l i 0))
    → s ≡ written m here (digits (get_or l i 0))
    → v ≡ pick (ltb (i + 1) (length l)) 32 10
    → t ≡ set s next v
    → (next + 1 + length (line (drop (i + 1) l)) ≡ here + length (line (drop i l)))
    × (written t (next + 1) (line (drop (i + 1) l)) ≡ written m here (line (drop i l)))
unfolding written
number_turn m s t l i here next v h e w f p =
    (rw (line_turn l i h, length-append, e) (omega arith), rw (line_turn l i h, written_then, ← w, ← e, ← f, p, add-one next))

-- past the last number nothing is left to write
pub line_done : (s m l : List ℕ) (i here at : ℕ) → length l ≤ i
    → here + length (line (drop i l)) ≡ at + length (line l)
    → written s here (line (drop i l)) ≡ written m at (line l)
    → (here ≡ at + length (line l)) × (s ≡ written m at (line l))
unfolding written line
line_done s m l i here at h e w = (rw (drop_of_length-le l h, add-zero) at e, rw (drop_of_length-le l h) at w)

-- a line takes at most 11 bytes a number
pub line-few : (l : List ℕ) → length (line l) ≤ 11 * length l
unfolding line
line-few [] = zero-le
line-few (n ∷ l) = simp length-append (omega (arith, few n, line-few l))

-- the first k of a list, or all where there are fewer
pub first_of : (l : List ℕ) (k : ℕ) → take (min (length l) k) l ≡ take k l
first_of l k = rw min_comm (take_min k l)
