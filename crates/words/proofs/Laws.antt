-- Laws of copies between a store and an array or a slice: what runs past the store's end is not stored, and reads as 0. Assumes nothing.
use mathlib.Core.Path.{◌≡◌, refl, sym}
use mathlib.Core.List.{List, [], ◌∷◌, ◌++◌, append_assoc}
use Prim.Native.Nat.{ℕ, zero, suc, ◌+◌, ◌*◌, ◌-◌, ◌<◌, ◌≤◌, min}
use native.Mathlib.Nat.{add-suc, zero-add, min_comm}
use native.Mathlib.Decide.{dec_le, dec_lt}
use native.Mathlib.Omega.{arith}
use lib.ListN.{length, get_or, set, take, drop, replicate, length-set, length-take, length-drop, length-replicate}
use lib.Seq.{set_out, sets, sets-eq}
use borrow.Rule.Slice.PartMut.{put_mid}
use Rattle.std.proofs.lemmas.List.{take_min, drop-drop, places, get_or_past, get_or-append_right, get_or_append_left, get_or-take, get_or-drop, drop-replicate, get_or-replicate}
use Rattle.std.proofs.lemmas.Grind.{same_number_lists}
use Rattle.rules.specs.Memory.{spot, up_to, words, made_word, puts, apply}
use Rattle.rules.proofs.Memory.{length-up_to, up_to_more, length-words, words-get, puts-append, apply-append}

-- the words of a list that are stored from a place on are stored one after the other
puts_sets : (L k at p : ℕ) (vs m : List ℕ) → p ≡ spot L k at → apply L (puts k at vs) m ≡ sets m p vs
unfolding apply puts
puts_sets L k at p [] m e = refl
puts_sets L k at p (v ∷ vs) m e =
    rw e (puts_sets L k (suc at) (suc (spot L k at)) vs (set m (spot L k at) v) (omega (arith, add-suc (k * L) at)))

-- from the store's end on, none is stored
sets_past : (vs m : List ℕ) (p : ℕ) → length m ≤ p → sets m p vs ≡ m
sets_past [] m p h = refl
sets_past (v ∷ vs) m p h = rw (set_out m p v h) (sets_past vs m (suc p) (omega arith))

-- where n words are left up to the end, those that are stored are the first n
sets_within : (vs m : List ℕ) (p n : ℕ) → p + n ≡ length m → sets m p vs ≡ sets m p (take n vs)
sets_within vs m p zero h = sets_past vs m p (omega arith)
sets_within [] m p (suc n) h = refl
sets_within (v ∷ vs) m p (suc n) h = sets_within vs (set m p v) (suc p) n (rw length-set (omega arith))

-- wherever the place lies
sets_room : (vs m : List ℕ) (p from : ℕ) → from ≡ min p (length m) → sets m p vs ≡ sets m from (take (length m - from) vs)
sets_room vs m p from e = go (dec_le p (length m))
  where
    go : Dec (p ≤ length m) → sets m p vs ≡ sets m from (take (length m - from) vs)
    go (yes h) = let q : from ≡ p = omega arith in rw q (sets_within vs m p (length m - p) (omega arith))
    go (no h) = let q : length m - from ≡ 0 = omega arith in rw q (sets_past vs m p (omega arith))

-- a copy of as many words as there is room for stores the words of a slice in a stack
pub scattered : (L k at from room : ℕ) (a b m : List ℕ) → from ≡ min (spot L k at) (length m) → room ≡ min (length a) (length m - from)
    → b ≡ take room a → put_mid from room m b ≡ apply L (puts k at a) m
scattered L k at from room a b m e f g =
    let left = length m - from in
    let few : take room a ≡ take left a = rw (f, min_comm (length a) left) (take_min left a) in
    let long : length (take left a) ≡ room = rw (length-take, f) (min_comm left (length a)) in
    let fits : from + length (take left a) ≤ length m = rw long (omega arith) in
    rw (g, puts_sets L k at (spot L k at) a m refl, sets_room a m (spot L k at) from e, sets-eq (take left a) m from fits, long, few, drop-drop)
    (sym (append_assoc (take from m) (take left a) (drop (from + room) m)))

-- a copy of as many words as there are, into an array of zeros, copies the words from a place on
pub gathered : (size n p from room : ℕ) (b m : List ℕ) → from ≡ min p (length m) → room ≡ min (min n size) (length m - from)
    → b ≡ take room (drop from m) → b ++ drop room (replicate size 0) ≡ words m p (min n size) ++ replicate (size - n) 0
gathered size n p from room b m e f g = same_number_lists _ _ (rw g (search (arith, places, length-words))) (λ k h. go k h (dec_lt k room) (dec_lt k (min n size)))
  where
    left : List ℕ
    left = b ++ drop room (replicate size 0)

    right : List ℕ
    right = words m p (min n size) ++ replicate (size - n) 0

    long : length b ≡ room
    long = rw g (omega (arith, length-take room (drop from m), length-drop from m))

    go : (k : ℕ) → k < length left → Dec (k < room) → Dec (k < min n size) → get_or left k 0 ≡ get_or right k 0
    go k h (yes c) (yes d) = grind (arith, g, long, get_or_append_left, get_or-take, get_or-drop, words-get, length-words)
    go k h (no c) (yes d) = grind (arith, g, long, get_or_append_left, get_or-append_right, drop-replicate, get_or-replicate, get_or_past, words-get, length-words)
    go k h (yes c) (no d) = absurd (omega arith)
    go k h (no c) (no d) = grind (arith, g, long, get_or-append_right, drop-replicate, get_or-replicate, get_or_past, length-replicate, length-words)

-- making a stack: the words before at are stored, and then the one at it
pub made_more : (L k at : ℕ) (m : List ℕ)
    → apply L (puts k 0 (up_to (made_word k) (at + 1))) m ≡ apply L (puts k at (made_word k at ∷ [])) (apply L (puts k 0 (up_to (made_word k) at)) m)
made_more L k at m = rw (up_to_more, puts-append, apply-append, length-up_to, zero-add)
