-- Laws of specs/Memory.antt: stores one after the other, what is read after the stores, and lengths. Assumes nothing.
use mathlib.Core.Path.{◌≡◌, refl, sym, ap, ◌∙◌}
use mathlib.Core.Bool.{Bool, true, false, ◌&&◌}
use mathlib.Core.Logic.{⊎_elim, ◌⊎◌, inl, inr}
use mathlib.Core.List.{List, [], ◌∷◌, ◌++◌}
use Prim.Native.Nat.{ℕ, zero, suc, ◌+◌, ◌*◌, ◌/◌, ◌%◌, ◌<◌, ◌≤◌}
use native.Mathlib.Numerals.{add-one}
use native.Mathlib.Nat.{suc-add, add-suc, add-zero, zero-add, not-suc-le-zero, suc-mul, mul-le-mul_right, eq-or-lt_of_le, le_of_suc-le-suc}
use native.Mathlib.Decide.{dec_lt, ℕ_discrete}
use native.Mathlib.Omega.{arith}
use lib.Dec.{leb, eqb}
use lib.ListN.{length, get_or, set, length-set, length-append, get_or-append}
use lib.Seq.{get_or_at, get_or-set_other, get_or-set_same}
use borrow.Author.Tests.{leb-true, eqb-true}
use Rattle.rules.specs.Tests.{pick}
use Rattle.rules.specs.Memory.{spot, word, up_to, word_from, words, Store, puts, apply, permitted, stack_length, made_word, make_stack}
use Rattle.rules.proofs.Tests.{and_l, and_r}

-- ---- number 1

-- a store whose L is not 0 is 64×L words long, and L is permitted
pub length_told : (m : List ℕ) → 0 < stack_length m → (length m ≡ 64 * stack_length m) × (128 ≤ stack_length m) × (stack_length m ≤ 1024)
unfolding stack_length
length_told m h = go (permitted (length m)) refl h
  where
    go : (b : Bool) → permitted (length m) ≡ b → 0 < pick b (length m / 64) 0
        → (length m ≡ 64 * pick b (length m / 64) 0) × (128 ≤ pick b (length m / 64) 0) × (pick b (length m / 64) 0 ≤ 1024)
    go true e h =
        let whole = eqb (length m % 64) 0 in
        let low = leb 128 (length m / 64) in
        let both = and_l (whole && low) (leb (length m / 64) 1024) e in
        let a = eqb-true (length m % 64) 0 (and_l whole low both) in
        let b = leb-true 128 (length m / 64) (and_r whole low both) in
        let c = leb-true (length m / 64) 1024 (and_r (whole && low) (leb (length m / 64) 1024) e) in
        (omega arith, b, c)
    go false e h = absurd (not-suc-le-zero h)

-- ---- runs of words

pub length-up_to : (f : ℕ → ℕ) (n : ℕ) → length (up_to f n) ≡ n
unfolding up_to
length-up_to f zero = refl
length-up_to f (suc n) = length-append (up_to f n) (f n ∷ []) ∙ add-one _ ∙ ap suc (length-up_to f n)

pub up_to_more : (f : ℕ → ℕ) (n : ℕ) → up_to f (n + 1) ≡ up_to f n ++ (f n ∷ [])
unfolding up_to
up_to_more f n = rw add-one

pub up_to-get : (f : ℕ → ℕ) (n i : ℕ) → i < n → get_or (up_to f n) i 0 ≡ f i
unfolding up_to
up_to-get f zero i h = absurd (not-suc-le-zero h)
up_to-get f (suc n) i h =
    ⊎_elim
    (λ e. rw e (get_or_at (up_to f n) (f n) [] 0 n (length-up_to f n)))
    (λ l. rw (get_or-append (up_to f n) (f n ∷ []) 0 i (rw length-up_to l)) (up_to-get f n i l))
    (eq-or-lt_of_le (le_of_suc-le-suc h))

pub length-words : (m : List ℕ) (p n : ℕ) → length (words m p n) ≡ n
unfolding words
length-words m p n = length-up_to (word_from m p) n

pub words-get : (m : List ℕ) (p n i : ℕ) → i < n → get_or (words m p n) i 0 ≡ word m (p + i)
unfolding words
words-get m p n i h = up_to-get (word_from m p) n i h

-- ---- stores

pub apply-append : (L : ℕ) (a b : List Store) (m : List ℕ) → apply L (a ++ b) m ≡ apply L b (apply L a m)
unfolding apply
apply-append L [] b m = refl
apply-append L (s ∷ a) b m = apply-append L a b (set m (spot L s.stack s.offset) s.value)

pub length-apply : (L : ℕ) (a : List Store) (m : List ℕ) → length (apply L a m) ≡ length m
unfolding apply
length-apply L [] m = refl
length-apply L (s ∷ a) m =
    length-apply L a (set m (spot L s.stack s.offset) s.value) ∙ length-set m (spot L s.stack s.offset) s.value

pub puts-append : (k at : ℕ) (a b : List ℕ) → puts k at (a ++ b) ≡ puts k at a ++ puts k (at + length a) b
unfolding puts
puts-append k at [] b = rw add-zero
puts-append k at (v ∷ a) b = rw (add-suc, ← suc-add, puts-append k (suc at) a b)

pub length-puts : (k at : ℕ) (a : List ℕ) → length (puts k at a) ≡ length a
unfolding puts
length-puts k at [] = refl
length-puts k at (v ∷ a) = ap suc (length-puts k (suc at) a)

-- making a stack stores L words
pub length_make : (L k : ℕ) → length (make_stack L k) ≡ L
unfolding make_stack
length_make L k = length-puts k 0 (up_to (made_word k) L) ∙ length-up_to (made_word k) L

pub same_long : (L : ℕ) (ss : List Store) (m s : List ℕ) → s ≡ apply L ss m → length s ≡ length m
same_long L ss m s e = ap length e ∙ length-apply L ss m

-- stores after stores
pub then : (L : ℕ) (a b : List Store) (m s t : List ℕ) → s ≡ apply L a m → t ≡ apply L b s → t ≡ apply L (a ++ b) m
then L a b m s t p q = rw (apply-append, ← p) q

-- stores that are read off the memory after other stores
pub after : (L : ℕ) (a : List Store) (f : List ℕ → List Store) (m s t : List ℕ) → s ≡ apply L a m → t ≡ apply L (f s) s
    → t ≡ apply L (a ++ f (apply L a m)) m
after L a f m s t p q = rw (apply-append, ← p) q

-- ---- a loop that makes one store a turn

pub none : (L k at : ℕ) (m : List ℕ) → m ≡ apply L (puts k at []) m
unfolding apply puts
none L k at m = refl

-- two stores, one after the other
pub two : (L k at p a b : ℕ) (m s t : List ℕ) → p ≡ spot L k at → s ≡ set m p a → t ≡ set s (p + 1) b
    → t ≡ apply L (puts k at (a ∷ b ∷ [])) m
unfolding apply puts
two L k at p a b m s t e x y =
    let q : p + 1 ≡ spot L k (suc at) = rw e (omega (arith, add-suc (k * L) at)) in
    rw (← q, ← e, ← x) y

-- ---- what is read after the stores

-- two stacks have no word in common
pub apart : (L j k x y : ℕ) → j < k → x < L → spot L j x < spot L k y
apart L j k x y h l = omega (arith, suc-mul j L, mul-le-mul_right L h)

-- words of two stacks, or two words of a stack, lie at different places
pub elsewhere : (L j k x y : ℕ) → x < L → y < L → ((j ≡ k) × (x ≡ y) → ⊥) → spot L j x ≡ spot L k y → ⊥
elsewhere L j k x y hx hy ne e = go (dec_lt j k) (dec_lt k j)
  where
    go : Dec (j < k) → Dec (k < j) → ⊥
    go (yes l) _ = omega (arith, apart L j k x y l hx)
    go (no l) (yes g) = omega (arith, apart L k j y x g hy)
    go (no l) (no g) = let q : j ≡ k = omega arith in ne (q, omega (arith, ap (λ (z : ℕ). z * L) q))

-- what holds of the stack and offset of each store
pub data Each (P : ℕ → ℕ → Type 0) : List Store → Type 0 where
  nothing : Each P []
  more : {s : Store} {ss : List Store} → P s.stack s.offset → Each P ss → Each P (s ∷ ss)

pub each_append : {P : ℕ → ℕ → Type 0} {a b : List Store} → Each P a → Each P b → Each P (a ++ b)
each_append nothing y = y
each_append (more h x) y = more h (each_append x y)

pub each_puts : (P : ℕ → ℕ → Type 0) (k at : ℕ) (vs : List ℕ) → ((i : ℕ) → i < length vs → P k (at + i)) → Each P (puts k at vs)
unfolding puts
each_puts P k at [] h = nothing
each_puts P k at (v ∷ vs) h =
    more (rw add-zero at (h 0 (omega arith))) (each_puts P k (suc at) vs (λ i l. rw (suc-add, ← add-suc) (h (suc i) (omega arith))))

-- one word, and two
pub each_one : (P : ℕ → ℕ → Type 0) (k at v : ℕ) → P k at → Each P (puts k at (v ∷ []))
unfolding puts
each_one P k at v h = more h nothing

pub each_two : (P : ℕ → ℕ → Type 0) (k at v w : ℕ) → P k at → P k (suc at) → Each P (puts k at (v ∷ w ∷ []))
unfolding puts
each_two P k at v w h g = more h (more g nothing)

-- one store more in front: what it means for a word, where the rest leaves the word as it is or P holds
framed_one : (L : ℕ) (P : ℕ → ℕ → Type 0) (s : Store) (m : List ℕ) (later k o : ℕ) → (s.offset < L) × P s.stack s.offset → o < L
    → (later ≡ word (set m (spot L s.stack s.offset) s.value) (spot L k o)) ⊎ P k o → (later ≡ word m (spot L k o)) ⊎ P k o
framed_one L P s m later k o h l rest = go (ℕ_discrete s.stack k) (ℕ_discrete s.offset o)
  where
    other : ((s.stack ≡ k) × (s.offset ≡ o) → ⊥) → (later ≡ word m (spot L k o)) ⊎ P k o
    other ne =
        ⊎_elim
        (λ e. inl (e ∙ get_or-set_other m (spot L s.stack s.offset) (spot L k o) s.value 0
        (λ q. elsewhere L s.stack k s.offset o h.0 l ne (sym q))))
        inr
        rest

    go : Dec (s.stack ≡ k) → Dec (s.offset ≡ o) → (later ≡ word m (spot L k o)) ⊎ P k o
    go (yes a) (yes b) = inr (rw (← a, ← b) h.1)
    go (no a) _ = other (λ q. a q.0)
    go (yes a) (no b) = other (λ q. b q.1)

-- the frame of a list of stores: a word is as it was, or it is one of those of which P holds
pub framed : (L : ℕ) (P : ℕ → ℕ → Type 0) (ss : List Store) (m : List ℕ) → Each (λ k o. (o < L) × P k o) ss
    → (k o : ℕ) → o < L → (word (apply L ss m) (spot L k o) ≡ word m (spot L k o)) ⊎ P k o
unfolding apply
framed L P [] m h k o l = inl refl
framed L P (s ∷ ss) m (more h rest) k o l =
    framed_one L P s m _ k o h l (framed L P ss (set m (spot L s.stack s.offset) s.value) rest k o l)

-- stores in other stacks leave a stack as it was
pub untouched : (L k : ℕ) (ss : List Store) (m : List ℕ) → Each (λ j o. (o < L) × (j ≡ k → ⊥)) ss → (o : ℕ) → o < L
    → word (apply L ss m) (spot L k o) ≡ word m (spot L k o)
untouched L k ss m h o l = ⊎_elim (λ e. e) (λ ne. absurd (ne refl)) (framed L (λ j x. j ≡ k → ⊥) ss m h k o l)

-- before, after and inside a run of words that is stored
pub below : (L k at q : ℕ) (vs m : List ℕ) → q < spot L k at → word (apply L (puts k at vs) m) q ≡ word m q
unfolding apply puts
below L k at q [] m h = refl
below L k at q (v ∷ vs) m h =
    below L k (suc at) q vs (set m (spot L k at) v) (omega arith) ∙ get_or-set_other m (spot L k at) q v 0 (λ e. omega arith)

pub above : (L k at q : ℕ) (vs m : List ℕ) → spot L k at + length vs ≤ q → word (apply L (puts k at vs) m) q ≡ word m q
unfolding apply puts
above L k at q [] m h = refl
above L k at q (v ∷ vs) m h =
    above L k (suc at) q vs (set m (spot L k at) v) (omega arith) ∙ get_or-set_other m (spot L k at) q v 0 (λ e. omega arith)

pub inside : (L k at i : ℕ) (vs m : List ℕ) → i < length vs → spot L k at + length vs ≤ length m
    → word (apply L (puts k at vs) m) (spot L k (at + i)) ≡ get_or vs i 0
unfolding apply puts
inside L k at i [] m h l = absurd (not-suc-le-zero h)
inside L k at zero (v ∷ vs) m h l =
    rw (add-zero, below L k (suc at) (spot L k at) vs (set m (spot L k at) v) (omega arith)) (get_or-set_same m (spot L k at) v 0 (omega arith))
inside L k at (suc i) (v ∷ vs) m h l =
    rw (add-suc, ← suc-add) (inside L k (suc at) i vs (set m (spot L k at) v) (omega arith) (rw length-set (omega arith)))

-- a stack that is made reads as made
pub made_read : (L k o : ℕ) (m : List ℕ) → o < L → spot L k L ≤ length m → word (apply L (make_stack L k) m) (spot L k o) ≡ made_word k o
unfolding make_stack
made_read L k o m l h =
    let short : o < length (up_to (made_word k) L) = rw length-up_to l in
    rw zero-add at (inside L k 0 o (up_to (made_word k) L) m short (rw length-up_to (omega arith))) ∙ up_to-get (made_word k) L o l

-- "So an empty frame lies at 8 and the next at 40": what a stack only now made reads as, in words 1 and 27 (the last-used frame's 19)
pub made_last : (k : ℕ) → made_word k 1 ≡ 8
made_last k = refl

pub made-next : (k : ℕ) → made_word k (8 + 19) ≡ 40
made-next k = refl

pub new_last : (L k : ℕ) (m : List ℕ) → 28 ≤ L → spot L k L ≤ length m → word (apply L (make_stack L k) m) (spot L k 1) ≡ 8
new_last L k m l h = made_read L k 1 m (omega arith) h ∙ made_last k

pub new_next : (L k : ℕ) (m : List ℕ) → 28 ≤ L → spot L k L ≤ length m → word (apply L (make_stack L k) m) (spot L k (8 + 19)) ≡ 40
new_next L k m l h = made_read L k (8 + 19) m (omega arith) h ∙ made-next k
