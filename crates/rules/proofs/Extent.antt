-- The extent of what a crossing stores: each store of an accepted call or return is one of the named words (specs/History.antt, May),
-- and lies within its stack. Assumes nothing.
use mathlib.Core.Path.{◌≡◌, refl, ap, ◌∙◌}
use mathlib.Core.Bool.{Bool, true, false}
use mathlib.Core.List.{List, [], ◌∷◌}
use Prim.Native.Nat.{ℕ, zero, suc, ◌+◌, ◌*◌, ◌<◌, ◌≤◌}
use native.Mathlib.Nat.{not-suc-le-zero}
use native.Mathlib.Omega.{arith}
use lib.Dec.{leb, ltb, eqb}
use lib.ListN.{length, get_or, take}
use lib.Seq.{length-take-le}
use borrow.Author.Tests.{leb-true, eqb-true, ltb-false}
use Rattle.rules.specs.declared.Ring.{Ring}
use Rattle.rules.specs.declared.Level.{Level}
use Rattle.rules.specs.declared.Argument.{Argument}
use Rattle.rules.specs.declared.Entry.{Entry}
use Rattle.rules.specs.declared.Request.{Request}
use Rattle.rules.specs.declared.Seen.{Seen}
use Rattle.rules.specs.Tests.{pick}
use Rattle.rules.specs.Memory.{spot, words, up_to, puts, stack_length, made_word, make_stack}
use Rattle.rules.specs.Made.{is_made}
use Rattle.rules.specs.Record.{zero_argument, lengths, inward_sound, outward_sound, newest}
use Rattle.rules.specs.Arguments.{handed_of, copies_of, pointing}
use Rattle.rules.specs.Call.{goes_outward, handed, seen, to, copies_at, end_of, arguments, making, frame_stores, base_stores, list_words, copies, call_stores}
use Rattle.rules.specs.Return.{back_stores, return_stores}
use Rattle.rules.specs.Step.{crosses, State, returns}
use Rattle.rules.specs.History.{sees, new_ring, May, call_left, call_frame, call_list, call_copies, call_base, call_making, return_left, return_level, return_argument, Covers, here, there}
use Rattle.rules.proofs.Memory.{Each, nothing, each_append, each_one, each_two, each_puts, length-words, length-up_to}
use Rattle.rules.proofs.Arguments.{length-copies, length-pointing}
use Rattle.rules.proofs.Tests.{and_l}
use Rattle.rules.proofs.Record.{Held, lent}
use Rattle.rules.proofs.Called.{Called, copied_words}

-- ---- a call

module _ (top : ℕ) (f : List ℕ) (s : State) (q : Request) (way : returns q ≡ false)
    (c : Called top f s.memory s.process q (sees f s q)) where
  abbrev L : ℕ
  L = stack_length s.memory

  abbrev v : Seen
  v = sees f s q

  -- a word of a crossing within its stack
  abbrev In : ℕ → ℕ → Type 0
  In k o = (o < L) × May f s (crosses q) k o

  len_is : v.len ≡ L
  unfolding seen
  len_is = refl

  end_fits : end_of v ≤ L
  end_fits = rw len_is at c.tests.fits

  four : length v.handed.arguments ≡ 4
  unfolding seen handed handed_of
  four = refl

  each_making : Each In (making v.len s.process.made (new_ring f s q))
  unfolding making make_stack
  each_making = go (is_made s.process.made (new_ring f s q)) refl
    where
      go : (b : Bool) → is_made s.process.made (new_ring f s q) ≡ b
          → Each In (pick b [] (puts (new_ring f s q) 0 (up_to (made_word (new_ring f s q)) v.len)))
      go true e = nothing
      go false e =
          each_puts In (new_ring f s q) 0 (up_to (made_word (new_ring f s q)) v.len)
          (λ i l. (omega (arith, length-up_to (made_word (new_ring f s q)) v.len, len_is), call_making way e))

  big : 128 ≤ L
  big = c.long.1

  -- the words of the stack left, of the frame, of the list, of the copies and of the base
  in_left : (o : ℕ) → o < 2 → In s.process.ring.0 o
  in_left o h = let l = big in (omega arith, call_left {o = o} way h)

  in_frame : (o : ℕ) → v.fresh ≤ o → o < v.fresh + 32 → In (new_ring f s q) o
  in_frame o a b = let l = end_fits in (omega arith, call_frame {o = o} way a b)

  in_list : (o : ℕ) → v.fresh + 32 ≤ o → o < copies_at v → In (new_ring f s q) o
  in_list o a b = let l = end_fits in (omega arith, call_list {o = o} way a b)

  in_copies : (o : ℕ) → goes_outward s.process.ring v.decision ≡ true → copies_at v ≤ o → o < end_of v → In (new_ring f s q) o
  in_copies o out a b = let l = end_fits in (omega arith, call_copies {o = o} way out a b)

  in_base : (o : ℕ) → 2 ≤ o → o < 5 → In (new_ring f s q) o
  in_base o a b = let l = big in (omega arith, call_base {o = o} way a b)

  -- two words of the frame
  frame_pair : (p a b : ℕ) → p + 2 ≤ 32 → Each In (puts (new_ring f s q) (v.fresh + p) (a ∷ b ∷ []))
  frame_pair p a b l =
      each_puts In (new_ring f s q) (v.fresh + p) (a ∷ b ∷ []) (λ i h. in_frame (v.fresh + p + i) (omega arith) (short i h))
    where
      short : (i : ℕ) → i < length (a ∷ b ∷ []) → v.fresh + p + i < v.fresh + 32
      short i h = let w : i < 2 = h in omega arith

  each_frame : (caller : List ℕ) (used end : ℕ) → length caller ≡ 32
      → Each In (frame_stores caller s.process.ring.0 q.frame (new_ring f s q) v.fresh used end)
  unfolding frame_stores
  each_frame caller used end long =
      let old = s.process.ring.0 in
      let new = new_ring f s q in
      let h0 = each_puts In old 0 (old ∷ q.frame ∷ []) (λ i h. let w : i < 2 = h in in_left (0 + i) (omega arith)) in
      let h1 = each_puts In new v.fresh caller (λ i h. let w : i < 32 = rw long at h in in_frame (v.fresh + i) (omega arith) (omega arith)) in
      each_append
      (each_append (each_append (each_append h0 h1) (frame_pair 16 _ _ (omega arith))) (frame_pair 18 _ _ (omega arith)))
      (frame_pair 28 _ _ (omega arith))

  -- the list has 1 + 4n words
  length_list : length (list_words s.memory s.process.ring s.process.made s.process.calls s.process.serial q v) ≡ 1 + 4 * v.handed.count
  length_list = go (goes_outward s.process.ring v.decision) refl
    where
      go : (b : Bool) → goes_outward s.process.ring v.decision ≡ b
          → length (pick b (v.handed.count ∷ pointing (to v).0 (copies_at v) (arguments v)) (words s.memory (spot v.len s.process.ring.0 q.place) (1 + 4 * v.handed.count))) ≡ 1 + 4 * v.handed.count
      go true e =
          let n = length-take-le v.handed.count v.handed.arguments (rw four c.list.count) in
          omega (arith, length-pointing (to v).0 (copies_at v) (arguments v), ap (λ (x : ℕ). 4 * x) n)
      go false e = length-words s.memory (spot v.len s.process.ring.0 q.place) (1 + 4 * v.handed.count)

  each_list : Each In (puts (new_ring f s q) (v.fresh + 32) (list_words s.memory s.process.ring s.process.made s.process.calls s.process.serial q v))
  each_list =
      each_puts In (new_ring f s q) (v.fresh + 32) _
      (λ i h. let w : i < 1 + 4 * v.handed.count = rw length_list at h in in_list (v.fresh + 32 + i) (omega arith) (omega arith))

  each_copies : Each In (puts (new_ring f s q) (copies_at v) (copies s.memory s.process.ring s.process.made s.process.calls s.process.serial q v))
  unfolding puts
  each_copies = go (goes_outward s.process.ring v.decision) refl
    where
      words_are : goes_outward s.process.ring v.decision ≡ true → length (copies_of s.memory v.len s.process.ring.0 (arguments v)) ≡ v.handed.words
      words_are e = length-copies s.memory v.len s.process.ring.0 (arguments v) ∙ (copied_words top f s.memory s.process q c e).0

      go : (b : Bool) → goes_outward s.process.ring v.decision ≡ b
          → Each In (puts (new_ring f s q) (copies_at v) (pick b (copies_of s.memory v.len s.process.ring.0 (arguments v)) []))
      go true e =
          each_puts In (new_ring f s q) (copies_at v) (copies_of s.memory v.len s.process.ring.0 (arguments v))
          (λ i h. let w : i < v.handed.words = rw (words_are e) at h in in_copies (copies_at v + i) e (omega arith) (omega arith))
      go false e = nothing

  each_base : (calls : ℕ) (level : Level) (serial : ℕ) → Each In (base_stores (new_ring f s q) calls level serial)
  unfolding base_stores
  each_base calls level serial =
      each_puts In (new_ring f s q) 2 (calls ∷ level.0 ∷ serial ∷ []) (λ i h. let w : i < 3 = h in in_base (2 + i) (omega arith) (omega arith))

  pub each_call : Each In (call_stores s.memory s.process.ring s.process.made s.process.calls s.process.serial q v)
  unfolding call_stores
  each_call =
      each_append
      (each_append
      (each_append
      (each_append each_making
      (each_frame (words s.memory (spot v.len s.process.ring.0 q.frame) 32) _ _ (length-words s.memory _ 32)))
      each_list)
      each_copies)
      (each_base _ _ _)

-- ---- a return

-- a word is covered by some argument
covers_some : {xs : List Argument} {o : ℕ} → Covers xs o → 0 < length xs
covers_some (here d l h) = omega arith
covers_some (there c) = omega arith

-- the word that is covered lies in one of the first n arguments
covers_at : (xs : List Argument) (n o : ℕ) → Covers (take n xs) o
    → (j : ℕ) × (j < n) × ((get_or xs j zero_argument).offset ≤ o) × (o < (get_or xs j zero_argument).offset + (get_or xs j zero_argument).length)
covers_at [] zero o c = absurd (not-suc-le-zero (covers_some c))
covers_at [] (suc n) o c = absurd (not-suc-le-zero (covers_some c))
covers_at (a ∷ xs) zero o c = absurd (not-suc-le-zero (covers_some c))
covers_at (a ∷ xs) (suc n) o (here d l h) = (0, omega arith, l, h)
covers_at (a ∷ xs) (suc n) o (there c) = let r = covers_at xs n o c in (suc r.0, omega (arith, r.1), r.2, r.3)

pub each_back : (P : ℕ → ℕ → Type 0) (m : List ℕ) (L left old at : ℕ) (xs : List Argument) → ((o : ℕ) → Covers xs o → P old o)
    → Each P (back_stores m L left old at xs)
unfolding back_stores
each_back P m L left old at [] h = nothing
each_back P m L left old at (a ∷ xs) h =
    each_append (one (leb 2 a.direction) refl) (each_back P m L left old (at + a.length) xs (λ o c. h o (there c)))
  where
    one : (b : Bool) → leb 2 a.direction ≡ b → Each P (pick b (puts old a.offset (words m (spot L left at) a.length)) [])
    one true e =
        each_puts P old a.offset (words m (spot L left at) a.length)
        (λ i l. let w : i < a.length = rw length-words at l in h (a.offset + i) (here (leb-true 2 a.direction e) (omega arith) (omega arith)))
    one false e = nothing

-- a word that is copied back: the call went outward, and the word lies in the old stack from 8 on
pub record Lands (L : ℕ) (ring : Ring) (e : Entry) (o : ℕ) : Type 0 where
  pub outward : e.old.0 < ring.0
  pub low : 8 ≤ o
  pub fits : o < L

pub lands : (top L set : ℕ) (ring : Ring) (e : Entry) (o : ℕ) → Held top L set ring e → Covers (take e.count e.arguments) o → Lands L ring e o
unfolding inward_sound outward_sound
lands top L set ring e o h c =
    let at = covers_at e.arguments e.count o c in
    go (ltb ring.0 e.old.0) refl h.way at
  where
    go : (b : Bool) → ltb ring.0 e.old.0 ≡ b → pick b (inward_sound L e) (outward_sound L e) ≡ true
        → (j : ℕ) × (j < e.count) × ((get_or e.arguments j zero_argument).offset ≤ o) × (o < (get_or e.arguments j zero_argument).offset + (get_or e.arguments j zero_argument).length)
        → Lands L ring e o
    go true q w at =
        let none = eqb-true e.count 0 (and_l (eqb e.count 0) (leb (e.fresh + 33) L) w) in
        absurd (omega (arith, at.1))
    go false q w at =
        let few = leb-true e.count 4 (and_l (leb e.count 4) (leb (e.fresh + 33 + 4 * e.count + lengths e) L) w) in
        let a = lent L e at.0 h.arguments (omega (arith, at.1)) at.1 in
        let out = ltb-false ring.0 e.old.0 q in
        let ne = h.differs in
        record { outward = omega arith; low = omega (arith, a.low, at.2); fits = omega (arith, a.fits, at.3) }

module _ (top : ℕ) (f : List ℕ) (s : State) (q : Request) (way : returns q ≡ true) (big : 128 ≤ stack_length s.memory)
    (h : Held top (stack_length s.memory) s.process.made s.process.ring (newest s.process)) where
  pub each_return : Each (λ k o. (o < stack_length s.memory) × May f s (crosses q) k o)
      (return_stores s.memory (stack_length s.memory) s.process.ring (newest s.process))
  unfolding return_stores
  each_return =
      let e = newest s.process in
      let L = stack_length s.memory in
      let P : ℕ → ℕ → Type 0 = λ k o. (o < L) × May f s (crosses q) k o in
      each_append
      (each_append
      (each_two P s.process.ring.0 0 _ _ (left 0 (omega arith)) (left 1 (omega arith)))
      (each_one P e.old.0 3 _ (level 3 refl)))
      (each_back P s.memory L s.process.ring.0 e.old.0 (e.fresh + (33 + 4 * e.count)) (take e.count e.arguments) back)
    where
      left : (o : ℕ) → o < 2 → (o < stack_length s.memory) × May f s (crosses q) s.process.ring.0 o
      left o l = (omega arith, return_left {o = o} way l)

      level : (o : ℕ) → o ≡ 3 → (o < stack_length s.memory) × May f s (crosses q) (newest s.process).old.0 o
      level o e = rw e (omega arith, return_level way)

      back : (o : ℕ) → Covers (take (newest s.process).count (newest s.process).arguments) o
          → (o < stack_length s.memory) × May f s (crosses q) (newest s.process).old.0 o
      back o c =
          let n = lands top (stack_length s.memory) s.process.made s.process.ring (newest s.process) o h c in
          (n.fits, return_argument {o = o} way n.outward c)
