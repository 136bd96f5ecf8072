-- The turns of the loops that gather the copies and point the list at them. Assumes nothing.
use mathlib.Core.Path.{◌≡◌, ap, ◌∙◌}
use mathlib.Core.List.{List, [], ◌∷◌, ◌++◌, append_assoc, append-nil}
use Prim.Native.Nat.{ℕ, suc, ◌+◌, ◌-◌, ◌*◌, ◌<◌, ◌≤◌, min}
use native.Mathlib.Numerals.{add-one}
use native.Mathlib.Nat.{add_assoc, add-zero}
use native.Mathlib.Omega.{arith}
use lib.ListN.{length, get_or, take, drop, replicate, length-append, length-drop}
use lib.Seq.{take-suc, take_at, length-take-le}
use borrow.Rule.Slice.PartMut.{put_mid}
use Rattle.rules.specs.declared.Argument.{Argument}
use Rattle.rules.specs.Memory.{spot, words, puts, apply}
use Rattle.rules.specs.Record.{zero_argument}
use Rattle.rules.specs.Arguments.{words_in, copies_of, pointing}
use Rattle.rules.proofs.Memory.{length-words, puts-append, then}
use Rattle.rules.proofs.Arguments.{length-pointing, words_turn}

-- n words are put into a at a place
into : (at n : ℕ) (a b : List ℕ) → at + n ≤ length a → length b ≡ n → (length (put_mid at n a b) ≡ length a) × (take (at + n) (put_mid at n a b) ≡ take at a ++ b)
into at n a b room long =
    let first : length (take at a) ≡ at = length-take-le at a (omega arith) in
    let both : length (take at a ++ b) ≡ at + n = rw (length-append, first, long) in (
      rw (length-append, length-append, first, long, length-drop, length-drop) (omega arith),
      rw (← append_assoc) (take_at (take at a ++ b) (drop n (drop at a)) (at + n) both),
    )

-- the words that were gathered
pub taken : (m a : List ℕ) (p n : ℕ) → n ≤ 64 → a ≡ words m p (min n 64) ++ replicate (64 - n) 0 → take n a ≡ words m p n
taken m a p n few e =
    let q : min n 64 ≡ n = omega arith in
    rw (e, q) (take_at (words m p n) (replicate (64 - n) 0) n (length-words m p n))

-- ---- one argument more

copies_more : (m : List ℕ) (L k : ℕ) (rest : List Argument) (a : Argument)
    → copies_of m L k (rest ++ (a ∷ [])) ≡ copies_of m L k rest ++ words m (spot L k a.offset) a.length
unfolding copies_of
copies_more m L k [] a = append-nil _
copies_more m L k (b ∷ rest) a = rw (copies_more m L k rest a, append_assoc)

pointing_more : (k at : ℕ) (rest : List Argument) (a : Argument)
    → pointing k at (rest ++ (a ∷ [])) ≡ pointing k at rest ++ (k ∷ (at + words_in rest) ∷ a.length ∷ a.direction ∷ [])
unfolding pointing
pointing_more k at [] a = rw add-zero
pointing_more k at (b ∷ rest) a = rw (pointing_more k (at + b.length) rest a, add_assoc)

module _ (l : List Argument) (i : ℕ) (h0 : i < length l) where
  -- the gathered copies: the next argument's words come after those of the first i
  pub copies_turn : (m : List ℕ) (L k at room : ℕ) (a w b : List ℕ) → (get_or l i zero_argument).length ≤ 64
      → at + (get_or l i zero_argument).length ≤ length a
      → at ≡ words_in (take i l) → room ≡ (get_or l i zero_argument).length
      → take (words_in (take i l)) a ≡ copies_of m L k (take i l)
      → w ≡ words m (spot L k (get_or l i zero_argument).offset) (min (get_or l i zero_argument).length 64) ++ replicate (64 - (get_or l i zero_argument).length) 0
      → b ≡ take (get_or l i zero_argument).length w
      → (length (put_mid at room a b) ≡ length a)
      × (at + (get_or l i zero_argument).length ≡ words_in (take (i + 1) l))
      × (take (words_in (take (i + 1) l)) (put_mid at room a b) ≡ copies_of m L k (take (i + 1) l))
  copies_turn m L k at room a w b few fits place same inv ew eb =
      let n = (get_or l i zero_argument).length in
      let p = spot L k (get_or l i zero_argument).offset in
      let t : b ≡ words m p n = eb ∙ taken m w p n few ew in
      let long : length b ≡ n = rw t (length-words m p n) in
      let h = into at n a b fits long in (
        rw same h.0,
        rw (words_turn l i zero_argument h0, place) (omega arith),
        rw (words_turn l i zero_argument h0, same, ← place) (rw (h.1, t, place, inv, add-one, take-suc l i zero_argument, copies_more)),
      )

  -- the list: one group more is stored after the first i
  pub point_turn : (L k list here copies at : ℕ) (m s t u : List ℕ) → here ≡ list + 4 * i → at ≡ copies + words_in (take i l)
      → s ≡ apply L (puts k list (pointing k copies (take i l))) m
      → t ≡ apply L (puts k here (k ∷ at ∷ [])) s
      → u ≡ apply L (puts k (here + 2) ((get_or l i zero_argument).length ∷ (get_or l i zero_argument).direction ∷ [])) t
      → u ≡ apply L (puts k list (pointing k copies (take (i + 1) l))) m
  unfolding puts
  point_turn L k list here copies at m s t u w e inv one other =
      let g = get_or l i zero_argument in
      let long : length (pointing k copies (take i l)) ≡ 4 * i = length-pointing k copies (take i l) ∙ ap (λ (x : ℕ). 4 * x) (length-take-le i l (omega arith)) in
      let q : here + 2 ≡ suc (suc here) = omega arith in
      let both = then L _ _ _ _ _ inv (then L _ _ _ _ _ one (rw q at other)) in
      rw (add-one, take-suc l i zero_argument, pointing_more, puts-append, long, ← e, ← w) both

-- a word, and the words after it
pub headed : (L k at next v : ℕ) (vs m s t : List ℕ) → next ≡ suc at → s ≡ apply L (puts k at (v ∷ [])) m → t ≡ apply L (puts k next vs) s
    → t ≡ apply L (puts k at (v ∷ vs)) m
unfolding puts apply
headed L k at next v vs m s t e one rest = rw (← e, ← one) rest
