-- The entries as the code walks them: the open ones as a slice from its end, the others as a slice, and an entry's four arguments in
-- their order. Assumes nothing.
use Rattle.std.proofs.Common.{◌≡◌, ℕ, zero, suc, ◌+◌, ◌≤◌, Bool, true, ◌&&◌, List, [], ◌∷◌, ◌++◌, length, get_or, take, drop, reverse, replicate, refl, ap, ◌∙◌, arith, leb, ltb, eqb}
use mathlib.Core.Bool.{and_assoc, and-true}
use lib.Pointwise.{pointwise}
use Rattle.std.specs.List.{list_all, enumerate_from}
use Rattle.std.specs.Ordering.{is_le, nat_cmp}
use Rattle.std.proofs.lemmas.Bool.Decides.{nat_tests}
use Rattle.std.proofs.lemmas.List.{reverse-append, take_more, drop_all}
use Rattle.std.proofs.Math.Seq.{drop-cons}
use Rattle.rules.specs.declared.Ring.{Ring}
use Rattle.rules.specs.declared.Entry.{Entry}
use Rattle.rules.specs.declared.Argument.{Argument}
use Rattle.rules.specs.Arguments.{words_in}
use Rattle.rules.specs.Tests.{pick, all_from, all_below}
use Rattle.rules.specs.Record.{no_entry, zero_argument, lengths, argument_sound, argument_is_zero, arguments_sound, opened, chained, open_sound, entry_is_zero, zero_at}

-- the open entries, newest first, are the first n backwards
pub opened_back : (n : ℕ) (es : List Entry) → n ≤ length es → opened n es ≡ reverse (take n es)
unfolding opened
opened_back zero es h = refl
opened_back (suc n) es h =
    let more : take (n + 1) es ≡ take n es ++ get_or es n no_entry ∷ [] = take_more es n no_entry (omega arith) in
    let one : suc n ≡ n + 1 = omega arith in
    rw (one, more, reverse-append (take n es) (get_or es n no_entry ∷ [])) (ap (λ (l : List Entry). get_or es n no_entry ∷ l) (opened_back n es (omega arith)))

-- one entry of the walk: what is left of the slice is t
pub chain_step : (top L made : ℕ) (entered : Ring) (s t : List Entry) (e : Entry) → s ≡ t ++ e ∷ []
    → chained top L made entered (reverse s) ≡ (open_sound top L made entered e && chained top L made e.old (reverse t))
unfolding chained
chain_step top L made entered s t e h = rw (h, reverse-append t (e ∷ [])) refl

pub chain_end : (top L made : ℕ) (entered : Ring) (s : List Entry) → length s ≡ 0 → chained top L made entered (reverse s) ≡ true
unfolding chained
chain_end top L made entered [] h = refl
chain_end top L made entered (e ∷ es) h = absurd (omega (arith, h))

-- the entries from place n on
pub rest_from : (es : List Entry) (n d : ℕ) → n + d ≡ length es → all_from (zero_at es) n d ≡ list_all entry_is_zero (drop n es)
unfolding all_from
rest_from es n zero h = rw (drop_all n es (omega arith))
rest_from es n (suc d) h =
    let next : n + 1 ≡ suc n = omega arith in
    let rest : drop n es ≡ get_or es n no_entry ∷ drop (n + 1) es = rw next (drop-cons es n no_entry (omega arith)) in
    ap (λ (b : Bool). zero_at es n && b) (rest_from es (n + 1) d (omega arith)) ∙ rw rest refl

-- the derived order of rings
pub le_leb : (a b : ℕ) → is_le (nat_cmp a b) ≡ leb a b
le_leb a b = grind (arith, nat_tests)

-- ---- the four arguments

four : (l : List Argument) → length l ≡ 4
    → l ≡ get_or l 0 zero_argument ∷ get_or l 1 zero_argument ∷ get_or l 2 zero_argument ∷ get_or l 3 zero_argument ∷ []
four (a ∷ b ∷ c ∷ d ∷ []) h = refl
four [] h = absurd (omega (arith, h))
four (a ∷ []) h = absurd (omega (arith, h))
four (a ∷ b ∷ []) h = absurd (omega (arith, h))
four (a ∷ b ∷ c ∷ []) h = absurd (omega (arith, h))
four (a ∷ b ∷ c ∷ d ∷ x ∷ l) h = absurd (omega (arith, h))

-- each sound or zero, by its place
pub four_below : (L : ℕ) (e : Entry) → length e.arguments ≡ 4
    → list_all (λ q. pick (ltb q.0 e.count) (argument_sound L e.old q.1) (argument_is_zero q.1)) (enumerate_from 0 e.arguments) ≡ arguments_sound L e
unfolding arguments_sound all_below
four_below L e h = rw (four e.arguments h) (simp (and_assoc, and-true) refl)

-- "all lengths"
pub four_lengths : (e : Entry) → length e.arguments ≡ 4 → words_in e.arguments ≡ lengths e
four_lengths e h = rw (four e.arguments h) (omega arith)

-- the derived equality
abbrev same_argument : Argument → Argument → Bool
same_argument a b = eqb a.segment b.segment && (eqb a.offset b.offset && (eqb a.length b.length && eqb a.direction b.direction))

pub four_zero : (l : List Argument) → length l ≡ 4
    → pointwise same_argument l (replicate 4 zero_argument)
    ≡ (argument_is_zero (get_or l 0 zero_argument) && (argument_is_zero (get_or l 1 zero_argument) && (argument_is_zero (get_or l 2 zero_argument) && argument_is_zero (get_or l 3 zero_argument))))
unfolding argument_is_zero
four_zero l h = rw (four l h) (simp (and_assoc, and-true) refl)
