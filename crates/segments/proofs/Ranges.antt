-- What an iterator's `all`, `any` and `find` over the places below n say, where the closure computes the test p: the runs of tests
-- and the searches that document 01's rules are put together from. Assumes nothing.
use Rattle.std.proofs.Common.{◌≡◌, ◌+◌, ℕ, zero, suc, Bool, true, false, ◌&&◌, ◌||◌, List, Option, Some, None, cond, refl, ap, ◌∙◌, arith}
use denote.Ref.{Bor}
use denote.Param.Members.{Mut}
use Rattle.std.specs.Bool.{⊤}
use Rattle.std.specs.Fn.{Called, CalledAt}
use Rattle.std.specs.Iterator.{YieldsThen}
use Rattle.std.specs.List.{list_all, list_any, find, range_with_len, FoldsTo}
use Rattle.std.specs.Option.{MatchOption, option_map}
use Rattle.std.specs.declared.ops.Range.{Range}
use Rattle.std.proofs.iter.Yields.{nat_range_steps}
use Rattle.std.proofs.lemmas.Iterator.{YieldsList-from_range}
use Rattle.std.proofs.lemmas.Iterator.Search.{all_from_yields_List, any_from_yields_List, find_from_yields_List}
use Rattle.rules.specs.Tests.{pick, all_from, any_from}
use Rattle.rules.specs.Segments.{first_from}

-- ---- over the list of the places

module _ (p : ℕ → Bool) where
  all_is : (a n : ℕ) → list_all p (range_with_len a n) ≡ all_from p a n
  unfolding all_from
  all_is a zero = refl
  all_is a (suc n) = ap (λ (b : Bool). p a && b) (all_is (a + 1) n)

  any_is : (a n : ℕ) → list_any p (range_with_len a n) ≡ any_from p a n
  unfolding any_from
  any_is a zero = refl
  any_is a (suc n) = ap (λ (b : Bool). p a || b) (any_is (a + 1) n)

  find_is : (a n : ℕ) → find p (range_with_len a n) ≡ first_from p a n
  unfolding first_from
  find_is a zero = refl
  find_is a (suc n) = by (p a) (find_is (a + 1) n)
    where
      by : (b : Bool) {x y : Option ℕ} → x ≡ y → cond b (Some a) x ≡ pick b (Some a) y
      by true e = refl
      by false e = e

-- ---- over the range

-- an `all` or `any` over the range s, by the closure g, that goes on where it answers `on` and gives r
abbrev Ran : {F : Type 0} → Mut F (ℕ × Unit {0}) Bool → Range ℕ → Range ℕ → F → Bool → Bool → Bool → Type 0
Ran {F} g s u f r on off =
    (xs : List ℕ) × (o : Option ℕ) × (j : F) × YieldsThen nat_range_steps s xs o u
    × FoldsTo (λ p x q. Called g p (x, tt) on q) f xs j × MatchOption o (r ≡ on) (λ x. (r ≡ off) × ((h : F) × Called g j (x, tt) off h))

module _ {F : Type 0} {s : Range ℕ} {f : F} (p : ℕ → Bool) (n : ℕ) (u : Range ℕ) where
  module _ {g : Mut F (ℕ × Unit {0}) Bool} (r : Bool) where
    pub all_over : Ran g s u f r true false → s ≡ record { start = 0; end = n }
        → ((x : ℕ) (b : Bool) (q : F) → Called g f (x, tt) b q → (q ≡ f) × (b ≡ p x)) → r ≡ all_from p 0 n
    all_over ran e k = all_from_yields_List p u f r ran (YieldsList-from_range 0 n n e (omega arith)) k ∙ all_is p 0 n

    pub any_over : Ran g s u f r false true → s ≡ record { start = 0; end = n }
        → ((x : ℕ) (b : Bool) (q : F) → Called g f (x, tt) b q → (q ≡ f) × (b ≡ p x)) → r ≡ any_from p 0 n
    any_over ran e k = any_from_yields_List p u f r ran (YieldsList-from_range 0 n n e (omega arith)) k ∙ any_is p 0 n

  pub find_over : {g : Mut F (Bor ℕ × Unit {0}) Bool} (r : Option ℕ)
      → (xs : List ℕ) × (j : F) × YieldsThen nat_range_steps s xs r u × FoldsTo (λ p x q. CalledAt g p x false q) f xs j
      × MatchOption r ⊤ (λ x. (h : F) × CalledAt g j x true h)
      → s ≡ record { start = 0; end = n } → ((x : ℕ) (b : Bool) (q : F) → CalledAt g f x b q → (q ≡ f) × (b ≡ p x)) → r ≡ first_from p 0 n
  find_over r ran e k = same r ∙ find_from_yields_List p u f r ran (YieldsList-from_range 0 n n e (omega arith)) k ∙ find_is p 0 n
    where
      same : (o : Option ℕ) → o ≡ option_map (λ (x : ℕ). x) o
      same None = refl
      same (Some x) = refl
