-- Document 01, "Numbers given back": the table's numbers are 1 to 16, the "Reasons for 3" 1 to 7 and those "For 10" 1 to 6, and "Other
-- numbers have reason 0." A refusal's type has a case for any number more (specs/Answer.antt); here no verdict of any event gives a
-- number or a reason that is not in the table. Assumes nothing.
use native.Mathlib.Omega.{arith}
use Rattle.std.specs.Prelude.{◌≡◌, refl, Bool, true, false, ◌&&◌, ◌||◌, not, List, [], ◌∷◌, ℕ, leb, ltb, eqb, Option, Some, None, Result, Ok, Err}
use Rattle.rules.specs.declared.Ring.{Ring}
use Rattle.rules.specs.declared.Segment.{Segment}
use Rattle.rules.specs.declared.Barred.{Barred}
use Rattle.rules.specs.declared.Unfit.{Unfit}
use Rattle.rules.specs.declared.Refused.{Refused}
use Rattle.rules.specs.declared.Refused.TheVariants.{Target}
use Rattle.rules.specs.declared.Request.{Request}
use Rattle.rules.specs.declared.Entry.{Entry}
use Rattle.rules.specs.declared.Seen.{Seen}
use Rattle.rules.specs.Tests.{pick, Refusal, refuse_if, first}
use Rattle.rules.specs.Segments.{lookup_of, is_gate}
use Rattle.rules.specs.Memory.{stack_length}
use Rattle.rules.specs.Bracket.{Decision, aimed, reasons, decision_of, target_in, target_of}
use Rattle.rules.specs.Arguments.{group_or, argument_reasons, argument_reason, member_reason, list_reasons, list_reason, handed_of}
use Rattle.rules.specs.Answer.{barred_as, decision_number, decision_reason, unfit_as, number_of, reason_of}
use Rattle.rules.specs.Call.{target_test, list_test, call_tests, judged, call_verdict, decision, handed, seen}
use Rattle.rules.specs.Return.{return_tests, judged_back, return_verdict}
use Rattle.rules.specs.Step.{Event, starts, crosses, writes, looks, State, start_tests, judged_start, reach_tests, judged_reach, reach_verdict, returns, verdict}

abbrev pub one_to : ℕ → ℕ → Bool
one_to n k = leb 1 k && leb k n

-- a number, with a reason that it may have
abbrev pub in_table : ℕ → ℕ → Bool
in_table number reason =
    (eqb number 3 && one_to 7 reason)
    || (eqb number 10 && one_to 6 reason)
    || (one_to 16 number && not (eqb number 3) && not (eqb number 10) && eqb reason 0)

abbrev pub For3 : Barred → Type 0
For3 b = one_to 7 (barred_as b) ≡ true

abbrev pub For10 : Unfit → Type 0
For10 u = one_to 6 (unfit_as u) ≡ true

abbrev pub Listed : Refused → Type 0
Listed r = in_table (number_of r) (reason_of r) ≡ true

-- ---- what a refusal, and each of a list, tells

abbrev pub Tells : {A E : Type 0} → (E → Type 0) → Result A E → Type 0
Tells {E = E} P t = (e : E) → t ≡ Err e → P e

pub data Each {E : Type 0} (P : E → Type 0) : List (Refusal E) → Type 0 where
  none : Each P []
  more : {t : Refusal E} {ts : List (Refusal E)} → Tells P t → Each P ts → Each P (t ∷ ts)

accepts : {A E : Type 0} (P : E → Type 0) (a : A) → Tells P (Ok a)
accepts P a e h = absurd (let z : ◌≡◌ {A = ℕ} 0 1 = cc in omega arith)

refuses : {A E : Type 0} (P : E → Type 0) (r : E) → P r → Tells {A = A} P (Err r)
refuses P r p e h = let same : r ≡ e = cc in rw (← same) p

either : {A E : Type 0} {P : E → Type 0} (b : Bool) {t u : Result A E} → Tells P t → Tells P u → Tells P (pick b t u)
either true p q = p
either false p q = q

test : {E : Type 0} {P : E → Type 0} (b : Bool) (r : E) {ts : List (Refusal E)} → P r → Each P ts → Each P (refuse_if b r ∷ ts)
unfolding refuse_if
test {P = P} true r p ps = more (refuses P r p) ps
test {P = P} false r p ps = more (accepts P tt) ps

-- the first refusal of a list tells what each of them tells
pub of_first : {A E : Type 0} {P : E → Type 0} (ts : List (Refusal E)) (a : A) → Each P ts → Tells P (first ts a)
of_first {P = P} [] a none = accepts P a
of_first (Ok _ ∷ ts) a (more p ps) = of_first ts a ps
of_first {P = P} (Err r ∷ ts) a (more p ps) = refuses P r (p r refl)

-- ---- the reasons, and the numbers

pub decision_tells : (r : Ring) (fault offset : ℕ) (s : Segment) (hit : Bool) → Tells For3 (decision_of r fault offset s hit)
unfolding decision_of
decision_tells r fault offset s hit = of_first (reasons r fault offset s hit) (aimed r s) (search (test, none) depth 20)

pub target_tells : (f : List ℕ) (r : Ring) (fault x offset : ℕ) → Tells For3 (target_of f r fault x offset)
unfolding target_of
target_tells f r fault x offset = go (lookup_of f x)
  where
    go : (l : Option Segment) → Tells For3 (target_in f r fault offset l)
    go (Some s) = decision_tells r fault offset s (is_gate f s.at offset)
    go None = refuses For3 _ refl

module _ (f m : List ℕ) (L made : ℕ) (r : Ring) (outward : Bool) (place n : ℕ) where
  member_tells : (j : ℕ) → Tells For10 (member_reason f m L made r outward place n j)
  unfolding argument_reason
  member_tells j =
      either (ltb j n) (of_first (argument_reasons f L made r outward (group_or m L r.0 place n j)) tt (search (test, none) depth 20)) (accepts For10 tt)

  pub list_tells : Tells For10 (list_reason f m L made r outward place n)
  unfolding list_reason
  list_tells = of_first (list_reasons f m L made r outward place n) tt (search (test, more, none, member_tells) depth 20)

-- a decision's number and reason are those that its refusal tells
pub handed_on : (d : Decision) (r : Refused) → target_test d ≡ Err r → (number_of r ≡ decision_number d) × (reason_of r ≡ decision_reason d)
handed_on (Ok to) r e = absurd (let z : ◌≡◌ {A = ℕ} 0 1 = cc in omega arith)
handed_on (Err b) r e = let same : Target b ≡ r = cc in (rw (← same) refl, rw (← same) refl)

target_listed : (d : Decision) → Tells For3 d → Tells Listed (target_test d)
target_listed (Ok to) h = accepts Listed tt
target_listed (Err b) h = refuses Listed _ (rw (h b refl))

list_listed : (t : Refusal Unfit) → Tells For10 t → Tells Listed (list_test t)
list_listed (Ok _) h = accepts Listed tt
list_listed (Err u) h = refuses Listed _ (rw (h u refl))

-- ---- the judges: whatever they are given, but for what a call has seen of target and list

module _ (top L : ℕ) (file sound : Bool) (calls : ℕ) (ring : Ring) where
  pub call_tells : (q : Request) (v : Seen) → Tells For3 v.decision → Tells For10 v.handed.fit → Tells Listed (judged top file sound calls q v)
  unfolding judged
  call_tells q v d l =
      of_first (call_tests top file sound calls q v) tt (search (test, more, none, target_listed v.decision d, list_listed v.handed.fit l) depth 30)

  pub return_tells : (q : Request) (e : Entry) → Tells Listed (judged_back L file sound calls ring q e)
  unfolding judged_back
  return_tells q e = of_first (return_tests L file sound calls ring q e) tt (search (test, none) depth 20)

  pub start_tells : Tells Listed (judged_start top L ring)
  unfolding judged_start
  start_tells = of_first (start_tests top L ring) tt (search (test, none) depth 20)

  pub reach_tells : (k : Ring) (at room : ℕ) → Tells Listed (judged_reach top L sound ring k at room)
  unfolding judged_reach
  reach_tells k at room = of_first (reach_tests top L sound ring k at room) tt (search (test, none) depth 20)

-- ---- and so every verdict

module _ (top : ℕ) (f : List ℕ) (s : State) where
  called : (q : Request) → Tells Listed (call_verdict top f s.memory s.process q)
  unfolding call_verdict seen decision handed handed_of
  called q = call_tells top 0 _ _ _ s.process.ring q _ (target_tells f _ _ _ _) (list_tells f s.memory _ _ _ _ _ _)

  pub told : (e : Event) (r : Refused) → verdict top f s e ≡ Err r → in_table (number_of r) (reason_of r) ≡ true
  unfolding reach_verdict return_verdict
  told (starts r) = start_tells top (stack_length s.memory) true true 0 r
  told (crosses q) = either (returns q) (return_tells top _ _ _ _ _ q _) (called q)
  told (writes k at v) = reach_tells top _ true _ 0 _ k at 1
  told (looks k at) = reach_tells top _ true _ 0 _ k at 32
