-- Laws of the copies that go back, and of what an accepted return may rely on. Assumes nothing.
use mathlib.Core.Path.{◌≡◌, refl}
use mathlib.Core.Bool.{Bool, true, false}
use mathlib.Core.List.{List, [], ◌∷◌, ◌++◌, append_assoc, append-nil}
use Prim.Native.Nat.{ℕ, zero, suc, ◌+◌, ◌*◌, ◌<◌, ◌≤◌}
use native.Mathlib.Numerals.{add-one}
use native.Mathlib.Nat.{add_assoc, add-zero, zero-add}
use native.Mathlib.Omega.{arith}
use lib.Dec.{leb, ltb, eqb}
use lib.ListN.{length, take, drop, get_or, length-drop}
use lib.Seq.{take-suc, get_or-drop}
use borrow.Author.Tests.{leb-true, eqb-true}
use Rattle.rules.specs.declared.Argument.{Argument}
use Rattle.rules.specs.declared.Ring.{Ring}
use Rattle.rules.specs.declared.Entry.{Entry}
use Rattle.rules.specs.declared.Process.{Process}
use Rattle.rules.specs.declared.Request.{Request}
use Rattle.std.specs.Prelude.{Ok}
use Rattle.rules.specs.Answer.{Verdict}
use Rattle.rules.specs.Record.{zero_argument, lengths, inward_sound, outward_sound, process_sound, newest}
use Rattle.rules.specs.Tests.{pick}
use Rattle.rules.specs.Memory.{spot, word, up_to, words, puts, apply, stack_length}
use Rattle.rules.specs.Segments.{file_sound}
use Rattle.rules.specs.Arguments.{words_in}
use Rattle.rules.specs.Return.{back_stores, judged_back, return_verdict, return_stores}
use Rattle.rules.proofs.Tests.{and_l, and_r}
use Rattle.rules.proofs.Memory.{length_told, then, length-words, words-get}
use Rattle.rules.proofs.Record.{newest_open, Held, held, lent}
use Rattle.rules.proofs.Verdicts.{JudgedBack, return_facts}
use Rattle.returns.specs.Back.{back_one, back_from, Ready}

-- ---- the loop that goes through the arguments

back_more : (copies : List ℕ) (old from : ℕ) (rest : List Argument) (a : Argument)
    → back_from copies old from (rest ++ (a ∷ [])) ≡ back_from copies old from rest ++ back_one (take a.length (drop (from + words_in rest) copies)) old a
unfolding back_from
back_more copies old from [] a = rw (append-nil, add-zero)
back_more copies old from (b ∷ rest) a = rw (back_more copies old (from + b.length) rest a, append_assoc, add_assoc)

-- one argument more is back
pub back_turn : (l : List Argument) (i L old from room : ℕ) (copies m s t : List ℕ) → i < length l → room ≡ (get_or l i zero_argument).length
    → from ≡ words_in (take i l) → s ≡ apply L (back_from copies old 0 (take i l)) m
    → t ≡ apply L (back_one (take room (drop from copies)) old (get_or l i zero_argument)) s
    → t ≡ apply L (back_from copies old 0 (take (i + 1) l)) m
back_turn l i L old from room copies m s t h same size inv new =
    rw (add-one, take-suc l i zero_argument, back_more, zero-add) (then L _ _ m s t inv (rw (same, size) at new))

-- ---- the copies are the words of the left stack

part : (m : List ℕ) (p t f n : ℕ) → f + n ≤ t → take n (drop f (words m p t)) ≡ words m (p + f) n
unfolding words up_to
part m p t f zero h = refl
part m p t f (suc n) h =
    let short : n < length (drop f (words m p t)) = simp (length-drop, length-words) (omega arith) in
    let here : get_or (words m p t) (f + n) 0 ≡ word m (p + f + n) = rw add_assoc (words-get m p t (f + n) (omega arith)) in
    rw (take-suc (drop f (words m p t)) n 0 short, get_or-drop, here, part m p t f n (omega arith))

-- each of the first n arguments is at most 16 words long, and so they are few
few_words : (n : ℕ) (list : List Argument) → ((i : ℕ) → i < n → (get_or list i zero_argument).length ≤ 16) → words_in (take n list) ≤ 16 * n
few_words zero list h = omega arith
few_words (suc n) [] h = omega arith
few_words (suc n) (a ∷ list) h =
    let here = h 0 (omega arith) in
    let rest = few_words n list (λ i l. h (suc i) (omega arith)) in
    omega arith

same_back : (m : List ℕ) (L left old at from : ℕ) (list : List Argument) → from + words_in list ≤ 64
    → back_from (words m (spot L left at) 64) old from list ≡ back_stores m L left old (at + from) list
unfolding back_from back_one back_stores
same_back m L left old at from [] h = refl
same_back m L left old at from (a ∷ rest) h =
    let here : spot L left at + from ≡ spot L left (at + from) = add_assoc (left * L) at from in
    let next : at + (from + a.length) ≡ at + from + a.length = omega arith in
    rw (part m (spot L left at) 64 from a.length (omega arith), same_back m L left old at (from + a.length) rest (omega arith), here, next)

-- the four steps of an accepted return, one after the other
pub all_set : (L : ℕ) (left : Ring) (e : Entry) (m s t u copies : List ℕ) → Ready e
    → copies ≡ words m (spot L left.0 (e.fresh + (33 + 4 * e.count))) 64 ++ []
    → s ≡ apply L (puts left.0 0 (left.0 ∷ e.prior ∷ [])) m
    → t ≡ apply L (puts e.old.0 3 (e.level.0 ∷ [])) s
    → u ≡ apply L (back_from copies e.old.0 0 (take e.count e.arguments)) t
    → u ≡ apply L (return_stores m L left e) m
unfolding return_stores
all_set L left e m s t u copies ready read one two three =
    let list = take e.count e.arguments in
    let few : 0 + words_in list ≤ 64 = omega (arith, ready.few) in
    let back = same_back m L left.0 e.old.0 (e.fresh + (33 + 4 * e.count)) 0 list few in
    then L _ _ m t u (then L _ _ m s t one two) (rw (read, append-nil, back, add-zero) at three)

-- ---- the verdict on a return

pub judges : (f m : List ℕ) (p : Process) (q : Request) (L : ℕ) (listed sound : Bool) (e : Entry) (v : Verdict) → L ≡ stack_length m
    → listed ≡ file_sound 63 f → sound ≡ process_sound 63 L p → e ≡ newest p → v ≡ judged_back L listed sound p.calls p.ring q e
    → v ≡ return_verdict 63 f m p q
unfolding return_verdict
judges f m p q L listed sound e v e1 e2 e3 e4 e5 = rw (← e1, ← e2, ← e3, ← e4) e5

-- an accepted return strikes an entry of a sound record
pub ready : (f m : List ℕ) (p : Process) (q : Request) → return_verdict 63 f m p q ≡ Ok tt → Ready (newest p)
unfolding return_verdict inward_sound outward_sound
ready f m p q accepted = go (ltb p.ring.0 e.old.0) known.way
  where
    L : ℕ
    L = stack_length m

    e : Entry
    e = newest p

    told : JudgedBack L (file_sound 63 f) (process_sound 63 L p) p.calls p.ring q e
    told = return_facts L (file_sound 63 f) (process_sound 63 L p) p.calls p.ring q e accepted

    known : Held 63 L p.made p.ring e
    known = held 63 L p.made p.ring e (newest_open 63 L p told.whole told.opens)

    made : e.count ≤ 4 → e.fresh + (33 + 4 * e.count) ≤ L → Ready e
    made few fits =
        let small = length_told m told.some in
        record {
          place = omega arith;
          count = few;
          short = λ i l. let a = lent L e i known.arguments (omega arith) l in (a.most, omega arith);
          few = omega (arith, few_words e.count e.arguments (λ i l. (lent L e i known.arguments (omega arith) l).most));
        }

    go : (b : Bool) → pick b (inward_sound L e) (outward_sound L e) ≡ true → Ready e
    go true w =
        let none = eqb-true e.count 0 (and_l (eqb e.count 0) (leb (e.fresh + 33) L) w) in
        let fits = leb-true (e.fresh + 33) L (and_r (eqb e.count 0) (leb (e.fresh + 33) L) w) in
        made (omega arith) (omega arith)
    go false w =
        let few = leb-true e.count 4 (and_l (leb e.count 4) (leb (e.fresh + 33 + 4 * e.count + lengths e) L) w) in
        let fits = leb-true (e.fresh + 33 + 4 * e.count + lengths e) L (and_r (leb e.count 4) (leb (e.fresh + 33 + 4 * e.count + lengths e) L) w) in
        made few (omega arith)
