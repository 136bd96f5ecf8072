-- The loop over the records of an input: what is left to answer makes the whole answer. Assumes nothing.
use mathlib.Core.Path.{◌≡◌, sym, ap, ◌∙◌}
use mathlib.Core.List.{List, ◌++◌, append-nil}
use Rattle.std.specs.Prelude.{Err}
use Prim.Native.Nat.{ℕ, ◌+◌, ◌*◌, ◌/◌, ◌%◌, ◌<◌, ◌≤◌}
use native.Mathlib.Nat.{zero-add, add-zero}
use native.Mathlib.Omega.{arith}
use lib.ListN.{length, length-append, take}
use Rattle.std.proofs.lemmas.List.{length-take}
use borrow.Author.Tests.{eq-eqb, ne_eqb}
use Rattle.rules.specs.declared.Process.{Process}
use Rattle.rules.specs.declared.Outcome.{Outcome}
use Rattle.rules.specs.Step.{State}
use Rattle.gatekeeper.specs.Entries.{state}
use Rattle.desk.specs.declared.Fields.{Fields}
use Rattle.desk.specs.Records.{Asking, wrong, fields_at, asked_of}
use Rattle.desk.specs.Lines.{shown, written}
use Rattle.desk.proofs.Laws.{written_then, line-few}
use Rattle.turns.specs.declared.Answered.{Answered}
use Rattle.turns.proofs.Parts.{lines_in_parts, state_in_parts}
use Rattle.turns.specs.Turns.{wrong_outcome, turn_outcome, turn_memory, turned, line_of, turn_line, asked_at, lines_from, state_from, run_state, run_text, answered_by}

-- a line takes at most 121 bytes
pub line-short : (a : Asking) (o : Outcome) → length (line_of a o) ≤ 121
unfolding line_of shown
line-short a o = line-few _

-- the lines of the whole records of an input
abbrev pub lines_of : List ℕ → State → List ℕ → List ℕ
lines_of f s b = lines_from f b s 0 (length b / 24)

-- a record, and what comes after it
module _ (f r b : List ℕ) (s : State) (h : length r ≡ 24) where
  one : length r / 24 ≡ 1
  one = omega (arith, h)

  lines_first : lines_of f s (r ++ b) ≡ turn_line f s (asked_at r 0) ++ lines_of f (turned f s (asked_at r 0)) b
  unfolding run_state lines_from state_from
  lines_first = rw (lines_in_parts f r b s 1 h, one, append-nil)

  state_first : run_state f s (r ++ b) ≡ run_state f (turned f s (asked_at r 0)) b
  unfolding run_state state_from
  state_first = rw (state_in_parts f r b s 1 h, one)

-- where the records of the rest are still to be answered: 61,952 bytes are the lines of 512 records, which is what 12,288 bytes hold
pub record Going (f b m₀ : List ℕ) (p₀ : Process) (out₀ m : List ℕ) (p : Process) (out : List ℕ) (at : ℕ) (rest : List ℕ) : Type 0 where
  pub small : at + 121 * (length rest / 24) ≤ 61952
  pub count : at + length (lines_of f (state m p) rest) ≡ length (lines_of f (state m₀ p₀) b)
  pub bytes : written out at (lines_of f (state m p) rest) ≡ written out₀ 0 (lines_of f (state m₀ p₀) b)
  pub after : run_state f (state m p) rest ≡ run_state f (state m₀ p₀) b

-- at first all of them are
pub begins : (f b m : List ℕ) (p : Process) (out rest : List ℕ) → rest ≡ take 12288 b → Going f (take 12288 b) m p out m p out 0 rest
begins f b m p out rest e =
    let few : length rest ≤ 12288 = rw (e, length-take) (omega arith) in
    record { small = omega (arith, few); count = rw (e, zero-add); bytes = rw e; after = rw e }

module _ (f b m₀ : List ℕ) (p₀ : Process) (out₀ m : List ℕ) (p : Process) (out : List ℕ) (at : ℕ) (rest : List ℕ) (g : Going f b m₀ p₀ out₀ m p out at rest) where
  -- one record more, and its line
  pub goes_on : (r left : List ℕ) (x : Fields) (a : Asking) (o : Outcome) (t : List ℕ) (next : ℕ) (u : List ℕ)
      → rest ≡ r ++ left → length r ≡ 24
      → x ≡ fields_at r 0 → a ≡ asked_of x
      → o ≡ turn_outcome f (state m p) a → t ≡ turn_memory f (state m p) a
      → next ≡ at + length (line_of a o) → u ≡ written out at (line_of a o)
      → Going f b m₀ p₀ out₀ t o.process u next left
  goes_on r left x a o t next u er h ex ea eo et en eu =
      let st : State = state m p in
      let ask : a ≡ asked_at r 0 = ea ∙ ap asked_of ex in
      let is : ◌≡◌ {A = State} (state t o.process) (turned f st (asked_at r 0)) = rw (et, eo, ask) in
      let text : line_of a o ≡ turn_line f st (asked_at r 0) = rw (eo, ask) in
      let to_do : List ℕ = lines_of f (state t o.process) left in
      let whole : lines_of f st rest ≡ line_of a o ++ to_do = rw (er, lines_first f r left st h, is, text) in
      let long : length (lines_of f st rest) ≡ length (line_of a o) + length to_do = ap length whole ∙ length-append (line_of a o) to_do in
      let far : length rest ≡ 24 + length left = rw (er, length-append, h) in
      record {
        small = omega (arith, g.small, line-short a o);
        count = omega (arith, g.count);
        bytes = rw (en, eu, ← written_then, ← whole) g.bytes;
        after = rw is (sym (state_first f r left st h) ∙ sym (ap (run_state f st) er) ∙ g.after);
      }

  -- "1 to 23 bytes are left", or none: a line of 17 more, or none
  module _ (h : length rest < 24) where
    ends : (at ≡ length (lines_of f (state m₀ p₀) b)) × (out ≡ written out₀ 0 (lines_of f (state m₀ p₀) b)) × (state m p ≡ run_state f (state m₀ p₀) b)
    unfolding lines_from state_from run_state written
    ends =
        let e : length rest / 24 ≡ 0 = omega (arith, h) in
        (rw (e, add-zero) at g.count, rw e at g.bytes, rw e at g.after)

    stands : p ≡ (run_state f (state m₀ p₀) b).process
    stands = ap (λ (z : State). z.process) ends.2

    pub none_left : length b % 24 ≡ 0
        → (◌≡◌ {A = Answered} (record { process = p; at = at }) (answered_by f (state m₀ p₀) b))
        × (out ≡ written out₀ 0 (run_text f (state m₀ p₀) b)) × (m ≡ (run_state f (state m₀ p₀) b).memory)
    unfolding answered_by run_text
    none_left e =
        (rw (← stands, eq-eqb _ _ e, append-nil, ← ends.0), rw (eq-eqb _ _ e, append-nil) ends.1, ap (λ (z : State). z.memory) ends.2)

    pub some_left : (o : Outcome) (next : ℕ) (u : List ℕ) → (length b % 24 ≡ 0 → ⊥) → o ≡ wrong_outcome p
        → next ≡ at + length (line_of (Err wrong) o) → u ≡ written out at (line_of (Err wrong) o)
        → (◌≡◌ {A = Answered} (record { process = p; at = next }) (answered_by f (state m₀ p₀) b))
        × (u ≡ written out₀ 0 (run_text f (state m₀ p₀) b)) × (m ≡ (run_state f (state m₀ p₀) b).memory)
    unfolding answered_by run_text turn_outcome
    some_left o next u e eo en eu =
        (rw (← stands, ne_eqb _ _ e, length-append, ← eo, ← ends.0, ← en), rw (← stands, ne_eqb _ _ e, written_then, zero-add, ← ends.1, ← ends.0, ← eo) eu, ap (λ (z : State). z.memory) ends.2)
