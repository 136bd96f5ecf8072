-- In however many parts an input is answered, the text and the state are the same: the program may read it part by part, where each
-- part but the last is whole records. Assumes nothing.
use mathlib.Core.Path.{◌≡◌, refl}
use mathlib.Core.List.{List, ◌++◌, append_assoc, append-nil}
use Prim.Native.Nat.{ℕ, zero, suc, ◌+◌, ◌*◌, ◌/◌, ◌%◌, ◌<◌, ◌≤◌}
use native.Mathlib.Nat.{zero-add, add-zero, add_assoc, suc-add}
use native.Mathlib.Omega.{arith}
use lib.ListN.{length, length-append, get_or-append}
use lib.Seq.{get_or-append-add}
use borrow.Author.Tests.{eq-eqb}
use Rattle.rules.specs.Segments.{byte_at, word_at}
use Rattle.rules.specs.Step.{State}
use Rattle.desk.specs.Records.{fields_at}
use Rattle.turns.specs.Turns.{turned, asked_at, lines_from, state_from, run_state, run_text}

-- ---- records of the first part, and of the second

module _ (a b : List ℕ) where
  byte_left : (k : ℕ) → k < length a → byte_at (a ++ b) k ≡ byte_at a k
  byte_left k h = get_or-append a b 0 k h

  word_left : (k : ℕ) → k + 3 < length a → word_at (a ++ b) k ≡ word_at a k
  word_left k h =
      rw (byte_left k (omega arith), byte_left (k + 1) (omega arith), byte_left (k + 2) (omega arith), byte_left (k + 2 + 1) (omega arith))

  fields_left : (at : ℕ) → at + 24 ≤ length a → fields_at (a ++ b) at ≡ fields_at a at
  unfolding fields_at
  fields_left at h =
      rw (
        byte_left at (omega arith),
        byte_left (at + 1) (omega arith),
        byte_left (at + 2) (omega arith),
        byte_left (at + 3) (omega arith),
        word_left (at + 4) (omega arith),
        word_left (at + 8) (omega arith),
        word_left (at + 12) (omega arith),
        word_left (at + 16) (omega arith),
        word_left (at + 20) (omega arith),
      )

  fields_right : (at : ℕ) → fields_at (a ++ b) (length a + at) ≡ fields_at b at
  unfolding fields_at
  fields_right at = simp (add_assoc, get_or-append-add)

  module _ (f : List ℕ) where
    lines_left : (s : State) (i d : ℕ) → (i + d) * 24 ≤ length a → lines_from f (a ++ b) s i d ≡ lines_from f a s i d
    unfolding lines_from
    lines_left s i zero h = refl
    lines_left s i (suc d) h = rw (fields_left (i * 24) (omega arith), lines_left (turned f s (asked_at a i)) (i + 1) d (omega arith))

    state_left : (s : State) (i d : ℕ) → (i + d) * 24 ≤ length a → state_from f (a ++ b) s i d ≡ state_from f a s i d
    unfolding state_from
    state_left s i zero h = refl
    state_left s i (suc d) h = rw (fields_left (i * 24) (omega arith), state_left (turned f s (asked_at a i)) (i + 1) d (omega arith))

    module _ (k : ℕ) (whole : length a ≡ k * 24) where
      asked_right : (i : ℕ) → asked_at (a ++ b) (k + i) ≡ asked_at b i
      asked_right i = let e : (k + i) * 24 ≡ length a + i * 24 = omega arith in rw (e, fields_right)

      lines_right : (s : State) (i d : ℕ) → lines_from f (a ++ b) s (k + i) d ≡ lines_from f b s i d
      unfolding lines_from
      lines_right s i zero = refl
      lines_right s i (suc d) = rw (asked_right i, add_assoc, lines_right (turned f s (asked_at b i)) (i + 1) d)

      state_right : (s : State) (i d : ℕ) → state_from f (a ++ b) s (k + i) d ≡ state_from f b s i d
      unfolding state_from
      state_right s i zero = refl
      state_right s i (suc d) = rw (asked_right i, add_assoc, state_right (turned f s (asked_at b i)) (i + 1) d)

-- ---- one run of records after another

on : (i d : ℕ) → i + 1 + d ≡ i + suc d
on i d = omega arith

module _ (f b : List ℕ) where
  lines_then : (s : State) (i d e : ℕ) → lines_from f b s i (d + e) ≡ lines_from f b s i d ++ lines_from f b (state_from f b s i d) (i + d) e
  unfolding lines_from state_from
  lines_then s i zero e = rw (zero-add, add-zero)
  lines_then s i (suc d) e = rw (suc-add, lines_then (turned f s (asked_at b i)) (i + 1) d e, append_assoc, on i d)

  state-then : (s : State) (i d e : ℕ) → state_from f b s i (d + e) ≡ state_from f b (state_from f b s i d) (i + d) e
  unfolding state_from
  state-then s i zero e = rw (zero-add, add-zero)
  state-then s i (suc d) e = rw (suc-add, state-then (turned f s (asked_at b i)) (i + 1) d e, on i d)

-- ---- the whole

module _ (f a b : List ℕ) (s : State) (k : ℕ) (whole : length a ≡ k * 24) where
  records : length (a ++ b) / 24 ≡ k + length b / 24
  records = rw length-append (omega arith)

  first : length a / 24 ≡ k
  first = omega arith

  from : 0 + k ≡ k + 0
  from = omega arith

  inside : (0 + k) * 24 ≤ length a
  inside = omega arith

  pub state_in_parts : run_state f s (a ++ b) ≡ run_state f (run_state f s a) b
  unfolding run_state
  state_in_parts =
      rw (records, first, state-then f (a ++ b) s 0 k (length b / 24), state_left a b f s 0 k inside, from, state_right a b f k whole (state_from f a s 0 k) 0 (length b / 24))

  pub lines_in_parts : lines_from f (a ++ b) s 0 (length (a ++ b) / 24) ≡ lines_from f a s 0 (length a / 24) ++ lines_from f b (run_state f s a) 0 (length b / 24)
  unfolding run_state
  lines_in_parts =
      rw (records, first, lines_then f (a ++ b) s 0 k (length b / 24), lines_left a b f s 0 k inside, state_left a b f s 0 k inside, from, lines_right a b f k whole (state_from f a s 0 k) 0 (length b / 24))

  pub text_in_parts : run_text f s (a ++ b) ≡ run_text f s a ++ run_text f (run_state f s a) b
  unfolding run_text
  text_in_parts =
      let none : length a % 24 ≡ 0 = omega arith in
      let left : length (a ++ b) % 24 ≡ length b % 24 = rw length-append (omega arith) in
      rw (lines_in_parts, left, state_in_parts, eq-eqb _ _ none, append-nil, append_assoc)
