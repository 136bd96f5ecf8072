-- One uniform step: a verdict, a list of stores, the next record, the answer; refused means unchanged, by computation. The contract of
-- every entry that judges cites it, and so does the theorem over runs. Assumes nothing.
use Rattle.std.specs.Prelude.{Bool, ◌||◌, not, List, [], ◌∷◌, ◌++◌, ℕ, ◌+◌, ltb, eqb, length, replicate}
use Rattle.rules.specs.declared.Ring.{Ring}
use Rattle.rules.specs.declared.Process.{Process}
use Rattle.rules.specs.declared.Request.{Request}
use Rattle.rules.specs.declared.Refused.TheVariants.{StoreLength, ProcessRecord, StartRing, StackBelow, OutsideStack}
use Rattle.rules.specs.declared.Answer.{Answer}
use Rattle.rules.specs.declared.Outcome.{Outcome}
use Rattle.rules.specs.Tests.{pick, refuse_if, first}
use Rattle.rules.specs.Memory.{Store, puts, apply, stack_length, make_stack}
use Rattle.rules.specs.Made.{with_made}
use Rattle.rules.specs.Record.{zero_entry, process_sound, newest, struck}
use Rattle.rules.specs.Answer.{Verdict, places, memory_by, outcome_by}
use Rattle.rules.specs.Call.{seen, call_verdict, call_stores, call_next, call_answer}
use Rattle.rules.specs.Return.{return_verdict, return_stores, return_answer}

-- what is asked: a start at a ring; a crossing; a write of a value at an offset of a stack; a look at an offset of a stack
pub data Event : Type 0 where
  starts : Ring → Event
  crosses : Request → Event
  writes : Ring → ℕ → ℕ → Event
  looks : Ring → ℕ → Event

-- the lent store and the process record
pub record State : Type 0 where
  pub memory : List ℕ
  pub process : Process

-- "Start: 1 14."
abbrev pub start_tests : ℕ → ℕ → Ring → List Verdict
start_tests top L r = refuse_if (eqb L 0) StoreLength ∷ refuse_if (ltb top r.0) StartRing ∷ []

unfoldable pub judged_start : ℕ → ℕ → Ring → Verdict
judged_start top L r = first (start_tests top L r) tt

-- "Write and look: 1 4 16 15": `room` words at an offset of stack k, by whether the record is sound and the running ring
abbrev pub reach_tests : ℕ → ℕ → Bool → Ring → Ring → ℕ → ℕ → List Verdict
reach_tests top L sound ring k at room =
    refuse_if (eqb L 0) StoreLength
    ∷ refuse_if (not sound) ProcessRecord
    ∷ refuse_if (ltb top k.0 || ltb L (at + room)) OutsideStack
    ∷ refuse_if (ltb k.0 ring.0) StackBelow
    ∷ []

unfoldable pub judged_reach : ℕ → ℕ → Bool → Ring → Ring → ℕ → ℕ → Verdict
judged_reach top L sound ring k at room = first (reach_tests top L sound ring k at room) tt

-- "the record has this ring and stack and is otherwise zero"
unfoldable pub start_next : Ring → Process
start_next r = record { ring = r; made = with_made 0 r.0; serial = 0; calls = 0; entries = replicate 32 zero_entry }

-- "instruction (0 transfer, 1 return, 2 other)": a return by instruction 1, and anything else is judged as a call
abbrev pub returns : Request → Bool
returns q = eqb q.instruction 1

module _ (top : ℕ) (f : List ℕ) (s : State) where
  unfoldable pub reach_verdict : Ring → ℕ → ℕ → Verdict
  reach_verdict k at room =
      judged_reach top (stack_length s.memory) (process_sound top (stack_length s.memory) s.process) s.process.ring k at room

  abbrev pub verdict : Event → Verdict
  verdict (starts r) = judged_start top (stack_length s.memory) r
  verdict (crosses q) = pick (returns q) (return_verdict top f s.memory s.process q) (call_verdict top f s.memory s.process q)
  verdict (writes k at v) = reach_verdict k at 1
  verdict (looks k at) = reach_verdict k at 32

  -- the store that the stores go into: "whole store zero" at a start
  abbrev pub ground : Event → List ℕ
  ground (starts r) = replicate (length s.memory) 0
  ground (crosses q) = s.memory
  ground (writes k at v) = s.memory
  ground (looks k at) = s.memory

  -- "that stack made, word 3 = the ring"; "Write: one word"
  abbrev pub stores : Event → List Store
  stores (starts r) = make_stack (stack_length s.memory) r.0 ++ puts r.0 3 (r.0 ∷ [])
  stores (crosses q) =
      pick (returns q)
      (return_stores s.memory (stack_length s.memory) s.process.ring (newest s.process))
      (call_stores s.memory s.process.ring s.process.made s.process.calls s.process.serial q (seen f s.memory s.process.ring s.process.made q))
  stores (writes k at v) = puts k.0 at (v ∷ [])
  stores (looks k at) = []

  abbrev pub next : Event → Process
  next (starts r) = start_next r
  next (crosses q) = pick (returns q) (struck s.process) (call_next s.process q (seen f s.memory s.process.ring s.process.made q))
  next (writes k at v) = s.process
  next (looks k at) = s.process

  -- "returned frame 8, other places 0"
  abbrev pub given : Event → Answer
  given (starts r) = places 0 0 8 0
  given (crosses q) =
      pick (returns q)
      (return_answer (newest s.process))
      (call_answer q (seen f s.memory s.process.ring s.process.made q))
  given (writes k at v) = places 0 0 0 0
  given (looks k at) = places 0 0 0 0

  -- what an entry gives back, and the state it leaves
  unfoldable pub outcome : Event → Outcome
  outcome e = outcome_by (verdict e) s.process (next e) (given e)

  unfoldable pub memory_after : Event → List ℕ
  memory_after e = memory_by (verdict e) s.memory (apply (stack_length s.memory) (stores e) (ground e))

  abbrev pub step : Event → State
  step e = record { memory = memory_after e; process = (outcome e).process }
