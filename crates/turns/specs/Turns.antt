-- Document 01, "The run program": what one record does, and what is written for a run of records. Assumes nothing.
use Rattle.std.specs.Prelude.{List, [], ◌++◌, ℕ, zero, suc, ◌+◌, ◌*◌, ◌/◌, ◌%◌, eqb, length, replicate, Ok, Err}
use Rattle.rules.specs.declared.Process.{Process}
use Rattle.rules.specs.declared.Outcome.{Outcome}
use Rattle.rules.specs.Tests.{pick}
use Rattle.rules.specs.Made.{made_count}
use Rattle.rules.specs.Record.{zero_entry}
use Rattle.rules.specs.Step.{State, starts, crosses, writes, outcome, memory_after}
use Rattle.desk.specs.declared.Asked.TheVariants.{Start, Cross, Write}
use Rattle.desk.specs.Records.{Asking, wrong, fields_at, asked_of, kind_of}
use Rattle.desk.specs.Lines.{line, shown}
use Rattle.turns.specs.declared.Answered.{Answered}

-- "Before a start the record is all zero."
abbrev pub zero_process : Process
zero_process = record { ring = record { 0 = 0 }; made = 0; serial = 0; calls = 0; entries = replicate 32 zero_entry }

-- "The program gives 17, reason 0, and changes nothing"
abbrev pub wrong_outcome : Process → Outcome
wrong_outcome p = record { process = p; answer = record { number = 17; reason = 0; segment = 0; offset = 0; frame = 0; place = 0 } }

-- the record and the answer after what is asked, and the store
unfoldable pub turn_outcome : List ℕ → State → Asking → Outcome
turn_outcome f s (Ok (Start r)) = outcome 63 f s (starts r)
turn_outcome f s (Ok (Cross q)) = outcome 63 f s (crosses q)
turn_outcome f s (Ok (Write k at v)) = outcome 63 f s (writes k at v)
turn_outcome f s (Err e) = wrong_outcome s.process

unfoldable pub turn_memory : List ℕ → State → Asking → List ℕ
turn_memory f s (Ok (Start r)) = memory_after 63 f s (starts r)
turn_memory f s (Ok (Cross q)) = memory_after 63 f s (crosses q)
turn_memory f s (Ok (Write k at v)) = memory_after 63 f s (writes k at v)
turn_memory f s (Err e) = s.memory

abbrev pub turned : List ℕ → State → Asking → State
turned f s a = record { memory = turn_memory f s a; process = (turn_outcome f s a).process }

-- the line of a step: its ring, open, made and serial are those after the step
unfoldable pub line_of : Asking → Outcome → List ℕ
line_of a o = line (shown (kind_of a) (made_count o.process.made) o)

abbrev pub turn_line : List ℕ → State → Asking → List ℕ
turn_line f s a = line_of a (turn_outcome f s a)

-- "24-byte records, no header": what record i of the input asks
abbrev pub asked_at : List ℕ → ℕ → Asking
asked_at b i = asked_of (fields_at b (i * 24))

-- the lines of the d records i, i + 1, .. and the state after them
unfoldable pub lines_from : List ℕ → List ℕ → State → ℕ → ℕ → List ℕ
lines_from f b s i zero = []
lines_from f b s i (suc d) = turn_line f s (asked_at b i) ++ lines_from f b (turned f s (asked_at b i)) (i + 1) d

unfoldable pub state_from : List ℕ → List ℕ → State → ℕ → ℕ → State
state_from f b s i zero = s
state_from f b s i (suc d) = state_from f b (turned f s (asked_at b i)) (i + 1) d

-- the state after an input
unfoldable pub run_state : List ℕ → State → List ℕ → State
run_state f s b = state_from f b s 0 (length b / 24)

-- all that the program writes for an input, with a line of 17 at the end where "1 to 23 bytes are left"
unfoldable pub run_text : List ℕ → State → List ℕ → List ℕ
run_text f s b = lines_from f b s 0 (length b / 24) ++ pick (eqb (length b % 24) 0) [] (turn_line f (run_state f s b) (Err wrong))

-- the record after an input, and the number of bytes written for it
unfoldable pub answered_by : List ℕ → State → List ℕ → Answered
answered_by f s b = record { process = (run_state f s b).process; at = length (run_text f s b) }
