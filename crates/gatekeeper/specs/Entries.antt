-- Document 01, "Start, write, look": what the entries' contracts name. Assumes nothing.
use Rattle.std.specs.Prelude.{List, [], ℕ, Ok, Err}
use Rattle.rules.specs.declared.Ring.{Ring}
use Rattle.rules.specs.declared.Process.{Process}
use Rattle.rules.specs.Answer.{Verdict}
use Rattle.rules.specs.Memory.{spot, stack_length}
use Rattle.rules.specs.Step.{State, looks, verdict}

-- the lent store and the record that an entry is given
abbrev pub state : List ℕ → Process → State
state m p = record { memory = m; process = p }

-- "refused, an empty part", which lies at the start
abbrev pub part_by : Verdict → ℕ → ℕ
part_by (Ok _) n = n
part_by (Err r) n = 0

-- "Look: hands back 32 words as that very part of the lent store": from which word on, and how many
abbrev pub look_start : List ℕ → Process → Ring → ℕ → ℕ
look_start m p k at = part_by (verdict 63 [] (state m p) (looks k at)) (spot (stack_length m) k.0 at)

abbrev pub look_length : List ℕ → Process → Ring → ℕ → ℕ
look_length m p k at = part_by (verdict 63 [] (state m p) (looks k at)) 32
