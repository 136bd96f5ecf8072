-- What the run program does with a part of its input. Assumes nothing.
use Rattle.std.specs.Prelude.{List, ℕ, ◌≡◌, take}
use Rattle.rules.specs.Step.{State}
use Rattle.turns.specs.Turns.{run_state, run_text}

-- "Each record gives one line": what is written for a part, and the store and the record after it; no more than 512 records are read
abbrev pub PartRuns : List ℕ → State → List ℕ → List ℕ → State → Type 0
PartRuns f before part lines after = (lines ≡ run_text f before (take 12288 part)) × (after ≡ run_state f before (take 12288 part))
