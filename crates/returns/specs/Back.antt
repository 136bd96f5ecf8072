-- Document 01, "Return": the copies once they are read from the left stack. Assumes nothing.
use Rattle.std.specs.Prelude.{List, [], ◌∷◌, ◌++◌, ℕ, ◌+◌, ◌*◌, ◌<◌, ◌≤◌, leb, take, drop, get_or}
use Rattle.rules.specs.declared.Argument.{Argument}
use Rattle.rules.specs.declared.Entry.{Entry}
use Rattle.rules.specs.Tests.{pick}
use Rattle.rules.specs.Memory.{Store, puts}
use Rattle.rules.specs.Record.{zero_argument}
use Rattle.rules.specs.Arguments.{words_in}

-- "arguments of direction 2 and 3 are copied from the copies back to their recorded places": one argument and its copy
unfoldable pub back_one : List ℕ → ℕ → Argument → List Store
back_one copy old a = pick (leb 2 a.direction) (puts old a.offset copy) []

-- "in list order": the copies stand one after the other, from a word on
unfoldable pub back_from : List ℕ → ℕ → ℕ → List Argument → List Store
back_from copies old from [] = []
back_from copies old from (a ∷ rest) = back_one (take a.length (drop from copies)) old a ++ back_from copies old (from + a.length) rest

-- argument i is at most 16 words long and ends within a stack of 1,024 words
abbrev pub ShortAt : List Argument → ℕ → Type 0
ShortAt list i =
    ((get_or list i zero_argument).length ≤ 16) × ((get_or list i zero_argument).offset + (get_or list i zero_argument).length ≤ 1024)

-- each of the first n arguments is
abbrev pub Short : ℕ → List Argument → Type 0
Short n list = (i : ℕ) → i < n → ShortAt list i

-- what an accepted return knows of the entry that it strikes
pub record Ready (e : Entry) : Type 0 where
  pub place : e.fresh + (33 + 4 * e.count) ≤ 1024
  pub count : e.count ≤ 4
  pub short : Short e.count e.arguments
  pub few : words_in (take e.count e.arguments) ≤ 64
