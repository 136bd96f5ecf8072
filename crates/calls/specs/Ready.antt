-- What the builder of a call asks for; acceptance gives it. Assumes nothing.
use Rattle.std.specs.Prelude.{◌≡◌, ℕ, ◌<◌, ◌≤◌, Ok}
use Rattle.rules.specs.declared.Ring.{Ring}
use Rattle.rules.specs.declared.Seen.{Seen}
use Rattle.rules.specs.Tests.{pick}
use Rattle.rules.specs.Arguments.{words_in}
use Rattle.rules.specs.Call.{goes_outward, to, end_of, arguments}

pub record Ready (r : Ring) (open-count : ℕ) (v : Seen) : Type 0 where
  pub enters : v.decision ≡ Ok (to v)
  pub low : (to v).0 ≤ 63
  pub room : open-count < 32
  pub fits : end_of v ≤ 1024
  pub few : v.handed.count ≤ 4
  pub short : words_in (arguments v) ≤ 64
  pub copied : v.handed.words ≡ pick (goes_outward r v.decision) (words_in (arguments v)) 0
