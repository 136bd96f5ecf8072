-- Document 01, "Memory": "The ring number says where a program runs and the validation level says on whose behalf."
-- Assumes nothing.
use Rattle.std.specs.Prelude.{ltb}
use Rattle.rules.specs.declared.Ring.{Ring}
use Rattle.rules.specs.declared.Level.{Level}
use Rattle.rules.specs.Tests.{pick}

-- "Level = the larger of word 3 of the caller's stack and the caller's ring", "3 = larger of level and new ring"
abbrev pub larger_of : Level → Ring → Level
larger_of level ring = pick (ltb level.0 ring.0) (record { 0 = ring.0 }) level
