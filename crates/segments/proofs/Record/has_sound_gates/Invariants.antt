use Rattle.std.proofs.Common.{◌≡◌, ◌-◌}
use Rattle.rules.specs.Tests.{all_from}
use Rattle.rules.specs.Segments.{gate_sound, gate}
use Rattle.segments.proofs.Record.has_sound_gates.Given as goal

-- g is gate j, and what is left to test is what the whole test comes to
abbrev pub invariant-loop-j : goal.invariant-loop-j
invariant-loop-j l =
    (l.g ≡ gate l.self.file.now l.self.at l.j)
    × (all_from (gate_sound l.self.file.now l.self.at) 0 8 ≡ all_from (gate_sound l.self.file.now l.self.at) l.j (8 - l.j))
