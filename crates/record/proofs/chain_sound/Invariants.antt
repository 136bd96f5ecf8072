use Rattle.std.proofs.Common.{◌≡◌, reverse}
use Rattle.rules.specs.Record.{chained}
use Rattle.record.proofs.chain_sound.Given as goal

-- what is left of the walk is sound exactly where the whole is
abbrev pub invariant-loop-e : goal.invariant-loop-e
invariant-loop-e l =
    chained l.top.0 l.len l.made l.entered (reverse l.e-iterator.iter.rest.now) ≡ chained l.top.0 l.len l.made l.fn.ring (reverse l.calls)
