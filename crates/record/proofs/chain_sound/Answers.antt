use Rattle.std.proofs.Common.{◌∙◌, sym}
use Rattle.record.proofs.Walks.{chain_step, chain_end}
use Rattle.record.proofs.chain_sound.Goals as goal

pub returns-then-not-open_sound : goal.returns-then-not-open_sound
returns-then-not-open_sound c =
    rw (chain_step _ _ _ _ _ _ _ c.in-Some.ensures.steps, ← c.open_sound.ensures, c.if-not-open_sound.true) at c.loop-e.invariant

pub loop-e-preserved : goal.loop-e-preserved
loop-e-preserved c =
    rw (chain_step _ _ _ _ _ _ _ c.in-Some.ensures.steps, ← c.open_sound.ensures, c.if-not-open_sound.false) at c.loop-e.invariant

pub returns : goal.returns
returns c = sym (chain_end _ _ _ _ _ c.in-None.ensures.steps.0) ∙ c.loop-e.invariant
