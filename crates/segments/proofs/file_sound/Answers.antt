use Rattle.std.proofs.Common.{refl, arith, rules, tests}
use Rattle.rules.specs.Segments.{records, record_sound, file_sound}
use Rattle.segments.proofs.Ranges.{all_over}
use Rattle.segments.proofs.file_sound.Goals as goal

pub returns-then-f-eq0 : goal.returns-then-f-eq0
unfolding file_sound
returns-then-f-eq0 c =
    let each = all_over (record_sound c.args.top.0 c.args.f.now) (records c.args.f.now) _ _ c.all.ensures.ran refl (λ x b q k. search (rules, tests)) in
    grind (arith, tests)
