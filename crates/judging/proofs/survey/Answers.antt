use Rattle.std.proofs.Common.{rules, ◌≡◌, ltb}
use Rattle.judging.proofs.Laws.{gathered}
use Rattle.judging.proofs.survey.Goals as goal

pub returns : goal.returns
returns c =
    let way : c.lt-outward.result ≡ ltb c.args.ring.0 c.entered_ring.result.0 = search rules in
    gathered _ _ _ _ _ _ _ _ _ _ _ _ _ _ _ _ _ _ _
    c.stack_length-len.ensures
    c.load-2.ensures
    c.load_past-2.ensures
    c.load_past-3.ensures
    c.running.ensures
    c.target-decision.ensures
    c.entered_ring.ensures
    (rw way at c.check_list.ensures)
    c.is_made-is.ensures
    c.load.ensures
    c.made_or-used.ensures
    c.load_past.ensures
    c.made_or-fresh.ensures
    c.base_sound.ensures
