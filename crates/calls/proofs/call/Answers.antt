use Rattle.std.proofs.Common.{◌≡◌, sym, ◌∙◌}
use Rattle.rules.specs.Call.{call_verdict}
use Rattle.calls.proofs.Accepted.{verdict_is, ready, refused_is, accepted_is}
use Rattle.calls.proofs.call.Goals as goal
use Rattle.calls.proofs.call.Goals.{After-judge_call-verdict}

-- the verdict is the one on a call
verdict : (c : After-judge_call-verdict) → c.judge_call-verdict.result ≡ call_verdict 63 c.args.file.now c.args.s.now c.args.p c.args.q
verdict c =
    verdict_is _ _ _ _ _ _ _ _ c.survey-v.ensures c.file_sound-listed.ensures c.process_sound-sound.ensures c.judge_call-verdict.ensures

pub returns-in_default : goal.returns-in_default
returns-in_default c =
    let judged = (goal.at.returns-in_default c).After-judge_call-verdict in
    let k = refused_is _ _ _ _ _ (verdict judged) c.in_default.is c.unchanged.ensures in
    record { value = k.0; s_after = k.1 }

pub accept-requires : goal.accept-requires
accept-requires c =
    let judged = (goal.at.accept-requires c).After-judge_call-verdict in
    rw c.survey-v.ensures (ready _ _ _ _ (sym (verdict judged) ∙ c.in-Ok.is))

pub returns : goal.returns
returns c =
    let judged = (goal.at.returns c).After-judge_call-verdict in
    let k = accepted_is _ _ _ _ _ _ _ _ c.in-Ok.is (verdict judged) c.survey-v.ensures c.accept.ensures.value c.accept.ensures.s_after in
    record { value = k.0; s_after = k.1 }
