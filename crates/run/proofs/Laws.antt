-- That what is written at the start of lent room is what the room then begins with, and so what a part of the input does. Assumes nothing.
use Rattle.std.proofs.Common.{◌≡◌, List, ℕ, ◌+◌, ◌≤◌, ◌++◌, arith, length, take, drop, ap, ◌∙◌}
use Rattle.std.proofs.Math.Seq.{take-append_seam}
use Rattle.std.proofs.lemmas.List.Edits.{sets-eq}
use Rattle.rules.specs.Step.{State}
use Rattle.desk.specs.Lines.{written}
use Rattle.turns.specs.declared.Answered.{Answered}
use Rattle.turns.specs.Turns.{run_state, run_text, answered_by}
use Rattle.gatekeeper.specs.Entries.{state}
use Rattle.run.specs.Parts.{PartRuns}

written_front : (room bytes : List ℕ) (n : ℕ) → n ≡ length bytes → n ≤ length room → take n (written room 0 bytes) ≡ bytes
unfolding written
written_front room bytes n e h =
    let within : 0 + length bytes ≤ length room = omega arith in
    ap (take n) (sets-eq bytes room 0 within) ∙ ap (λ k. take k (bytes ++ drop (0 + length bytes) room)) e ∙ take-append_seam bytes (drop (0 + length bytes) room)

pub part_runs : (f : List ℕ) (before : State) (part room out store : List ℕ) (r : Answered) → r ≡ answered_by f before (take 12288 part) → r.at ≤ length room
    → out ≡ written room 0 (run_text f before (take 12288 part)) → store ≡ (run_state f before (take 12288 part)).memory
    → PartRuns f before part (take r.at out) (state store r.process)
unfolding answered_by
part_runs f before part room out store r value fits text memory =
    let at : r.at ≡ length (run_text f before (take 12288 part)) = ap (λ (a : Answered). a.at) value in
    let process : r.process ≡ (run_state f before (take 12288 part)).process = ap (λ (a : Answered). a.process) value in
    (ap (take r.at) text ∙ written_front room _ r.at at fits, ap (λ m. state m r.process) memory ∙ ap (state _) process)
