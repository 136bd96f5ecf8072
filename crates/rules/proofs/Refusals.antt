-- The law of a refusal (specs/Answer.antt): "Every refusal changes nothing and gives zeros as places." Assumes nothing.
use mathlib.Core.Path.{◌≡◌, sym, ◌∙◌}
use mathlib.Core.List.{List}
use Prim.Native.Nat.{ℕ}
use Rattle.rules.specs.declared.Process.{Process}
use Rattle.rules.specs.Answer.{Verdict, places, outcome_by, memory_by}
use Rattle.std.specs.Prelude.{Err}
use Rattle.rules.specs.declared.Refused.{Refused}
use Rattle.rules.specs.declared.Answer.{Answer}
use Rattle.rules.specs.declared.Outcome.{Outcome}

-- what is told of an unchanged record is the outcome of a refusing verdict, and the store is as it was
pub kept : {v w : Verdict} {e : Refused} (r : Outcome) (p next : Process) (given : Answer) (m after : List ℕ) → v ≡ w → v ≡ Err e
    → r ≡ outcome_by v p p (places 0 0 0 0) → (r ≡ outcome_by w p next given) × (m ≡ memory_by w m after)
kept r p next given m after same told out = let refused = sym same ∙ told in (rw refused (rw told at out), rw refused)
