-- A crossing goes by its instruction: what a return and what a call ensure is the step's outcome and store. Assumes nothing.
use mathlib.Core.Path.{◌≡◌}
use mathlib.Core.Bool.{true, false}
use mathlib.Core.List.{List}
use Prim.Native.Nat.{ℕ}
use Rattle.rules.specs.declared.Process.{Process}
use Rattle.rules.specs.declared.Request.{Request}
use Rattle.rules.specs.declared.Outcome.{Outcome}
use Rattle.rules.specs.Memory.{apply, stack_length}
use Rattle.rules.specs.Record.{newest, struck}
use Rattle.rules.specs.Answer.{memory_by, outcome_by}
use Rattle.rules.specs.Call.{seen, call_verdict, call_stores, call_next, call_answer}
use Rattle.rules.specs.Return.{return_verdict, return_stores, return_answer}
use Rattle.rules.specs.Step.{crosses, returns, outcome, memory_after}
use Rattle.gatekeeper.specs.Entries.{state}

module _ (f m : List ℕ) (p : Process) (q : Request) (r : Outcome) (t : List ℕ) where
  pub by_return : returns q ≡ true
      → r ≡ outcome_by (return_verdict 63 f m p q) p (struck p) (return_answer (newest p))
      → t ≡ memory_by (return_verdict 63 f m p q) m (apply (stack_length m) (return_stores m (stack_length m) p.ring (newest p)) m)
      → (r ≡ outcome 63 f (state m p) (crosses q)) × (t ≡ memory_after 63 f (state m p) (crosses q))
  unfolding outcome memory_after
  by_return way o s = (rw way o, rw way s)

  pub by_call : returns q ≡ false
      → r ≡ outcome_by (call_verdict 63 f m p q) p (call_next p q (seen f m p.ring p.made q)) (call_answer q (seen f m p.ring p.made q))
      → t ≡ memory_by (call_verdict 63 f m p q) m (apply (stack_length m) (call_stores m p.ring p.made p.calls p.serial q (seen f m p.ring p.made q)) m)
      → (r ≡ outcome 63 f (state m p) (crosses q)) × (t ≡ memory_after 63 f (state m p) (crosses q))
  unfolding outcome memory_after
  by_call way o s = (rw way o, rw way s)
