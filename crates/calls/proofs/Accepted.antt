-- From the verdict of a call to what its builder asks for and to what the entry gives back. Assumes nothing.
use mathlib.Core.Path.{◌≡◌, refl, ap, ◌∙◌}
use mathlib.Core.Bool.{Bool}
use mathlib.Core.List.{List}
use Prim.Native.Nat.{ℕ}
use native.Mathlib.Omega.{arith}
use Rattle.rules.specs.declared.Process.{Process}
use Rattle.rules.specs.declared.Request.{Request}
use Rattle.rules.specs.declared.Seen.{Seen}
use Rattle.rules.specs.declared.Outcome.{Outcome}
use Rattle.std.specs.Prelude.{Ok, Err}
use Rattle.rules.specs.declared.Refused.{Refused}
use Rattle.rules.specs.Memory.{spot, word, apply, stack_length}
use Rattle.rules.specs.Segments.{file_sound}
use Rattle.rules.specs.Record.{process_sound}
use Rattle.rules.specs.Arguments.{handed_of}
use Rattle.rules.specs.Answer.{Verdict, places, outcome_by, memory_by}
use Rattle.rules.specs.Call.{goes_outward, decision, handed, seen, judged, call_verdict, call_stores, call_next, call_answer}
use Rattle.rules.proofs.Called.{called, words_taken, words-few}
use Rattle.rules.proofs.Refusals.{kept}
use Rattle.calls.specs.Ready.{Ready}

module _ (f m : List ℕ) (p : Process) (q : Request) where
  abbrev saw : Seen
  saw = seen f m p.ring p.made q

  length_seen : saw.len ≡ stack_length m
  unfolding seen
  length_seen = refl

  -- the verdict, by its parts
  pub verdict_is : (v : Seen) (listed sound : Bool) (w : Verdict) → v ≡ saw → listed ≡ file_sound 63 f → sound ≡ process_sound 63 v.len p
      → w ≡ judged 63 listed sound p.calls q v → w ≡ call_verdict 63 f m p q
  unfolding call_verdict
  verdict_is v listed sound w e l s j = let n : v.len ≡ stack_length m = ap (λ (x : Seen). x.len) e ∙ length_seen in rw (← e, ← l, ← n) (rw s at j)

  pub ready : call_verdict 63 f m p q ≡ Ok tt → Ready p.ring p.calls saw
  unfolding seen handed handed_of
  ready e =
      let c = called 63 f m p q e in
      let j = c.tests in
      let n = word m (spot (stack_length m) p.ring.0 q.place) in
      let way = goes_outward p.ring (decision f m p.ring p.made q) in
      let all = words_taken m (stack_length m) p.ring.0 q.place n c.list.count in
      record {
        enters = j.enters;
        low = c.below;
        room = j.room;
        fits = omega (arith, j.fits, c.long.2);
        few = c.list.count;
        short = rw all (words-few f m (stack_length m) p.made p.ring way q.place n c.list);
        copied = rw all;
      }

  -- refused: the record and the store as they were
  pub refused_is : {w : Verdict} {x : Refused} (r : Outcome) → w ≡ call_verdict 63 f m p q → w ≡ Err x → r ≡ outcome_by w p p (places 0 0 0 0)
      → (r ≡ outcome_by (call_verdict 63 f m p q) p (call_next p q saw) (call_answer q saw))
      × (m ≡ memory_by (call_verdict 63 f m p q) m (apply (stack_length m) (call_stores m p.ring p.made p.calls p.serial q saw) m))
  refused_is r s k o = kept r p _ _ m _ s k o

  -- accepted: what the builder gives back and stores
  pub accepted_is : (v : Seen) (w : Verdict) (r : Outcome) (t : List ℕ) → w ≡ Ok tt → w ≡ call_verdict 63 f m p q → v ≡ saw
      → r ≡ outcome_by (Ok tt) p (call_next p q v) (call_answer q v)
      → t ≡ apply v.len (call_stores m p.ring p.made p.calls p.serial q v) m
      → (r ≡ outcome_by (call_verdict 63 f m p q) p (call_next p q saw) (call_answer q saw))
      × (t ≡ memory_by (call_verdict 63 f m p q) m (apply (stack_length m) (call_stores m p.ring p.made p.calls p.serial q saw) m))
  accepted_is v w r t a k s o b = (rw (← k, a) (rw s at o), rw (← k, a, ← length_seen) (rw s at b))
