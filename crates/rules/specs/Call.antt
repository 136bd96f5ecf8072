-- Document 01, "Call": when a call is accepted, and what it leaves. Assumes nothing.
use Rattle.std.specs.Prelude.{Bool, false, ◌&&◌, ◌||◌, not, List, [], ◌∷◌, ◌++◌, ℕ, ◌+◌, ◌*◌, leb, ltb, eqb, take, replicate, Option, Some, None, Ok, Err}
use Rattle.rules.specs.declared.Ring.{Ring}
use Rattle.rules.specs.declared.Level.{Level}
use Rattle.rules.specs.declared.Argument.{Argument}
use Rattle.rules.specs.declared.Entry.{Entry}
use Rattle.rules.specs.declared.Process.{Process}
use Rattle.rules.specs.declared.Segment.{Segment}
use Rattle.rules.specs.declared.Unfit.{Unfit}
use Rattle.rules.specs.declared.Refused.TheVariants.{StoreLength, SegmentFile, Target, ProcessRecord, FaultOrInstruction, Frame, RunningSegment, SavedLevel, CallsOpen, ArgumentList, TargetStack, NewFrame}
use Rattle.rules.specs.declared.Request.{Request}
use Rattle.rules.specs.declared.Handed.{Handed}
use Rattle.rules.specs.declared.Seen.{Seen}
use Rattle.rules.specs.declared.Answer.{Answer}
use Rattle.rules.specs.Tests.{pick, Refusal, refuse_if, first}
use Rattle.rules.specs.Rings.{larger_of}
use Rattle.rules.specs.Memory.{spot, word, words, Store, puts, stack_length, make_stack}
use Rattle.rules.specs.Made.{is_made, next_serial}
use Rattle.rules.specs.Segments.{file_sound, lookup_of, executes}
use Rattle.rules.specs.Bracket.{Decision, stays, target_of}
use Rattle.rules.specs.Record.{zero_argument, placed, process_sound, added}
use Rattle.rules.specs.Arguments.{handed_of, copies_of, pointing}
use Rattle.rules.specs.Answer.{Verdict, places}

-- "running segment unlisted, not execute, or ring outside r1..r2" (7)
abbrev pub runs_in : Ring → Option Segment → Bool
runs_in r (Some s) = executes s && stays r s
runs_in r None = false

-- the ring of a decision that enters one
abbrev pub entered : Decision → Ring
entered (Ok to) = to
entered (Err b) = record { 0 = 0 }

-- "3 target refused, with reason"
abbrev pub target_test : Decision → Verdict
target_test (Ok to) = Ok tt
target_test (Err b) = Err (Target b)

-- "10 argument list refused, with reason"
abbrev pub list_test : Refusal Unfit → Verdict
list_test (Ok _) = Ok tt
list_test (Err u) = Err (ArgumentList u)

-- the way of a decision from ring r
abbrev pub goes_outward : Ring → Decision → Bool
goes_outward r d = ltb r.0 (entered d).0

-- a word of stack k, and for a stack only now made what it reads as made: "an empty frame lies at 8 and the next at 40"
unfoldable pub made_or : ℕ → ℕ → ℕ → ℕ → ℕ
made_or made k w fresh = pick (is_made made k) w fresh

-- "made target stack: 0-1 not (its ring, 8 to L-32), or that frame's 18 not its ring, or 19 below last-used + 32" (11)
unfoldable pub base_sound : List ℕ → ℕ → ℕ → ℕ → ℕ → Bool
base_sound m L k used fresh =
    eqb (word m (spot L k 0)) k && placed L used 32 && eqb (word m (spot L k (used + 18))) k && leb (used + 32) fresh

-- ---- what a call from ring r reads before it is judged, `made` being the set of stacks made

module _ (f m : List ℕ) (r : Ring) (made : ℕ) (q : Request) where
  unfoldable pub decision : Decision
  decision = target_of f r q.fault q.target q.offset

  unfoldable pub handed : Handed
  handed = handed_of f m (stack_length m) made r (goes_outward r decision) q.place

  -- the last-used frame of the target stack, and "new frame = what words 18-19 of the last-used frame point to"
  unfoldable pub used : ℕ
  used = made_or made (entered decision).0 (word m (spot (stack_length m) (entered decision).0 1)) 8

  unfoldable pub fresh : ℕ
  fresh = made_or made (entered decision).0 (word m (spot (stack_length m) (entered decision).0 (used + 19))) 40

  unfoldable pub seen : Seen
  seen =
      record {
        len = stack_length m;
        saved = record { 0 = word m (spot (stack_length m) r.0 3) };
        segment = word m (spot (stack_length m) r.0 (q.frame + 20));
        offset = word m (spot (stack_length m) r.0 (q.frame + 21));
        runs = runs_in r (lookup_of f q.running);
        decision = decision;
        handed = handed;
        used = used;
        fresh = fresh;
        base = not (is_made made (entered decision).0) || base_sound m (stack_length m) (entered decision).0 used fresh;
      }

-- ---- how it is judged

-- the ring entered
abbrev pub to : Seen → Ring
to v = entered v.decision

-- "Level = the larger of word 3 of the caller's stack and the caller's ring"
abbrev pub level_of : Ring → Seen → Level
level_of r v = larger_of v.saved r

-- the place of the copies, and the "end of all copied": new frame + 33 + 4n, and outward all lengths
abbrev pub copies_at : Seen → ℕ
copies_at v = v.fresh + (33 + 4 * v.handed.count)

abbrev pub end_of : Seen → ℕ
end_of v = copies_at v + v.handed.words

-- "fault not 1 or 2, or instruction not 0 or 1" (5)
abbrev pub asked : Request → Bool
asked q = (eqb q.fault 1 || eqb q.fault 2) && (eqb q.instruction 0 || eqb q.instruction 1)

-- "Order, call: 1 2 4 5 6 7 8 9 3 10 11 12.", by whether file and record are sound, the open count, the request and what is seen
abbrev pub call_tests : ℕ → Bool → Bool → ℕ → Request → Seen → List Verdict
call_tests top file sound calls q v =
    refuse_if (eqb v.len 0) StoreLength
    ∷ refuse_if (not file) SegmentFile
    ∷ refuse_if (not sound) ProcessRecord
    ∷ refuse_if (not (asked q)) FaultOrInstruction
    ∷ refuse_if (not (placed v.len q.frame 32)) Frame
    ∷ refuse_if (not (v.runs && eqb v.segment q.running && leb v.offset 262143)) RunningSegment
    ∷ refuse_if (ltb top v.saved.0) SavedLevel
    ∷ refuse_if (leb 32 calls) CallsOpen
    ∷ target_test v.decision
    ∷ list_test v.handed.fit
    ∷ refuse_if (not v.base) TargetStack
    ∷ refuse_if (ltb v.len (end_of v)) NewFrame
    ∷ []

unfoldable pub judged : ℕ → Bool → Bool → ℕ → Request → Seen → Verdict
judged top file sound calls q v = first (call_tests top file sound calls q v) tt

unfoldable pub call_verdict : ℕ → List ℕ → List ℕ → Process → Request → Verdict
call_verdict top f m p q = judged top (file_sound top f) (process_sound top (stack_length m) p) p.calls q (seen f m p.ring p.made q)

-- ---- what it leaves, in terms of the memory m before the call

-- "the target stack is made if it isn't"
unfoldable pub making : ℕ → ℕ → ℕ → List Store
making L made new = pick (is_made made new) [] (make_stack L new)

-- "words 0-1 of the old stack = (old ring, frame)"; the new frame "gets the caller's 32 frame words, then 16-17 = (65536 + new
-- ring, last-used offset), 18-19 = (new ring, end of all copied), 28-29 = (old ring, old frame)"
unfoldable pub frame_stores : List ℕ → ℕ → ℕ → ℕ → ℕ → ℕ → ℕ → List Store
frame_stores caller old frame new fresh used end =
    puts old 0 (old ∷ frame ∷ [])
    ++ puts new fresh caller
    ++ puts new (fresh + 16) ((65536 + new) ∷ used ∷ [])
    ++ puts new (fresh + 18) (new ∷ end ∷ [])
    ++ puts new (fresh + 28) (old ∷ frame ∷ [])

-- "base words of the new stack: 2 = open count with this call in it, 3 = larger of level and new ring, 4 = the new serial"
unfoldable pub base_stores : ℕ → ℕ → Level → ℕ → List Store
base_stores new calls level serial = puts new 2 (calls ∷ level.0 ∷ serial ∷ [])

-- the arguments of the list, n of them
abbrev pub arguments : Seen → List Argument
arguments v = take v.handed.count v.handed.arguments

module _ (m : List ℕ) (r : Ring) (made calls serial : ℕ) (q : Request) (v : Seen) where
  -- "at new frame + 32 the list is copied. Inward, groups are unchanged. Outward, .. groups point at the copies"
  abbrev pub list_words : List ℕ
  list_words =
      pick (goes_outward r v.decision)
      (v.handed.count ∷ pointing (to v).0 (copies_at v) (arguments v))
      (words m (spot v.len r.0 q.place) (1 + 4 * v.handed.count))

  -- "Outward, the arguments themselves follow the list in order"
  abbrev pub copies : List ℕ
  copies = pick (goes_outward r v.decision) (copies_of m v.len r.0 (arguments v)) []

  -- the stores in the document's order
  unfoldable pub call_stores : List Store
  call_stores =
      making v.len made (to v).0
      ++ frame_stores (words m (spot v.len r.0 q.frame) 32) r.0 q.frame (to v).0 v.fresh v.used (end_of v)
      ++ puts (to v).0 (v.fresh + 32) list_words
      ++ puts (to v).0 (copies_at v) copies
      ++ base_stores (to v).0 (calls + 1) (larger_of (level_of r v) (to v)) (next_serial serial)

-- "an entry is added; an inward entry records no arguments"
unfoldable pub call_entry : Ring → ℕ → Request → Seen → Entry
call_entry r serial q v =
    record {
      old = r;
      frame = q.frame;
      level = level_of r v;
      segment = v.segment;
      offset = v.offset;
      place = q.place;
      prior = v.used;
      fresh = v.fresh;
      count = pick (goes_outward r v.decision) v.handed.count 0;
      serial = next_serial serial;
      arguments = pick (goes_outward r v.decision) v.handed.arguments (replicate 4 zero_argument);
    }

unfoldable pub call_next : Process → Request → Seen → Process
call_next p q v = added p (call_entry p.ring p.serial q v) (to v)

-- "Returned: target segment and offset, new frame, new frame + 32."
unfoldable pub call_answer : Request → Seen → Answer
call_answer q v = places q.target q.offset v.fresh (v.fresh + 32)
