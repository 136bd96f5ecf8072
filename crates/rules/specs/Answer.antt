-- Document 01, "Numbers given back": the number and the reason of each refusal, and what a verdict makes of the store, the record and
-- the answer. Assumes nothing.
use Rattle.std.specs.Prelude.{List, ℕ, Ok, Err}
use Rattle.rules.specs.declared.Process.{Process}
use Rattle.rules.specs.declared.Barred.{Barred}
use Rattle.rules.specs.declared.Barred.TheVariants.{Unlisted, NotExecute, AboveR3, NoCrossing, NotAGate, FromRing0, OtherFault, OtherReason}
use Rattle.rules.specs.declared.Unfit.{Unfit}
use Rattle.rules.specs.declared.Unfit.TheVariants.{Place, Count, ListEnd, Length, Direction, NotPermitted, OtherUnfit}
use Rattle.rules.specs.declared.Refused.{Refused}
use Rattle.rules.specs.declared.Refused.TheVariants.{StoreLength, SegmentFile, Target, ProcessRecord, FaultOrInstruction, Frame, RunningSegment, SavedLevel, CallsOpen, ArgumentList, TargetStack, NewFrame, NothingToReturn, StartRing, StackBelow, OutsideStack, OtherNumber}
use Rattle.rules.specs.declared.Answer.{Answer}
use Rattle.rules.specs.declared.Outcome.{Outcome}
use Rattle.rules.specs.Tests.{Refusal}
use Rattle.rules.specs.Bracket.{Decision}

-- accepted, or refused
abbrev pub Verdict : Type 0
Verdict = Refusal Refused

-- "Reasons for 3, in order: 1 unlisted or offset above 262143; 2 not execute; 3 above r3; 4 no crossing; 7 the fault's direction
-- differs; 5 inward, not a gate; 6 outward from ring 0."
abbrev pub barred_as : Barred → ℕ
barred_as Unlisted = 1
barred_as NotExecute = 2
barred_as AboveR3 = 3
barred_as NoCrossing = 4
barred_as NotAGate = 5
barred_as FromRing0 = 6
barred_as OtherFault = 7
barred_as (OtherReason n) = n

-- document 01's number and reason for each case of a decision, 0 and 0 where a ring is entered
abbrev pub decision_number : Decision → ℕ
decision_number (Ok to) = 0
decision_number (Err b) = 3

abbrev pub decision_reason : Decision → ℕ
decision_reason (Ok to) = 0
decision_reason (Err b) = barred_as b

-- "For 10: 1 place outside 8..L-1; 2 count above 4; 3 list passes L; then argument by argument 4 length, 5 direction, 6 not permitted."
abbrev pub unfit_as : Unfit → ℕ
unfit_as Place = 1
unfit_as Count = 2
unfit_as ListEnd = 3
unfit_as Length = 4
unfit_as Direction = 5
unfit_as NotPermitted = 6
unfit_as (OtherUnfit n) = n

-- the table of numbers; and any other number, which no verdict gives (proofs/Table.antt)
abbrev pub number_of : Refused → ℕ
number_of StoreLength = 1
number_of SegmentFile = 2
number_of (Target b) = 3
number_of ProcessRecord = 4
number_of FaultOrInstruction = 5
number_of Frame = 6
number_of RunningSegment = 7
number_of SavedLevel = 8
number_of CallsOpen = 9
number_of (ArgumentList u) = 10
number_of TargetStack = 11
number_of NewFrame = 12
number_of NothingToReturn = 13
number_of StartRing = 14
number_of StackBelow = 15
number_of OutsideStack = 16
number_of (OtherNumber n reason) = n

-- "Other numbers have reason 0"; one that is not in the table has what it carries
abbrev pub reason_of : Refused → ℕ
reason_of (Target b) = barred_as b
reason_of (ArgumentList u) = unfit_as u
reason_of StoreLength = 0
reason_of SegmentFile = 0
reason_of ProcessRecord = 0
reason_of FaultOrInstruction = 0
reason_of Frame = 0
reason_of RunningSegment = 0
reason_of SavedLevel = 0
reason_of CallsOpen = 0
reason_of TargetStack = 0
reason_of NewFrame = 0
reason_of NothingToReturn = 0
reason_of StartRing = 0
reason_of StackBelow = 0
reason_of OutsideStack = 0
reason_of (OtherNumber n reason) = reason

-- an accepted answer: number 0, reason 0, and the places
abbrev pub places : ℕ → ℕ → ℕ → ℕ → Answer
places segment offset frame place =
    record { number = 0; reason = 0; segment = segment; offset = offset; frame = frame; place = place }

-- a refusal "gives zeros as places"
abbrev pub refusal : Refused → Answer
refusal r = record { number = number_of r; reason = reason_of r; segment = 0; offset = 0; frame = 0; place = 0 }

-- "Every refusal changes nothing and gives zeros as places."
abbrev pub memory_by : Verdict → List ℕ → List ℕ → List ℕ
memory_by (Ok _) before after = after
memory_by (Err r) before after = before

abbrev pub outcome_by : Verdict → Process → Process → Answer → Outcome
outcome_by (Ok _) before after given = record { process = after; answer = given }
outcome_by (Err r) before after given = record { process = before; answer = refusal r }
