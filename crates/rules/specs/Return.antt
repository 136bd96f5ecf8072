-- Document 01, "Return": when a return is accepted, and what it leaves. Assumes nothing.
use Rattle.std.specs.Prelude.{Bool, ◌||◌, not, List, [], ◌∷◌, ◌++◌, ℕ, ◌+◌, ◌*◌, leb, ltb, eqb, take}
use Rattle.rules.specs.declared.Ring.{Ring}
use Rattle.rules.specs.declared.Argument.{Argument}
use Rattle.rules.specs.declared.Entry.{Entry}
use Rattle.rules.specs.declared.Process.{Process}
use Rattle.rules.specs.declared.Request.{Request}
use Rattle.rules.specs.declared.Refused.TheVariants.{StoreLength, SegmentFile, ProcessRecord, FaultOrInstruction, NothingToReturn}
use Rattle.rules.specs.declared.Answer.{Answer}
use Rattle.rules.specs.Tests.{pick, refuse_if, first}
use Rattle.rules.specs.Memory.{spot, words, Store, puts, stack_length}
use Rattle.rules.specs.Segments.{file_sound}
use Rattle.rules.specs.Record.{process_sound, newest}
use Rattle.rules.specs.Answer.{Verdict, places}
use Rattle.rules.specs.Call.{asked}

-- "arguments of direction 2 and 3 are copied from the copies back to their recorded places, in list order": the copies lie one
-- after the other in the left stack from an offset on
unfoldable pub back_stores : List ℕ → ℕ → ℕ → ℕ → ℕ → List Argument → List Store
back_stores m L left old at [] = []
back_stores m L left old at (a ∷ rest) =
    pick (leb 2 a.direction) (puts old a.offset (words m (spot L left at) a.length)) []
    ++ back_stores m L left old (at + a.length) rest

-- "fault 1 when old ring < ring": the call went outward, and the return goes inward
abbrev pub fault_back : Ring → Ring → ℕ
fault_back ring old = pick (ltb old.0 ring.0) 1 2

-- "Return: 1 2 4 5 13.", by L, whether file and record are sound, the open count, the running ring, the request and the newest entry
abbrev pub return_tests : ℕ → Bool → Bool → ℕ → Ring → Request → Entry → List Verdict
return_tests L file sound calls ring q e =
    refuse_if (eqb L 0) StoreLength
    ∷ refuse_if (not file) SegmentFile
    ∷ refuse_if (not sound) ProcessRecord
    ∷ refuse_if (not (asked q)) FaultOrInstruction
    ∷ refuse_if (eqb calls 0 || not (eqb q.fault (fault_back ring e.old))) NothingToReturn
    ∷ []

unfoldable pub judged_back : ℕ → Bool → Bool → ℕ → Ring → Request → Entry → Verdict
judged_back L file sound calls ring q e = first (return_tests L file sound calls ring q e) tt

unfoldable pub return_verdict : ℕ → List ℕ → List ℕ → Process → Request → Verdict
return_verdict top f m p q =
    judged_back (stack_length m) (file_sound top f) (process_sound top (stack_length m) p) p.calls p.ring q (newest p)

-- the stores of a return from ring `left` that strikes the entry e: "The left stack's 0-1 = (left ring, prior). Word 3 of the old
-- stack = saved level. On inward return, arguments of direction 2 and 3 are copied .. back" (an inward call has none)
unfoldable pub return_stores : List ℕ → ℕ → Ring → Entry → List Store
return_stores m L left e =
    puts left.0 0 (left.0 ∷ e.prior ∷ [])
    ++ puts e.old.0 3 (e.level.0 ∷ [])
    ++ back_stores m L left.0 e.old.0 (e.fresh + (33 + 4 * e.count)) (take e.count e.arguments)

-- "Returned: return place, old frame, argument place."
unfoldable pub return_answer : Entry → Answer
return_answer e = places e.segment e.offset e.frame e.place
