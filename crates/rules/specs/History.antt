-- Demand 3, stated over any run of the very step that the entries' contracts cite (specs/Step.antt). Assumes nothing.
--
-- A run begins with an accepted start and goes on with any events, each handed what the last one left; an accepted second start is
-- no step of it. The history has the steps, newest first, each with the state that it was handed, so that ring, level, frame, argument
-- place and return place of a call come from the history and not from the record's own entries.
use Rattle.std.specs.Prelude.{◌≡◌, ◌⊎◌, Bool, true, false, ◌||◌, List, [], ◌∷◌, map, ℕ, ◌+◌, ◌%◌, ◌^◌, ◌≤◌, ◌<◌, eqb, length, take, Some, Ok, Err}
use Rattle.rules.specs.declared.Ring.{Ring}
use Rattle.rules.specs.declared.Argument.{Argument}
use Rattle.rules.specs.declared.Entry.{Entry}
use Rattle.rules.specs.declared.Segment.{Segment}
use Rattle.rules.specs.declared.Request.{Request}
use Rattle.rules.specs.declared.Seen.{Seen}
use Rattle.rules.specs.declared.Refused.{Refused}
use Rattle.rules.specs.declared.Answer.{Answer}
use Rattle.rules.specs.Tests.{pick}
use Rattle.rules.specs.Answer.{Verdict}
use Rattle.rules.specs.Memory.{spot, word, stack_length}
use Rattle.rules.specs.Made.{is_made}
use Rattle.rules.specs.Segments.{lookup_of, is_gate}
use Rattle.rules.specs.Record.{opened, newest}
use Rattle.rules.specs.Call.{seen, to, level_of, goes_outward, copies_at, end_of, call_entry}
use Rattle.rules.specs.Step.{Event, starts, crosses, writes, looks, State, returns, verdict, outcome, step}

-- ---- runs

-- one step of a run: the state it was handed, what was asked, and how it was judged
pub record Done : Type 0 where
  pub before : State
  pub event : Event
  pub verdict : Verdict

-- "with no second start": an accepted start begins another run
abbrev pub begins : Event → Verdict → Bool
begins (starts r) (Ok _) = true
begins (starts r) (Err e) = false
begins (crosses q) v = false
begins (writes k at w) v = false
begins (looks k at) v = false

module _ (top : ℕ) (f : List ℕ) where
  -- "Take a process from its accepted start .. through any run of requests and program writes with no second start, each step handed
  -- what the last one left."
  pub data Run (r : Ring) : State → List Done → Type 0 where
    begun : (s : State) → verdict top f s (starts r) ≡ Ok tt → Run r (step top f s (starts r)) []
    then : {s : State} {h : List Done} → Run r s h → (e : Event) → begins e (verdict top f s e) ≡ false
        → Run r (step top f s e) (record { before = s; event = e; verdict = verdict top f s e } ∷ h)

-- ---- the calls of a history

-- an accepted call, with the state that it was handed
pub record Call : Type 0 where
  pub before : State
  pub request : Request

abbrev pub tail : List Call → List Call
tail [] = []
tail (c ∷ cs) = cs

-- "Strike each accepted return against the newest accepted call not yet struck."
abbrev pub strike : State → Event → Verdict → List Call → List Call
strike s (crosses q) (Ok _) cs = pick (returns q) (tail cs) (record { before = s; request = q } ∷ cs)
strike s (crosses q) (Err e) cs = cs
strike s (starts r) v cs = cs
strike s (writes k at w) v cs = cs
strike s (looks k at) v cs = cs

-- the accepted calls not yet struck, newest first
abbrev pub unstruck : List Done → List Call
unstruck [] = []
unstruck (d ∷ h) = strike d.before d.event d.verdict (unstruck h)

-- how many calls were accepted
abbrev pub is_call : Event → Verdict → ℕ
is_call (crosses q) (Ok _) = pick (returns q) 0 1
is_call (crosses q) (Err e) = 0
is_call (starts r) v = 0
is_call (writes k at w) v = 0
is_call (looks k at) v = 0

abbrev pub calls_in : List Done → ℕ
calls_in [] = 0
calls_in (d ∷ h) = calls_in h + is_call d.event d.verdict

module _ (f : List ℕ) where
  -- what a call saw, the ring it entered, the entry it made
  abbrev pub sees : State → Request → Seen
  sees s q = seen f s.memory s.process.ring s.process.made q

  abbrev pub saw_in : Call → Seen
  saw_in c = sees c.before c.request

  abbrev pub into : Call → Ring
  into c = to (saw_in c)

  abbrev pub entry_in : Call → Entry
  entry_in c = call_entry c.before.process.ring c.before.process.serial c.request (saw_in c)

  -- "The ring is the one that the newest unstruck call entered, or the start ring."
  abbrev pub ring_of : Ring → List Call → Ring
  ring_of r [] = r
  ring_of r (c ∷ cs) = into c

  -- stack k is the start ring's, or one that an accepted call entered
  abbrev pub enters : ℕ → State → Event → Verdict → Bool
  enters k s (crosses q) (Ok _) = pick (returns q) false (eqb k (to (sees s q)).0)
  enters k s (crosses q) (Err e) = false
  enters k s (starts r) v = false
  enters k s (writes j at w) v = false
  enters k s (looks j at) v = false

  abbrev pub is_entered : Ring → List Done → ℕ → Bool
  is_entered r [] k = eqb k r.0
  is_entered r (d ∷ h) k = is_entered r h k || enters k d.before d.event d.verdict

-- ---- the words that may change

-- word o lies in one of the arguments of direction 2 or 3
pub data Covers : List Argument → ℕ → Type 0 where
  here : {a : Argument} {rest : List Argument} {o : ℕ} → 2 ≤ a.direction → a.offset ≤ o → o < a.offset + a.length → Covers (a ∷ rest) o
  there : {a : Argument} {rest : List Argument} {o : ℕ} → Covers rest o → Covers (a ∷ rest) o

module _ (f : List ℕ) (s : State) where
  -- the ring that a call enters
  abbrev pub new_ring : Request → ℕ
  new_ring q = (to (sees f s q)).0

  -- word o of stack k is one that the accepted step e from s may change
  pub data May : Event → ℕ → ℕ → Type 0 where
    -- "a write from its own ring or a lower one"
    written : {k : Ring} {at v : ℕ} → s.process.ring.0 ≤ k.0 → May (writes k at v) k.0 at
    -- a call: 0-1 of the stack left; of the stack entered the frame's 32, the list's 1 + 4n, the copies, base words 2, 3, 4
    call_left : {q : Request} {o : ℕ} → returns q ≡ false → o < 2 → May (crosses q) s.process.ring.0 o
    call_frame : {q : Request} {o : ℕ} → returns q ≡ false → (sees f s q).fresh ≤ o → o < (sees f s q).fresh + 32 → May (crosses q) (new_ring q) o
    call_list : {q : Request} {o : ℕ} → returns q ≡ false → (sees f s q).fresh + 32 ≤ o → o < copies_at (sees f s q)
        → May (crosses q) (new_ring q) o
    call_copies : {q : Request} {o : ℕ} → returns q ≡ false → goes_outward s.process.ring (sees f s q).decision ≡ true
        → copies_at (sees f s q) ≤ o → o < end_of (sees f s q) → May (crosses q) (new_ring q) o
    call_base : {q : Request} {o : ℕ} → returns q ≡ false → 2 ≤ o → o < 5 → May (crosses q) (new_ring q) o
    -- "or all L words where it is only now made"
    call_making : {q : Request} {o : ℕ} → returns q ≡ false → is_made s.process.made (new_ring q) ≡ false → May (crosses q) (new_ring q) o
    -- a return: 0-1 of the left stack, 3 of the old one, the words copied back, which only an outward call has
    return_left : {q : Request} {o : ℕ} → returns q ≡ true → o < 2 → May (crosses q) s.process.ring.0 o
    return_level : {q : Request} → returns q ≡ true → May (crosses q) (newest s.process).old.0 3
    return_argument : {q : Request} {o : ℕ} → returns q ≡ true → (newest s.process).old.0 < s.process.ring.0
        → Covers (take (newest s.process).count (newest s.process).arguments) o → May (crosses q) (newest s.process).old.0 o

-- ---- the claims

-- "A return restores the ring, level, frame, argument place and return place of the call it strikes": the state t that it leaves and
-- the places a that it gives back, and the call c
pub record Restored (f : List ℕ) (t : State) (a : Answer) (c : Call) : Type 0 where
  pub ring : t.process.ring ≡ c.before.process.ring
  pub level : word t.memory (spot (stack_length t.memory) c.before.process.ring.0 3) ≡ (level_of c.before.process.ring (saw_in f c)).0
  pub frame : a.frame ≡ c.request.frame
  pub place : a.place ≡ c.request.place
  pub segment : a.segment ≡ (saw_in f c).segment
  pub offset : a.offset ≡ (saw_in f c).offset

-- "a call to a listed gate from the call bracket": the segment s is listed, r2 < ring ≤ r3, and the offset is one of its gates
pub record ByGate (f : List ℕ) (ring : Ring) (q : Request) : Type 0 where
  pub s : Segment
  pub listed : lookup_of f q.target ≡ Some s
  pub above : s.r2.0 < ring.0
  pub within : ring.0 ≤ s.r3.0
  pub gated : is_gate f s.at q.offset ≡ true

-- how the ring number may fall in the accepted step e, cs being the unstruck calls
pub data Falls (f : List ℕ) (ring : Ring) : List Call → Event → Type 0 where
  gate : {cs : List Call} {q : Request} → returns q ≡ false → ByGate f ring q → Falls f ring cs (crosses q)
  back : {c : Call} {cs : List Call} {q : Request} → returns q ≡ true → c.before.process.ring.0 < (into f c).0 → Falls f ring (c ∷ cs) (crosses q)

-- Demand 3, of a state s that a run from ring r reached by the history h, and of the step e from there
pub record Demand3 (top : ℕ) (f : List ℕ) (r : Ring) (s : State) (h : List Done) (e : Event) : Type 0 where
  -- 1. "The ring is the one that the newest unstruck call entered, or the start ring."
  pub ring : s.process.ring ≡ ring_of f r (unstruck h)
  -- 2. The open entries are the unstruck calls, as they stood when made; the open count is their number; the serial is the number of
  -- accepted calls modulo 2^32; the made set is the start ring and the rings that accepted calls entered.
  pub entries : opened s.process.calls s.process.entries ≡ map (entry_in f) (unstruck h)
  pub count : s.process.calls ≡ length (unstruck h)
  pub serial : s.process.serial ≡ calls_in h % 2 ^ 32
  pub made : (k : ℕ) → is_made s.process.made k ≡ is_entered f r h k
  -- 3. "A return restores the ring, level, frame, argument place and return place of the call it strikes."
  pub restored : (q : Request) → e ≡ crosses q → returns q ≡ true → verdict top f s e ≡ Ok tt
      → (c : Call) × (cs : List Call) × (unstruck h ≡ c ∷ cs) × Restored f (step top f s e) (outcome top f s e).answer c
  -- 4. "The ring number falls only by a call to a listed gate from the call bracket, or by a return that strikes an outward call."
  pub falls : (step top f s e).process.ring.0 < s.process.ring.0 → (verdict top f s e ≡ Ok tt) × Falls f s.process.ring (unstruck h) e
  -- 5. "A stack word changes only by a write from its own ring or a lower one, or as one of 01's named words of a crossing into or out
  -- of its ring."
  pub words : (k o : ℕ) → o < stack_length s.memory
      → (word (step top f s e).memory (spot (stack_length s.memory) k o) ≡ word s.memory (spot (stack_length s.memory) k o))
      ⊎ ((verdict top f s e ≡ Ok tt) × May f s e k o)
  -- 6. A refused step changes nothing.
  pub refused : (why : Refused) → verdict top f s e ≡ Err why → step top f s e ≡ s
