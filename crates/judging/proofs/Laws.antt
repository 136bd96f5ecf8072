-- What a survey gathers, piece by piece, is what is seen. Assumes nothing.
use mathlib.Core.Path.{◌≡◌}
use mathlib.Core.Bool.{Bool, ◌||◌, not}
use mathlib.Core.List.{List}
use Prim.Native.Nat.{ℕ, ◌+◌}
use lib.Dec.{ltb}
use Rattle.rules.specs.declared.Ring.{Ring}
use Rattle.rules.specs.declared.Request.{Request}
use Rattle.rules.specs.declared.Handed.{Handed}
use Rattle.rules.specs.declared.Seen.{Seen}
use Rattle.rules.specs.Tests.{pick}
use Rattle.rules.specs.Memory.{spot, word, stack_length}
use Rattle.rules.specs.Made.{is_made}
use Rattle.rules.specs.Segments.{lookup_of}
use Rattle.rules.specs.Bracket.{Decision, target_of}
use Rattle.rules.specs.Arguments.{handed_of}
use Rattle.rules.specs.Call.{runs_in, entered, made_or, base_sound, decision, handed, used, fresh, seen}

pub gathered : (f m : List ℕ) (r : Ring) (made : ℕ) (q : Request)
    (L a seg off : ℕ) (runs : Bool) (d : Decision) (to : Ring) (h : Handed) (is : Bool) (one last next below : ℕ) (base : Bool)
    → L ≡ stack_length m
    → a ≡ word m (spot L r.0 3)
    → seg ≡ word m (spot L r.0 (q.frame + 20))
    → off ≡ word m (spot L r.0 (q.frame + 21))
    → runs ≡ runs_in r (lookup_of f q.running)
    → d ≡ target_of f r q.fault q.target q.offset
    → to ≡ entered d
    → h ≡ handed_of f m L made r (ltb r.0 to.0) q.place
    → is ≡ is_made made to.0
    → one ≡ word m (spot L to.0 1)
    → last ≡ pick is one 8
    → below ≡ word m (spot L to.0 (last + 19))
    → next ≡ pick is below 40
    → base ≡ base_sound m L to.0 last next
    → ◌≡◌ {A = Seen}
    (record { len = L; saved = record { 0 = a }; segment = seg; offset = off; runs = runs; decision = d; handed = h; used = last; fresh = next; base = not is || base })
    (seen f m r made q)
unfolding seen decision handed used fresh made_or
gathered f m r made q L a seg off runs d to h is one last next below base e1 e2 e3 e4 e5 e6 e7 e8 e9 e10 e11 e12 e13 e14 =
    rw (e14, e13, e12, e11, e10, e9, e8, e7, e6, e5, e4, e3, e2, e1)
