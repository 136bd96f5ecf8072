-- docs/TRACE.md, "Fields of kind 5": a field of the record becomes a number. Assumes nothing.
use Rattle.std.specs.Prelude.{Bool, ◌&&◌, ◌||◌, ℕ, ◌+◌, ◌*◌, leb, ltb, eqb, get_or, set}
use Rattle.rules.specs.declared.Argument.{Argument}
use Rattle.rules.specs.declared.Entry.{Entry}
use Rattle.rules.specs.declared.Process.{Process}
use Rattle.rules.specs.Tests.{pick}
use Rattle.rules.specs.Record.{no_entry, argument_at}

-- "17 for a field, entry or argument that is not there": fields 0 to 3; 10 to 19 of an entry; 20 to 23 of an argument of an entry
unfoldable pub field_there : ℕ → ℕ → ℕ → Bool
field_there field entry argument =
    leb field 3
    || (leb 10 field && leb field 19 && ltb entry 32)
    || (leb 20 field && leb field 23 && ltb entry 32 && ltb argument 4)

-- "0 ring; 1 made, n1 its high and n2 its low 32 bits; 2 serial; 3 open count"
unfoldable pub record_with : ℕ → ℕ → ℕ → Process → Process
record_with field n1 n2 p =
    record {
      ring = record { 0 = pick (eqb field 0) n1 p.ring.0 };
      made = pick (eqb field 1) (n1 * 4294967296 + n2) p.made;
      serial = pick (eqb field 2) n1 p.serial;
      calls = pick (eqb field 3) n1 p.calls;
      entries = p.entries;
    }

-- "20 segment, 21 offset, 22 length, 23 direction"
unfoldable pub argument_with : ℕ → ℕ → Argument → Argument
argument_with field n a =
    record {
      segment = pick (eqb field 20) n a.segment;
      offset = pick (eqb field 21) n a.offset;
      length = pick (eqb field 22) n a.length;
      direction = pick (eqb field 23) n a.direction;
    }

-- "10 old ring, 11 old frame, 12 level, 13 return segment, 14 return offset, 15 argument place, 16 prior last-used offset, 17 new
-- frame, 18 argument count, 19 serial", and the fields of an argument
unfoldable pub entry_with : ℕ → ℕ → ℕ → Entry → Entry
entry_with field argument n e =
    record {
      old = record { 0 = pick (eqb field 10) n e.old.0 };
      frame = pick (eqb field 11) n e.frame;
      level = record { 0 = pick (eqb field 12) n e.level.0 };
      segment = pick (eqb field 13) n e.segment;
      offset = pick (eqb field 14) n e.offset;
      place = pick (eqb field 15) n e.place;
      prior = pick (eqb field 16) n e.prior;
      fresh = pick (eqb field 17) n e.fresh;
      count = pick (eqb field 18) n e.count;
      serial = pick (eqb field 19) n e.serial;
      arguments = set e.arguments argument (argument_with field n (argument_at e argument));
    }

-- the record with that field; where the entry is not there, the record as it is
unfoldable pub field_set : ℕ → ℕ → ℕ → ℕ → ℕ → Process → Process
field_set field entry argument n1 n2 p =
    pick (leb field 3) (record_with field n1 n2 p)
    (pick (ltb entry 32)
    (record {
      ring = p.ring;
      made = p.made;
      serial = p.serial;
      calls = p.calls;
      entries = set p.entries entry (entry_with field argument n1 (get_or p.entries entry no_entry));
    })
    p)
