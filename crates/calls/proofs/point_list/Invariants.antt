use Rattle.std.proofs.Common.{◌≡◌, ◌+◌, ◌*◌, take}
use Rattle.rules.specs.Memory.{puts, apply}
use Rattle.rules.specs.Arguments.{words_in, pointing}
use Rattle.calls.proofs.point_list.Given as goal

abbrev pub invariant-loop-g : goal.invariant-loop-g
invariant-loop-g l =
    record {
      place : l.here ≡ l.list + 4 * l.g-index;
      copy : l.at ≡ l.copies + words_in (take l.g-index l.arguments);
      stored : l.s ≡ apply l.new.len (puts l.new.ring.0 l.list (pointing l.new.ring.0 l.copies (take l.g-index l.arguments))) l.initial.s;
    }
