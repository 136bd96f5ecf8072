use Rattle.std.proofs.Common.{◌≡◌, length, take}
use Rattle.rules.specs.Arguments.{words_in, copies_of}
use Rattle.calls.proofs.gather_copies.Given as goal

abbrev pub invariant-loop-g : goal.invariant-loop-g
invariant-loop-g l =
    record {
      long : length l.copies ≡ 64;
      place : l.at ≡ words_in (take l.g-index l.arguments);
      copied : take (words_in (take l.g-index l.arguments)) l.copies ≡ copies_of l.s l.old.len l.old.ring.0 (take l.g-index l.arguments);
    }
