use Rattle.std.proofs.Common.{◌≡◌}
use Rattle.rules.specs.Memory.{up_to, made_word, puts, apply}
use Rattle.words.proofs.Stack.make.Given as goal

-- the words before it are stored
abbrev pub invariant-loop-at : goal.invariant-loop-at
invariant-loop-at l = l.s ≡ apply l.self.len (puts l.self.ring.0 0 (up_to (made_word l.self.ring.0) l.at)) l.initial.s
