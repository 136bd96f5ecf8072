-- Document 01, "Memory": the lent store as a list of words, and a change of it as a list of stores (stack, offset, value).
-- Assumes nothing.
use Rattle.std.specs.Prelude.{Bool, ◌&&◌, List, [], ◌∷◌, ◌++◌, ℕ, zero, suc, ◌+◌, ◌*◌, ◌/◌, ◌%◌, leb, eqb, length, get_or, set}
use Rattle.rules.specs.Tests.{pick}

-- "ring k's stack is words k×L to k×L+L-1"
abbrev pub spot : ℕ → ℕ → ℕ → ℕ
spot L k at = k * L + at

-- the word at a place of the store, and 0 past its end
abbrev pub word : List ℕ → ℕ → ℕ
word m p = get_or m p 0

-- f 0, f 1, .., f (n - 1)
unfoldable pub up_to : (ℕ → ℕ) → ℕ → List ℕ
up_to f zero = []
up_to f (suc n) = up_to f n ++ (f n ∷ [])

-- the n words from a place on
abbrev pub word_from : List ℕ → ℕ → ℕ → ℕ
word_from m p i = word m (p + i)

unfoldable pub words : List ℕ → ℕ → ℕ → List ℕ
words m p n = up_to (word_from m p) n

-- one word is stored in a stack
pub record Store : Type 0 where
  pub stack : ℕ
  pub offset : ℕ
  pub value : ℕ

-- the words vs are stored in stack k from an offset on; "a pointer is two words: segment, offset" is puts k at (segment ∷ offset ∷ [])
unfoldable pub puts : ℕ → ℕ → List ℕ → List Store
puts k at [] = []
puts k at (v ∷ vs) = record { stack = k; offset = at; value = v } ∷ puts k (suc at) vs

-- the store after a list of stores, first to last
unfoldable pub apply : ℕ → List Store → List ℕ → List ℕ
apply L [] m = m
apply L (s ∷ ss) m = apply L ss (set m (spot L s.stack s.offset) s.value)

-- "The lent store holds exactly 64×L words, L from 128 to 1,024" (number 1)
abbrev pub permitted : ℕ → Bool
permitted n = eqb (n % 64) 0 && leb 128 (n / 64) && leb (n / 64) 1024

-- L, by the store's length, and 0 where number 1 is given
unfoldable pub stack_length : List ℕ → ℕ
stack_length m = pick (permitted (length m)) (length m / 64) 0

-- "Making a stack k: all L words zero, except 0-1 = (k, 8), 26 = k, 27 = 40."
abbrev pub made_word : ℕ → ℕ → ℕ
made_word k at = pick (eqb at 0) k (pick (eqb at 1) 8 (pick (eqb at 26) k (pick (eqb at 27) 40 0)))

-- each of the L words is stored once, with its final value
unfoldable pub make_stack : ℕ → ℕ → List Store
make_stack L k = puts k 0 (up_to (made_word k) L)
