-- What a mode must be for one memory, one place in the pattern and one held bit to be all that its coder needs.
-- Clause: document 02, P10.
-- Assumes nothing.
use Rattle.std.specs.Prelude.{◌≡◌, List, [], ◌∷◌, ℕ, ◌+◌, ◌%◌, ◌≤◌, ◌<◌, length}
use Rattle.common.specs.Lists.{All}
use Rattle.puncturing.specs.Mode.{CodedBit, bit_of, Mode, completed, begun}

-- A coded bit that is at hand when the bit at a place of the pattern is coded: X or Y of that bit, or of an earlier one the coded bit that is held,
-- which is the first of the symbol that has begun.
pub data AtHand (m : Mode) (place : ℕ) (c : CodedBit) : Type 0 where
  newest : bit_of c ≡ place + 1 → AtHand m place c
  held : (r : List CodedBit) (ss : List (List CodedBit)) → begun m place ≡ (c ∷ r) ∷ ss → bit_of c ≤ place → AtHand m place c

-- the first coded bit of a symbol
abbrev pub First : (CodedBit → Type 0) → List CodedBit → Type 0
First P [] = Unit {0}
First P (c ∷ r) = P c

-- A mode has no bits beside the coded ones, or a bit of the encoded branch is a pattern, each of whose symbols has two coded bits and bits beside them.
pub data Beside (m : Mode) : Type 0 where
  alone : m.uncoded ≡ [] → Beside m
  paired : m.bits ≡ 1 → length m.uncoded ≡ length (completed m 1) → All (λ s. length s ≡ 2) m.symbols → Beside m

pub record WellFormed (m : Mode) : Type 0 where
  -- groups make up a block, and a pattern has bits
  pub some_group : 0 < m.group
  pub whole_groups : 204 % m.group ≡ 0
  pub some_bits : 0 < m.bits
  -- a bit completes one symbol or none, and before it one has begun or none; none where a pattern starts and where it ends
  pub one_completed : (place : ℕ) → place < m.bits → length (completed m (place + 1)) ≤ 1
  pub one_begun : (place : ℕ) → place < m.bits → length (begun m place) ≤ 1
  pub none_at_start : begun m 0 ≡ []
  pub none_at_end : begun m m.bits ≡ []
  -- what a symbol is made of is at hand when it is complete, and what is to be held when it has begun
  pub complete : (place : ℕ) → place < m.bits → All (All (AtHand m place)) (completed m (place + 1))
  pub begins : (place : ℕ) → place < m.bits → All (First (AtHand m place)) (begun m (place + 1))
  pub beside : Beside m
