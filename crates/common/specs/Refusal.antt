-- The tests before the work of a call, in the order in which the papers name them.
-- Assumes nothing.
use Rattle.std.specs.Prelude.{Bool, List, [], ◌∷◌, ℕ}
use Rattle.common.specs.Choice.{pick}

-- a test, and the number of the answer where it refuses
pub data Test : Type 0 where
  unless : Bool → ℕ → Test
  when : Bool → ℕ → Test

-- the number of the first test that refuses, and 0 where none does
abbrev pub first_due : List Test → ℕ
first_due [] = 0
first_due (unless t n ∷ ts) = pick t (first_due ts) n
first_due (when t n ∷ ts) = pick t n (first_due ts)
