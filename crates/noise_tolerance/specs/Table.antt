-- The noise that a reader of symbols is promised to survive, by rate: one table.
-- Assumes nothing.
use Rattle.std.specs.Prelude.{List, [], ◌∷◌, ℕ, get_or}

-- the limits of one kind of decision at a rate
pub record Limits : Type 0 where
  -- with at most so many wrong I and Q bits, or so much doubt,
  pub tolerated : ℕ
  -- in any so many symbols in a row,
  pub window : ℕ
  -- every bit is read right but the last so many;
  pub unsure : ℕ
  -- these too, where so many symbols at the end came unharmed: of a run, and of a stream
  pub quiet : ℕ
  pub quiet_stream : ℕ

abbrev pub limits : ℕ → ℕ → ℕ → ℕ → ℕ → Limits
limits t v d q s = record { tolerated = t; window = v; unsure = d; quiet = q; quiet_stream = s }

-- a rate: the free distance of its code, the fewest coded bits in which two sequences differ that part and lead to one memory; hard and soft decisions
pub record LimitRow : Type 0 where
  pub distance : ℕ
  pub hard : Limits
  pub soft : Limits

abbrev pub row : ℕ → Limits → Limits → LimitRow
row d h s = record { distance = d; hard = h; soft = s }

-- rates 1/2, 2/3, 3/4, 5/6 and 7/8
unfoldable pub table : List LimitRow
table =
    row 10 (limits 4 48 21 21 22) (limits 63 55 25 25 26)
    ∷ row 6 (limits 2 42 23 18 21) (limits 35 54 30 24 27)
    ∷ row 5 (limits 2 56 38 26 28) (limits 28 56 38 26 28)
    ∷ row 4 (limits 1 48 28 18 21) (limits 21 75 50 30 33)
    ∷ row 3 (limits 1 68 56 32 36) (limits 14 68 56 32 36)
    ∷ []

-- at another rate nothing is promised
abbrev pub none : LimitRow
none = row 0 (limits 0 0 0 0 0) (limits 0 0 0 0 0)

unfoldable pub at_rate : ℕ → LimitRow
unfolding table
at_rate rate = get_or table rate none

abbrev pub hard_limits : ℕ → Limits
hard_limits rate = (at_rate rate).hard

abbrev pub soft_limits : ℕ → Limits
soft_limits rate = (at_rate rate).soft

abbrev pub free_distance : ℕ → ℕ
free_distance rate = (at_rate rate).distance
