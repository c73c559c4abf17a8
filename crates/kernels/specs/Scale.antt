-- Sixteen bytes times one factor after the other.
-- Assumes nothing.
use Rattle.std.specs.Prelude.{List, [], ◌∷◌, ◌++◌, ℕ, ltb, length, take, drop}
use Rattle.common.specs.Choice.{pick}
use Rattle.galois.specs.Field256.{scaled}

-- a list times each factor
unfoldable pub scaled_by : List ℕ → List ℕ → List ℕ
scaled_by [] a = a
scaled_by (f ∷ fs) a = scaled_by fs (scaled f a)

-- the first sixteen bytes, and those beyond them as before; all as before where there are fewer
abbrev pub scale_output : List ℕ → List ℕ → List ℕ
scale_output factors lanes = pick (ltb (length lanes) 16) lanes (scaled_by factors (take 16 lanes) ++ drop 16 lanes)
