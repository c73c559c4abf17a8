-- The add-compare-select recursion: metrics, choices and survivors of the 64 memories after k steps.
-- Assumes nothing.
use Rattle.std.specs.Prelude.{List, [], ◌∷◌, ℕ, zero, suc, ◌+◌, ◌*◌, ◌/◌, ◌%◌, ◌<◌, ◌≤◌, ltb, eqb}
use Rattle.common.specs.Choice.{pick}
use Rattle.convolutional_code.specs.Costs.{Costs}

-- the metric at the start of a memory that is not the run's: six steps, which lead to every memory, cost at most 6 * 14
abbrev pub far : ℕ
far = 85

-- the memory before s whose oldest bit is d
abbrev pub from : ℕ → ℕ → ℕ
from s d = s % 32 * 2 + d

-- the metric of s reached from `from s d`, over metrics M and a step's costs f
unfoldable pub via : (ℕ → ℕ) → (ℕ → ℕ → ℕ) → ℕ → ℕ → ℕ
via M f s d = M (from s d) + f (from s d) (s / 32)

-- the oldest bit of the better memory before s: 0 on a tie
unfoldable pub choice : (ℕ → ℕ) → (ℕ → ℕ → ℕ) → ℕ → ℕ
choice M f s = pick (ltb (via M f s 1) (via M f s 0)) 1 0

unfoldable pub metric : Costs → ℕ → ℕ → ℕ → ℕ
metric F m zero s = pick (eqb s m) 0 far
metric F m (suc k) s = via (metric F m k) (F k) s (choice (metric F m k) (F k) s)

abbrev pub choices : Costs → ℕ → ℕ → ℕ → ℕ
choices F m k = choice (metric F m k) (F k)

-- the bits, newest first, of the path that ends in s after k steps, where `D k s` is the choice of step k
unfoldable pub path : (ℕ → ℕ → ℕ) → ℕ → ℕ → List ℕ
path D zero s = []
path D (suc k) s = s / 32 ∷ path D k (from s (D k s))

abbrev pub survivor : Costs → ℕ → ℕ → ℕ → List ℕ
survivor F m = path (choices F m)

-- of the memories below n, s is the first with the least metric
pub record FirstLeast (M : ℕ → ℕ) (n s : ℕ) : Type 0 where
  pub small : s < n
  pub least : (t : ℕ) → t < n → M s ≤ M t
  pub first : (t : ℕ) → t < s → M s < M t
