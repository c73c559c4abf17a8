-- What the steps of the decoder give: metrics less an offset, one to a byte, and the lanes that they come from, a row of 64 for each block of six steps.
-- Assumes nothing.
use Rattle.std.specs.Prelude.{◌≡◌, List, [], ◌∷◌, ◌++◌, ℕ, zero, suc, ◌+◌, ◌*◌, ◌/◌, ◌%◌, ◌≤◌, ◌<◌, ltb, length, get_or}
use Rattle.common.specs.Choice.{pick}
use Rattle.convolutional_code.specs.Costs.{Costs, at, decision_cost}
use Rattle.viterbi_decoder.specs.Metric.{from, via, choice, metric, choices}

-- the lane of a memory: its six bits in the other order, so that the newest one counts 1
unfoldable pub lane : ℕ → ℕ
lane s = s % 2 * 32 + s / 2 % 2 * 16 + s / 4 % 2 * 8 + s / 8 % 2 * 4 + s / 16 % 2 * 2 + s / 32 % 2

-- the number that a memory has in a list of lanes
abbrev pub held : List ℕ → ℕ → ℕ
held l s = at l (lane s)

-- row d has what a coded bit of each of 64 lanes costs by decision d
pub record CostRows (bit : ℕ → ℕ) (rows : List (List ℕ)) : Type 0 where
  pub size : length rows ≡ 9
  pub cost : (d : ℕ) → d < 9 → (i : ℕ) → i < 64 → at (get_or rows d []) i ≡ decision_cost d (bit i)

-- row 9 x + y has the sums of row x and row y
pub record SumRows (xs ys rows : List (List ℕ)) : Type 0 where
  pub size : length rows ≡ 81
  pub sum : (n : ℕ) → n < 81 → (i : ℕ) → i < 64 → at (get_or rows n []) i ≡ at (get_or xs (n / 9) []) i + at (get_or ys (n % 9) []) i

-- every cost of 81 rows is at most 14
abbrev pub Bounded : List (List ℕ) → Type 0
Bounded rows = (n : ℕ) → n < 81 → (i : ℕ) → i < 64 → at (get_or rows n []) i ≤ 14

-- what bit b costs out of memory s, by a row of what bit 0 costs out of each lane: bit 1 costs out of a memory what bit 0 costs out of the one beside it
unfoldable pub row_cost : List ℕ → ℕ → ℕ → ℕ
row_cost row s b = at row ((lane s + 32 * b) % 64)

unfoldable pub row_costs : List (List ℕ) → List ℕ → Costs
row_costs rows steps k = row_cost (get_or rows (at steps k) [])

-- the lesser of two numbers, and what belongs to it
abbrev pub lesser : ℕ → ℕ → ℕ
lesser a b = pick (ltb b a) b a

abbrev pub chosen : ℕ → ℕ → ℕ → ℕ → ℕ
chosen a b p q = pick (ltb b a) q p

-- the metrics after a step, and what each lane takes over from the lane that it comes from
pub record Stepped (M : ℕ → ℕ) (f : ℕ → ℕ → ℕ) (before next after : List ℕ) : Type 0 where
  pub metrics : (s : ℕ) → s < 64 → held next s ≡ via M f s (choice M f s)
  pub taken : (s : ℕ) → s < 64 → held after s ≡ held before (from s (choice M f s))

-- the memory before the first j of some steps of the path that is in s after them, where `D i s` is the choice of step i
unfoldable pub origin : (ℕ → ℕ → ℕ) → ℕ → ℕ → ℕ
origin D zero s = s
origin D (suc j) s = origin D j (from s (D j s))

-- the metrics after k steps less an offset
abbrev pub Metrics : Costs → ℕ → ℕ → ℕ → List ℕ → Type 0
Metrics F m k offset metrics = (s : ℕ) → s < 64 → held metrics s + offset ≡ metric F m k s

-- the lane of each memory's origin, n steps before step k + n
abbrev pub Origins : Costs → ℕ → ℕ → ℕ → (ℕ → ℕ) → Type 0
Origins F m k n row = (s : ℕ) → s < 64 → row (lane s) ≡ lane (origin (λ i. choices F m (k + i)) n s)

-- n steps from step k on take the metrics of any run from what they are before these steps to what they are after them, and give the origins
pub record Carried (F : Costs) (k n : ℕ) (before after origins : List ℕ) : Type 0 where
  pub metrics_are : (m offset : ℕ) → Metrics F m k offset before → Metrics F m (k + n) offset after
  pub origins_are : (m offset : ℕ) → Metrics F m k offset before → Origins F m k n (at origins)

-- after n steps: the metrics less the offset, and a row of origins for each whole block of six steps, the last of which ends there
pub record Forward (F : Costs) (m n : ℕ) (metrics : List ℕ) (offset : ℕ) (rows : List ℕ) : Type 0 where
  pub metrics_are : Metrics F m n offset metrics
  pub origins_are : (b : ℕ) → b < n / 6 → Origins F m (n % 6 + 6 * b) 6 (λ r. at rows (64 * b + r))

-- the n low bits of a number, the lowest first
unfoldable pub low : ℕ → ℕ → List ℕ
low zero r = []
low (suc n) r = r % 2 ∷ low n (r / 2)

-- the bits, newest first, that b rows of origins and the bits before them give from lane r back
unfoldable pub traced : List ℕ → ℕ → ℕ → ℕ → List ℕ
traced rows rest zero r = low rest r
traced rows rest (suc b) r = low 6 r ++ traced rows rest b (at rows (64 * b + r))
