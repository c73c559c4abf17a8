-- A stream of symbols read run after run: each run with the memory that the one before gave.
-- Clause: document 02, P1.
-- Assumes nothing.
use Rattle.std.specs.Prelude.{◌≡◌, List, [], ◌∷◌, ◌++◌, ℕ, ◌+◌, ◌%◌, ◌≤◌, length, take}
use Rattle.reader.specs.Read.{symbols_per_pattern, length_of_run, ReadsHard}

-- whole patterns, of at most 1,632 bits
pub record Run (rate : ℕ) (symbols : List ℕ) : Type 0 where
  pub whole : length symbols % symbols_per_pattern rate ≡ 0
  pub most : length_of_run rate symbols ≤ 1632

-- a history: each run is read by a call that keeps its promise and is lent room enough; bits are those that the calls wrote, one run after the other,
-- and cost is the sum of their costs
pub data Readings (rate : ℕ) : ℕ → List (List ℕ) → List ℕ → ℕ → ℕ → Type 0 where
  none : {memory : ℕ} → Readings rate memory [] [] 0 memory
  run : {memory after last : ℕ} {symbols : List ℕ} {runs : List (List ℕ)} {bits : List ℕ} {rest : ℕ} (output left : List ℕ) (number cost count : ℕ)
      → length_of_run rate symbols ≤ length output → ReadsHard rate memory symbols output number after cost count left → Readings rate after runs bits rest last
      → Readings rate memory (symbols ∷ runs) (take count left ++ bits) (cost + rest) last
