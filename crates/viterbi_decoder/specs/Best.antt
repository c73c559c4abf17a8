-- The best bit sequence of a run, by any costs.
-- Clause: document 02, P1.
-- Assumes nothing.
use Rattle.std.specs.Prelude.{◌≡◌, ◌≢◌, List, ℕ, suc, ◌≤◌, length, get_or, drop}
use Rattle.convolutional_code.specs.Bits.{Bits}
use Rattle.convolutional_code.specs.Code.{memory_after}

-- where two sequences of one length differ, the first of them has 0 at the last place where they do: i is that place, since behind it they agree
unfoldable pub ZeroAtLast : List ℕ → List ℕ → Type 0
ZeroAtLast bits other = (i : ℕ) → drop (suc i) bits ≡ drop (suc i) other → get_or bits i 0 ≢ get_or other i 0 → get_or bits i 0 ≡ 0

-- bits is the best sequence of n bits: no other one costs less, and against each that costs the same it has 0 at the last place where they differ
pub record Best (cost : List ℕ → ℕ) (n : ℕ) (bits : List ℕ) : Type 0 where
  pub binary : Bits bits
  pub size : length bits ≡ n
  pub least : (other : List ℕ) → Bits other → length other ≡ n → cost bits ≤ cost other
  pub ties : (other : List ℕ) → Bits other → length other ≡ n → cost bits ≡ cost other → ZeroAtLast bits other

-- what reading a run gives: the best sequence, its cost, and the coder's memory after it
pub record Decoded (cost : List ℕ → ℕ) (n memory : ℕ) (bits : List ℕ) (total after : ℕ) : Type 0 where
  pub best : Best cost n bits
  pub costs : total ≡ cost bits
  pub ends : after ≡ memory_after memory bits
