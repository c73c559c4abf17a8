-- Received symbols of any kind that leave no doubt about what was sent: hard decisions that are right, or points far enough out.
-- Clauses: document 02, P1 and P8.
-- Assumes nothing.
use Rattle.std.specs.Prelude.{◌≡◌, List, [], ◌∷◌, ℕ, ◌<◌}

-- what was received is clear about the symbol that was sent: that one costs nothing, and every other one something
pub record Clear {R : Type 0} (cost : R → ℕ → ℕ) (r : R) (sent : ℕ) : Type 0 where
  pub free_sent : cost r sent ≡ 0
  pub only : (other : ℕ) → other < 4 → cost r other ≡ 0 → other ≡ sent

-- all that was received is clear so, symbol by symbol
pub data AllClear {R : Type 0} (cost : R → ℕ → ℕ) : List R → List ℕ → Type 0 where
  none : AllClear cost [] []
  more : {r : R} {s : ℕ} {rs : List R} {ss : List ℕ} → Clear cost r s → AllClear cost rs ss → AllClear cost (r ∷ rs) (s ∷ ss)
