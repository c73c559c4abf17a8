-- What the exported list of losses gives: its lines in lent numbers, and the answer's number in a lent byte.
-- Clauses: document 02, P5 and P11.
-- Assumes nothing.
use Rattle.std.specs.Prelude.{◌≡◌, List, ℕ, ◌≤◌, ◌<◌, length, set}
use Rattle.losses.specs.Run.{ListsRecording}

-- Where no byte is lent for the answer's number, nothing is done. Else r lines are at the front of the output, or the recording is refused and its
-- number alone is written.
pub data LossesExported (blocks marks lines exit answer told : List ℕ) (r : ℕ) : Type 0 where
  untold : length answer < 1 → r ≡ 0 → exit ≡ lines → told ≡ answer → LossesExported blocks marks lines exit answer told r
  listed : 1 ≤ length answer → (number : ℕ) → ListsRecording blocks marks lines number r exit → told ≡ set answer 0 number → LossesExported blocks marks lines exit answer told r
