-- What the exported readers of a run give: the bits, and the answer, the memory after them and the cost in lent bytes.
-- Clauses: document 02, P1 and P8.
-- Assumes nothing.
use Rattle.std.specs.Prelude.{◌≡◌, List, [], ◌∷◌, ◌++◌, ℕ, ◌≤◌, ◌<◌, Float, length, drop}
use Rattle.reader.specs.Read.{ReadsHard, ReadsSoft}
use Rattle.common.specs.Bytes.{byte_at}

-- the number of the answer, the memory, and the cost in four bytes, the lowest first. A cost is at most 14 for each symbol, of which there are at most
-- 1,632.
abbrev pub result_bytes : ℕ → ℕ → ℕ → List ℕ
result_bytes number memory cost = number ∷ memory ∷ byte_at 0 cost ∷ byte_at 1 cost ∷ byte_at 2 cost ∷ byte_at 3 cost ∷ []

-- Where fewer than six bytes are lent for the result, nothing is read and nothing is written. Else the run is answered as the reader promises,
-- and the result says how.
pub data ReadExported (Promised : ℕ → ℕ → ℕ → ℕ → List ℕ → Type 0) (output exit result left : List ℕ) (r : ℕ) : Type 0 where
  result_short : length result < 6 → r ≡ 0 → exit ≡ output → left ≡ result → ReadExported Promised output exit result left r
  answered : 6 ≤ length result → (number after cost : ℕ) → Promised number after cost r exit → left ≡ result_bytes number after cost ++ drop 6 result
      → ReadExported Promised output exit result left r

-- by hard decisions
abbrev pub ReadRunExported : ℕ → ℕ → List ℕ → List ℕ → List ℕ → List ℕ → List ℕ → ℕ → Type 0
ReadRunExported rate memory symbols output = ReadExported (ReadsHard rate memory symbols output) output

-- by soft decisions
abbrev pub SoftRunExported : ℕ → ℕ → List Float → List Float → List ℕ → List ℕ → List ℕ → List ℕ → List ℕ → ℕ → Type 0
SoftRunExported rate memory is qs lost output = ReadExported (ReadsSoft rate memory is qs lost output) output
