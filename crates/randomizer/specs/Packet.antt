-- What one call gives for a packet at a place of its group of eight: 0 to 7, document 01's group place.
-- Clauses: document 01, "Randomizing" and "Answer numbers".
-- Assumes nothing.
use mathlib.Core.List.{List, [], ◌∷◌, ◌++◌, zip_with}
use Rattle.std.specs.Prelude.{ℕ, ◌*◌, ltb, eqb, length, get_or, drop}
use Rattle.std.specs.Int.Bits.{bit_xor}
use Rattle.common.specs.Choice.{pick}
use Rattle.common.specs.Refusal.{unless, when, first_due}
use Rattle.randomizer.specs.Prbs.{masks}

-- each byte of the packet xored with what its place in the group asks
unfoldable pub randomized : ℕ → List ℕ → List ℕ
unfolding zip_with
randomized place packet = zip_with bit_xor packet (drop (188 * place) masks)

-- the same, with the sync byte 47 hex first, whatever came
unfoldable pub derandomized : ℕ → List ℕ → List ℕ
unfolding randomized
derandomized place packet = 0x47 ∷ drop 1 (randomized place packet)

-- the number of the answer, by the tests in the order of document 01
abbrev pub randomize_number : ℕ → List ℕ → List ℕ → ℕ
randomize_number place packet output =
    first_due (when (ltb 7 place) 5 ∷ unless (eqb (length packet) 188) 1 ∷ unless (eqb (get_or packet 0 0) 0x47) 2 ∷ when (ltb (length output) 188) 4 ∷ [])

abbrev pub derandomize_number : ℕ → List ℕ → List ℕ → ℕ
derandomize_number place packet output = first_due (when (ltb 7 place) 5 ∷ unless (eqb (length packet) 188) 1 ∷ when (ltb (length output) 188) 4 ∷ [])

-- the output after the call
abbrev pub randomize_output : ℕ → List ℕ → List ℕ → List ℕ
randomize_output place packet output =
    pick (eqb (randomize_number place packet output) 0) (randomized place packet ++ drop 188 output) output

abbrev pub derandomize_output : ℕ → List ℕ → List ℕ → List ℕ
derandomize_output place packet output =
    pick (eqb (derandomize_number place packet output) 0) (derandomized place packet ++ drop 188 output) output
