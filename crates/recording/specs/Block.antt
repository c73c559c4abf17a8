-- One block of a recording, corrected: document 02, P5.
-- Assumes nothing.
use Rattle.std.specs.Prelude.{◌≡◌, List, [], ◌∷◌, ◌++◌, ℕ, ◌+◌, ◌*◌, ◌/◌, ◌<◌, min, ltb, eqb, length, get_or, take, drop, Ok, Err}
use Rattle.common.specs.Refusal.{unless, when, first_due}
use Rattle.answer.specs.Number.{answered}
use Rattle.reed_solomon.specs.Code.{no_change}
use Rattle.reed_solomon.specs.Decode.{Decoded, Decodes, changed_by}
use Rattle.interleaver.specs.Gathered.{place_in, gathered}

-- how many whole blocks a recording has
abbrev pub block_count : List ℕ → ℕ
block_count bytes = length bytes / 204

-- the tests before the work, in the order of document 02; 0 where none refuses
abbrev pub block_refusal : List ℕ → ℕ → ℕ → List ℕ → ℕ
block_refusal bytes blocks p output =
    first_due (unless (eqb blocks (block_count bytes)) 5 ∷ when (ltb (min blocks 4294967295) (p + 12)) 16 ∷ when (ltb (length output) 204) 4 ∷ [])

-- the output after the work: a codeword is written to its front
abbrev pub output_with : Decoded → List ℕ → List ℕ → List ℕ
output_with (Ok changed) left output = left ++ drop 204 output
output_with (Err refusal) left output = output

-- The first test that fails is the answer, and all is as it was; or the 204 bytes gathered decode to this. Decoding is unique, so the call is decided.
pub data GivesBlock (bytes : List ℕ) (blocks p : ℕ) (output : List ℕ) (r : Decoded) (exit : List ℕ) : Type 0 where
  block_refused : 0 < block_refusal bytes blocks p output → answered r ≡ block_refusal bytes blocks p output → changed_by r ≡ no_change → exit ≡ output
      → GivesBlock bytes blocks p output r exit
  block_decoded : (left : List ℕ) → block_refusal bytes blocks p output ≡ 0 → Decodes (gathered bytes p) left r → exit ≡ output_with r left output
      → GivesBlock bytes blocks p output r exit

-- two recordings agree in the 204 bytes that block p depends on
abbrev pub Agree : List ℕ → List ℕ → ℕ → Type 0
Agree a b p = (n : ℕ) → n < 204 → get_or a (place_in p n) 0 ≡ get_or b (place_in p n) 0

-- the twelve blocks from block p on
abbrev pub part_at : List ℕ → ℕ → List ℕ
part_at bytes p = take 2448 (drop (204 * p) bytes)

-- two calls give the same answer, counts and output
pub record SameBlock (r s : Decoded) (x y : List ℕ) : Type 0 where
  pub number : answered r ≡ answered s
  pub changed : changed_by r ≡ changed_by s
  pub written : x ≡ y
