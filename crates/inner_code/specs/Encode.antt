-- What each call gives: its answer, by its tests in the order of document 01, the coder, and the output.
-- Clauses: document 01, "Inner code" and "Answer numbers"; document 02, P10 and P12.
-- Assumes nothing.
use Rattle.std.specs.Prelude.{◌≡◌, Bool, List, [], ◌∷◌, ◌++◌, ℕ, ◌≤◌, ltb, eqb, length, drop, Option, None}
use Rattle.common.specs.Choice.{pick, indicator}
use Rattle.common.specs.Refusal.{unless, when, first_due}
use Rattle.puncturing.specs.Mode.{Mode, mode_of, block_bits_by}
use Rattle.puncturing.specs.Step.{count_by}
use Rattle.inner_code.specs.Converter.{encoded_bits, uncoded_numbers, sequenced}
use Rattle.inner_code.specs.Step.{in_range_by, step_by, symbol_by, symbols_by, coder_by, coder_in_range, CoderInRange}
use Rattle.inner_code.specs.declared.InnerCoder.{InnerCoder}
use Rattle.inner_code.specs.declared.Encoded.{Encoded}

-- the coder at the start of a pattern, with the memory of the bits before
abbrev pub coder_at : ℕ → ℕ → InnerCoder
coder_at rate memory = record { rate = rate; memory = memory; place = 0; held = 0 }

-- a coder at a rate, with memory, place and held bit 0
abbrev pub fresh_coder : ℕ → InnerCoder
fresh_coder rate = coder_at rate 0

-- 6 for a mode that is not sent
abbrev pub new_number : ℕ → ℕ
new_number rate = pick (mode_of rate).sent 0 6

-- ---- one bit

abbrev pub step_number : InnerCoder → ℕ
step_number c = first_due (unless (coder_in_range c) 5 ∷ unless (mode_of c.rate).sent 6 ∷ [])

abbrev pub step_coder : InnerCoder → Bool → InnerCoder
step_coder c bit = pick (eqb (step_number c) 0) (step_by (mode_of c.rate) c (indicator bit)) c

abbrev pub step_symbol : InnerCoder → Bool → Option ℕ
step_symbol c bit = pick (eqb (step_number c) 0) (symbol_by (mode_of c.rate) c (indicator bit)) None

-- ---- one block

-- the symbols of a list of bytes in a mode, and the coder after them
abbrev pub block_symbols_by : Mode → InnerCoder → List ℕ → List ℕ
block_symbols_by m c block = sequenced (uncoded_numbers m block) (symbols_by m c (encoded_bits m block))

abbrev pub block_coder_by : Mode → InnerCoder → List ℕ → InnerCoder
block_coder_by m c block = coder_by m c (encoded_bits m block)

-- the symbols of a list of blocks, each coded by a call with the coder that the call before handed back
unfoldable pub calls_by : Mode → InnerCoder → List (List ℕ) → List ℕ
calls_by m c [] = []
calls_by m c (b ∷ bs) = block_symbols_by m c b ++ calls_by m (block_coder_by m c b) bs

-- how many symbols a block of 204 bytes gives; 0 of a coder that is out of range
abbrev pub symbol_count_by : Mode → InnerCoder → ℕ
symbol_count_by m c = pick (in_range_by m c) (count_by m c.place (block_bits_by m)) 0

-- in the mode of the coder's rate
abbrev pub block_symbols : InnerCoder → List ℕ → List ℕ
block_symbols c = block_symbols_by (mode_of c.rate) c

abbrev pub block_coder : InnerCoder → List ℕ → InnerCoder
block_coder c = block_coder_by (mode_of c.rate) c

abbrev pub symbol_count : InnerCoder → ℕ
symbol_count c = symbol_count_by (mode_of c.rate) c

abbrev pub inner_encode_number : InnerCoder → List ℕ → List ℕ → ℕ
inner_encode_number c block output =
    first_due (unless (coder_in_range c) 5 ∷ unless (mode_of c.rate).sent 6
    ∷ unless (eqb (length block) 204) 3 ∷ when (ltb (length output) (length (block_symbols c block))) 4 ∷ [])

abbrev pub encode_coder : InnerCoder → List ℕ → List ℕ → InnerCoder
encode_coder c block output = pick (eqb (inner_encode_number c block output) 0) (block_coder c block) c

abbrev pub encode_count : InnerCoder → List ℕ → List ℕ → ℕ
encode_count c block output = pick (eqb (inner_encode_number c block output) 0) (length (block_symbols c block)) 0

-- the symbols, and what stood in the output beyond them
abbrev pub inner_encode_output : InnerCoder → List ℕ → List ℕ → List ℕ
inner_encode_output c block output = pick (eqb (inner_encode_number c block output) 0) (block_symbols c block ++ drop (length (block_symbols c block)) output) output

-- ---- a block that no test refuses

-- a coder in range, a whole block, and an output that is long enough
pub record Encodable (c : InnerCoder) (block output : List ℕ) : Type 0 where
  pub range : CoderInRange c
  pub size : length block ≡ 204
  pub enough : length (block_symbols c block) ≤ length output

-- what encoding it gives
pub record Encodes (c : InnerCoder) (block output : List ℕ) (r : Encoded) (exit : List ℕ) : Type 0 where
  pub coder : r.coder ≡ block_coder c block
  pub count : r.count ≡ length (block_symbols c block)
  pub written : exit ≡ block_symbols c block ++ drop (length (block_symbols c block)) output
