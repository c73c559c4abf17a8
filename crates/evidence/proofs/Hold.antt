-- Every row of the table holds: the equalities by computation, and one block is no codeword.
-- Assumes nothing.
use mathlib.Core.Path.{◌≡◌, refl, ap, ◌∙◌}
use mathlib.Core.List.{List, ◌++◌, flatten, zip_with}
use Prim.Native.Nat.{ℕ}
use Prim.{tt}
use native.Mathlib.Omega.{arith}
use lib.ListN.{get_or}
use Rattle.common.specs.Lists.{All, list_of, chunks, chunks_of}
use Rattle.common.proofs.Entries.{bytes_of, every_byte}
use Rattle.algebra.specs.Polynomial.{power, plus, scale, product}
use Rattle.galois.specs.Field256.{times_x, rounds, mul}
use Rattle.reed_solomon.specs.Code as code
use Rattle.reed_solomon.specs.Encode.{generator_tail, divided, remainder_from, check_bytes, encoded}
use Rattle.reed_solomon.proofs.LongDivision.{encoded_only}
use Rattle.randomizer.specs.Prbs.{loaded, output_bit, stepped, steps, step_bits, sequence, period, enabled, masks}
use Rattle.randomizer.specs.Packet.{randomized}
use Rattle.interleaver.specs.Branch.{base_of, queue}
use Rattle.interleaver.specs.Column.{column}
use Rattle.interleaver.specs.Block.{fresh, leaving, block_out}
use Rattle.convolutional_code.specs.Bits.{bits_of}
use Rattle.puncturing.specs.Mode.{modes, mode_of}
use Rattle.puncturing.specs.Step.{punctured_by, held_by}
use Rattle.inner_code.specs.Converter.{encoded_bits, uncoded_numbers, sequenced}
use Rattle.inner_code.specs.Stream.{symbols_after, symbols, stream_symbols}
use Rattle.inner_code.specs.Step.{coder_by}
use Rattle.evidence.specs.Table.{Holds, unit, coefficients, damaged, cases}

-- the check bytes of the message 1
unit_coded : check_bytes unit ≡ coefficients
unfolding power plus scale product times_x rounds mul code.factors code.generator generator_tail divided remainder_from check_bytes
unit_coded = refl

-- The damaged block begins with the message, and the only codeword that does ends in 3B.
damaged_no_codeword : code.Codeword damaged → ⊥
damaged_no_codeword c =
    let e : damaged ≡ encoded unit = encoded_only unit refl (bytes_of unit (every_byte unit tt)) damaged c refl in
    let f : ◌≡◌ {A = ℕ} 0x00 0x3B = ap (λ (l : List ℕ). get_or l 203 0) e ∙ ap (λ (l : List ℕ). get_or (unit ++ l) 203 0) unit_coded in
    omega arith

-- every row of the table holds
pub cases_hold : All Holds cases
unfolding list_of power plus scale product times_x rounds mul loaded output_bit stepped steps step_bits sequence period enabled masks randomized zip_with code.factors code.generator generator_tail divided remainder_from check_bytes base_of queue column fresh leaving block_out modes mode_of bits_of symbols_after symbols punctured_by held_by coder_by flatten chunks chunks_of encoded_bits uncoded_numbers sequenced stream_symbols
cases_hold = (refl, (refl, (refl, (refl, (refl, (unit_coded, (damaged_no_codeword, (refl, (refl, (refl, (refl, (refl, (refl, (refl, (refl, (refl, tt))))))))))))))))
