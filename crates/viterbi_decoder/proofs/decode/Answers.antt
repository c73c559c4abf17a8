-- `viterbi_decoder::decode` meets its contract.
-- Assumes nothing.
use mathlib.Core.Path.{refl}
use Rattle.convolutional_code.specs.Costs.{step_costs}
use Rattle.viterbi_decoder.specs.Lanes.{row_costs}
use Rattle.viterbi_decoder.proofs.Butterfly.{sums_fit, rows_bounded, row_cost_lem}
use Rattle.viterbi_decoder.proofs.Sweeps.{decoded_by}
use Rattle.viterbi_decoder.proofs.decode.Goals as goal

pub write_sums-requires : goal.write_sums-requires
write_sums-requires c = (refl, sums_fit c.write_costs.ensures c.write_costs-2.ensures)

pub decode_rows-requires : goal.decode_rows-requires
decode_rows-requires c =
    let p = c.requires in
    (rows_bounded c.write_costs.ensures c.write_costs-2.ensures c.write_sums.ensures, p.0, p.1, p.2, p.3)

pub returns : goal.returns
unfolding step_costs row_costs
returns c =
    let p = c.requires in
    decoded_by _ _ (λ k s b. row_cost_lem c.write_costs.ensures c.write_costs-2.ensures c.write_sums.ensures _ (p.3 k) s b) _ _ p.2 c.decode_rows.ensures
