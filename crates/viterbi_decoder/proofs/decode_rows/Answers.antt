-- `viterbi_decoder::decode_rows` meets its contract.
-- Assumes nothing.
use native.Mathlib.Omega.{arith}
use Rattle.viterbi_decoder.proofs.Sweeps.{small_costs, decoded, rows_small, total_le}
use Rattle.viterbi_decoder.proofs.decode_rows.Goals as goal

pub forward-last-requires : goal.forward-last-requires
forward-last-requires c = let p = c.requires in (p.0, p.1, p.2, p.3, p.4, omega arith)

pub trace-requires : goal.trace-requires
trace-requires c =
    (omega (arith, c.forward-last.auto.rows), c.lane_of.ensures.1, rows_small c.forward-last.ensures)

pub overflow_add-result : goal.overflow_add-result
overflow_add-result c =
    let e = c.first_least-end in
    omega (
      arith,
      total_le c.forward-last.ensures (small_costs c.args.costs.now c.args.steps.now c.requires.0 c.requires.4) c.requires.2 e.result _ e.ensures.small (c.ordered-metrics.ensures e.result e.ensures.small),
    )

pub returns : goal.returns
returns c =
    let l = c.lane_of in
    let o = c.ordered-metrics in
    rw c.trace.ensures
    (decoded c.forward-last.ensures (small_costs c.args.costs.now c.args.steps.now c.requires.0 c.requires.4) c.requires.3 o.result o.ensures c.first_least-end.ensures l.result l.ensures.0)
