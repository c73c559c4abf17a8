-- `viterbi_decoder::step` meets its contract: proofs/Butterfly.antt says why the lanes are the ways into the memories.
-- Assumes nothing.
use Prim.Native.Nat.{ℕ, ◌+◌, ◌*◌, ◌%◌, ◌<◌, ◌≤◌}
use native.Mathlib.Omega.{arith}
use Rattle.convolutional_code.specs.Costs.{at}
use Rattle.viterbi_decoder.specs.Lanes.{lane, row_cost}
use Rattle.viterbi_decoder.proofs.Butterfly.{Costed, costed, Lanes, stepped, fits}
use Rattle.viterbi_decoder.proofs.step.Goals as goal

pub lesser_ways-low-requires : goal.lesser_ways-low-requires
unfolding row_cost
lesser_ways-low-requires c =
    let small : (m b : ℕ) → row_cost c.args.row.now m b ≤ 14 = λ m b. c.requires.0 ((lane m + 32 * b) % 64) (omega arith) in
    let costs : Costed (row_cost c.args.row.now) (at c.halves-costs.result.even) (at c.halves-costs.result.odd) = costed _ _ _ c.halves-costs.ensures.0 c.halves-costs.ensures.1 in
    let sums : (i : ℕ) → i < 32 → let m = c.args.metrics.now in let a = c.halves-costs.result.even in let d = c.halves-costs.result.odd in
    ((at m i + at a i < 256) × (at m (i + 32) + at d i < 256)) × ((at m i + at d i < 256) × (at m (i + 32) + at a i < 256)) = fits (costs) (small) c.args.metrics.now c.requires.1 in
    λ i h. (sums i h).0

pub lesser_ways-high-requires : goal.lesser_ways-high-requires
unfolding row_cost
lesser_ways-high-requires c =
    let small : (m b : ℕ) → row_cost c.args.row.now m b ≤ 14 = λ m b. c.requires.0 ((lane m + 32 * b) % 64) (omega arith) in
    let costs : Costed (row_cost c.args.row.now) (at c.halves-costs.result.even) (at c.halves-costs.result.odd) = costed _ _ _ c.halves-costs.ensures.0 c.halves-costs.ensures.1 in
    let sums : (i : ℕ) → i < 32 → let m = c.args.metrics.now in let a = c.halves-costs.result.even in let d = c.halves-costs.result.odd in
    ((at m i + at a i < 256) × (at m (i + 32) + at d i < 256)) × ((at m i + at d i < 256) × (at m (i + 32) + at a i < 256)) = fits (costs) (small) c.args.metrics.now c.requires.1 in
    λ i h. (sums i h).1

pub ways_chosen-low_from-requires : goal.ways_chosen-low_from-requires
unfolding row_cost
ways_chosen-low_from-requires c =
    let small : (m b : ℕ) → row_cost c.args.row.now m b ≤ 14 = λ m b. c.requires.0 ((lane m + 32 * b) % 64) (omega arith) in
    let costs : Costed (row_cost c.args.row.now) (at c.halves-costs.result.even) (at c.halves-costs.result.odd) = costed _ _ _ c.halves-costs.ensures.0 c.halves-costs.ensures.1 in
    let sums : (i : ℕ) → i < 32 → let m = c.args.metrics.now in let a = c.halves-costs.result.even in let d = c.halves-costs.result.odd in
    ((at m i + at a i < 256) × (at m (i + 32) + at d i < 256)) × ((at m i + at d i < 256) × (at m (i + 32) + at a i < 256)) = fits (costs) (small) c.args.metrics.now c.requires.1 in
    λ i h. (sums i h).0

pub ways_chosen-high_from-requires : goal.ways_chosen-high_from-requires
unfolding row_cost
ways_chosen-high_from-requires c =
    let small : (m b : ℕ) → row_cost c.args.row.now m b ≤ 14 = λ m b. c.requires.0 ((lane m + 32 * b) % 64) (omega arith) in
    let costs : Costed (row_cost c.args.row.now) (at c.halves-costs.result.even) (at c.halves-costs.result.odd) = costed _ _ _ c.halves-costs.ensures.0 c.halves-costs.ensures.1 in
    let sums : (i : ℕ) → i < 32 → let m = c.args.metrics.now in let a = c.halves-costs.result.even in let d = c.halves-costs.result.odd in
    ((at m i + at a i < 256) × (at m (i + 32) + at d i < 256)) × ((at m i + at d i < 256) × (at m (i + 32) + at a i < 256)) = fits (costs) (small) c.args.metrics.now c.requires.1 in
    λ i h. (sums i h).1

pub returns : goal.returns
returns c =
    let costs : Costed (row_cost c.args.row.now) (at c.halves-costs.result.even) (at c.halves-costs.result.odd) = costed _ _ _ c.halves-costs.ensures.0 c.halves-costs.ensures.1 in
    let lanes : Lanes c.args.metrics.now c.args.origins.now (at c.halves-costs.result.even) (at c.halves-costs.result.odd)
    c.lesser_ways-low.result c.lesser_ways-high.result c.ways_chosen-low_from.result c.ways_chosen-high_from.result = record {
      low_is = c.lesser_ways-low.ensures;
      high_is = c.lesser_ways-high.ensures;
      low_chosen = c.ways_chosen-low_from.ensures;
      high_chosen = c.ways_chosen-high_from.ensures;
    } in
    stepped _ (lanes) (costs) _ _ c.woven.ensures c.woven-2.ensures
