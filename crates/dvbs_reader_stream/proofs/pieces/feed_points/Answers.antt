-- `dvbs_reader_stream::pieces::feed_points` meets its contract.
-- Assumes nothing.
use mathlib.Core.Path.{◌≡◌, sym, ◌∙◌}
use mathlib.Core.List.{map}
use Prim.Native.Nat.{ℕ, ◌+◌, ◌-◌, ◌≤◌, ◌<◌}
use native.Mathlib.Omega.{arith}
use lib.ListN.{length, take, drop, length-map, length-replicate, length-drop}
use lib.Seq.{length-take-le}
use Rattle.branch_metrics.specs.Cost.{received_of}
use Rattle.branch_metrics.specs.SoftPairs.{symbol_pair}
use Rattle.branch_metrics.proofs.Runs.{length_received}
use Rattle.dvbs_reader_stream.proofs.Parts.{fed_none, fed_all, within, room_left, fed_more, count_within, soft_part, soft_small}
use Rattle.dvbs_reader_stream.proofs.pieces.feed_points.Goals as goal

pub loop-at-init : goal.loop-at-init
loop-at-init c = (fed_none c.args.stream c.requires.0 (map symbol_pair (received_of c.args.is.now c.args.qs.now c.args.lost.now)) c.args.output.now, length-replicate {A = ℕ} 1632 0, length-replicate {A = ℕ} 1632 0)

pub overflow_add-end : goal.overflow_add-end
overflow_add-end c =
    let next : (0 < c.min-some.result) × (c.min-some.result ≤ 1632) × (c.loop-at.at + c.min-some.result ≤ length c.args.is.now) = (omega (arith, c.min-some.ensures), omega (arith, c.min-some.ensures), omega (arith, c.min-some.ensures)) in
    omega (arith, (next).2, c.well_formed)

pub offset_bounds-is-at : goal.offset_bounds-is-at
offset_bounds-is-at c =
    let next : (0 < c.min-some.result) × (c.min-some.result ≤ 1632) × (c.loop-at.at + c.min-some.result ≤ length c.args.is.now) = (omega (arith, c.min-some.ensures), omega (arith, c.min-some.ensures), omega (arith, c.min-some.ensures)) in
    omega (arith, (next).2, c.well_formed)

pub slice_bounds-soft_pairs-end : goal.slice_bounds-soft_pairs-end
slice_bounds-soft_pairs-end c =
    let next : (0 < c.min-some.result) × (c.min-some.result ≤ 1632) × (c.loop-at.at + c.min-some.result ≤ length c.args.is.now) = (omega (arith, c.min-some.ensures), omega (arith, c.min-some.ensures), omega (arith, c.min-some.ensures)) in
    omega (arith, (next).2, c.requires.1, c.requires.2)

pub offset_bounds-qs-at : goal.offset_bounds-qs-at
offset_bounds-qs-at c =
    let next : (0 < c.min-some.result) × (c.min-some.result ≤ 1632) × (c.loop-at.at + c.min-some.result ≤ length c.args.is.now) = (omega (arith, c.min-some.ensures), omega (arith, c.min-some.ensures), omega (arith, c.min-some.ensures)) in
    omega (arith, (next).2, c.well_formed)

pub slice_bounds-soft_pairs-end-in-loop-at : goal.slice_bounds-soft_pairs-end-in-loop-at
slice_bounds-soft_pairs-end-in-loop-at c =
    let next : (0 < c.min-some.result) × (c.min-some.result ≤ 1632) × (c.loop-at.at + c.min-some.result ≤ length c.args.is.now) = (omega (arith, c.min-some.ensures), omega (arith, c.min-some.ensures), omega (arith, c.min-some.ensures)) in
    omega (arith, (next).2, c.requires.1, c.requires.2)

pub slice_bounds-soft_pairs-end-in-loop-at-2 : goal.slice_bounds-soft_pairs-end-in-loop-at-2
slice_bounds-soft_pairs-end-in-loop-at-2 c =
    let next : (0 < c.min-some.result) × (c.min-some.result ≤ 1632) × (c.loop-at.at + c.min-some.result ≤ length c.args.is.now) = (omega (arith, c.min-some.ensures), omega (arith, c.min-some.ensures), omega (arith, c.min-some.ensures)) in
    omega (arith, (next).2, c.requires.1, c.requires.2)

pub slice_bounds-soft_pairs-end-in-loop-at-3 : goal.slice_bounds-soft_pairs-end-in-loop-at-3
slice_bounds-soft_pairs-end-in-loop-at-3 c = sym c.loop-at.invariant.1

pub soft_pairs-requires : goal.soft_pairs-requires
soft_pairs-requires c =
    let next : (0 < c.min-some.result) × (c.min-some.result ≤ 1632) × (c.loop-at.at + c.min-some.result ≤ length c.args.is.now) = (omega (arith, c.min-some.ensures), omega (arith, c.min-some.ensures), omega (arith, c.min-some.ensures)) in
    let at = c.loop-at.at in
    let k = at + c.min-some.result - at in
    let h = (next).2 in
    let i = length-take-le k (drop at c.args.is.now) (omega (arith, length-drop at c.args.is.now)) in
    let q = length-take-le k (drop at c.args.qs.now) (omega (arith, length-drop at c.args.qs.now, c.requires.1)) in
    let l = length-take-le k (drop at c.args.lost.now) (omega (arith, length-drop at c.args.lost.now, c.requires.2)) in
    (q ∙ sym i, l ∙ sym i, omega (arith, i, (next).1, c.loop-at.invariant.1))

pub slice_bounds-pairs-end : goal.slice_bounds-pairs-end
slice_bounds-pairs-end c =
    let next : (0 < c.min-some.result) × (c.min-some.result ≤ 1632) × (c.loop-at.at + c.min-some.result ≤ length c.args.is.now) = (omega (arith, c.min-some.ensures), omega (arith, c.min-some.ensures), omega (arith, c.min-some.ensures)) in
    let long : c.min-some.result ≤ length c.soft_pairs.new.output = omega (arith, (next).1, c.loop-at.invariant.1, c.soft_pairs.auto) in
    long

pub slice_bounds-feed-end : goal.slice_bounds-feed-end
slice_bounds-feed-end c =
    let next : (0 < c.min-some.result) × (c.min-some.result ≤ 1632) × (c.loop-at.at + c.min-some.result ≤ length c.args.is.now) = (omega (arith, c.min-some.ensures), omega (arith, c.min-some.ensures), omega (arith, c.min-some.ensures)) in
    let long : c.min-some.result ≤ length c.soft_pairs.new.output = omega (arith, (next).1, c.loop-at.invariant.1, c.soft_pairs.auto) in
    let part_size : length (take c.min-some.result c.soft_pairs.new.output) ≡ c.min-some.result = length-take-le c.min-some.result c.soft_pairs.new.output (long) in
    sym (part_size)

pub slice_bounds-feed-end-in-loop-at : goal.slice_bounds-feed-end-in-loop-at
slice_bounds-feed-end-in-loop-at c = sym c.loop-at.invariant.2

pub slice_bounds-feed-count : goal.slice_bounds-feed-count
slice_bounds-feed-count c =
    let all_length : length (map symbol_pair (received_of c.args.is.now c.args.qs.now c.args.lost.now)) ≡ length c.args.is.now = length-map (received_of c.args.is.now c.args.qs.now c.args.lost.now) symbol_pair ∙ length_received c.args.is.now c.args.qs.now c.args.lost.now c.requires.1 c.requires.2 in
    within c.requires.0 (omega (arith, c.requires.3, all_length)) c.loop-at.invariant.0

pub slice_bounds-feed-start : goal.slice_bounds-feed-start
slice_bounds-feed-start c =
    let all_length : length (map symbol_pair (received_of c.args.is.now c.args.qs.now c.args.lost.now)) ≡ length c.args.is.now = length-map (received_of c.args.is.now c.args.qs.now c.args.lost.now) symbol_pair ∙ length_received c.args.is.now c.args.qs.now c.args.lost.now c.requires.1 c.requires.2 in
    within c.requires.0 (omega (arith, c.requires.3, all_length)) c.loop-at.invariant.0

pub feed-fed-requires : goal.feed-fed-requires
feed-fed-requires c =
    let all_length : length (map symbol_pair (received_of c.args.is.now c.args.qs.now c.args.lost.now)) ≡ length c.args.is.now = length-map (received_of c.args.is.now c.args.qs.now c.args.lost.now) symbol_pair ∙ length_received c.args.is.now c.args.qs.now c.args.lost.now c.requires.1 c.requires.2 in
    let next : (0 < c.min-some.result) × (c.min-some.result ≤ 1632) × (c.loop-at.at + c.min-some.result ≤ length c.args.is.now) = (omega (arith, c.min-some.ensures), omega (arith, c.min-some.ensures), omega (arith, c.min-some.ensures)) in
    let long : c.min-some.result ≤ length c.soft_pairs.new.output = omega (arith, (next).1, c.loop-at.invariant.1, c.soft_pairs.auto) in
    let part_size : length (take c.min-some.result c.soft_pairs.new.output) ≡ c.min-some.result = length-take-le c.min-some.result c.soft_pairs.new.output (long) in
    let f = c.loop-at.invariant.0 in (
      f.feeds.ready,
      soft_small c.loop-at.at c.min-some.result c.soft_pairs.new.output (long) c.args.is.now c.args.qs.now c.args.lost.now c.requires.1 c.requires.2 (next).2 (c.loop-at.at + c.min-some.result - c.loop-at.at) (omega arith) c.soft_pairs.ensures,
      omega (arith, c.loop-at.invariant.2),
      room_left c.requires.0 (omega (arith, c.requires.3, all_length)) f _ (omega (arith, part_size, (next).2, all_length)),
    )

pub overflow_add-count : goal.overflow_add-count
overflow_add-count c =
    let all_length : length (map symbol_pair (received_of c.args.is.now c.args.qs.now c.args.lost.now)) ≡ length c.args.is.now = length-map (received_of c.args.is.now c.args.qs.now c.args.lost.now) symbol_pair ∙ length_received c.args.is.now c.args.qs.now c.args.lost.now c.requires.1 c.requires.2 in
    omega (arith, c.well_formed, c.loop-at.invariant.0.same, count_within c.requires.0 (omega (arith, c.requires.3, all_length)) c.loop-at.invariant.0 c.feed-fed.ensures c.feed-fed.auto.output)

pub loop-at-smaller : goal.loop-at-smaller
loop-at-smaller c =
    let next : (0 < c.min-some.result) × (c.min-some.result ≤ 1632) × (c.loop-at.at + c.min-some.result ≤ length c.args.is.now) = (omega (arith, c.min-some.ensures), omega (arith, c.min-some.ensures), omega (arith, c.min-some.ensures)) in
    let n = next in omega (arith, n.0, n.2)

pub loop-at-preserved : goal.loop-at-preserved
loop-at-preserved c =
    let all_length : length (map symbol_pair (received_of c.args.is.now c.args.qs.now c.args.lost.now)) ≡ length c.args.is.now = length-map (received_of c.args.is.now c.args.qs.now c.args.lost.now) symbol_pair ∙ length_received c.args.is.now c.args.qs.now c.args.lost.now c.requires.1 c.requires.2 in
    let next : (0 < c.min-some.result) × (c.min-some.result ≤ 1632) × (c.loop-at.at + c.min-some.result ≤ length c.args.is.now) = (omega (arith, c.min-some.ensures), omega (arith, c.min-some.ensures), omega (arith, c.min-some.ensures)) in
    let long : c.min-some.result ≤ length c.soft_pairs.new.output = omega (arith, (next).1, c.loop-at.invariant.1, c.soft_pairs.auto) in
    let part_is : take c.min-some.result c.soft_pairs.new.output ≡ take c.min-some.result (drop c.loop-at.at (map symbol_pair (received_of c.args.is.now c.args.qs.now c.args.lost.now))) = soft_part c.loop-at.at c.min-some.result c.soft_pairs.new.output (long) c.args.is.now c.args.qs.now c.args.lost.now c.requires.1 c.requires.2 (next).2 (c.loop-at.at + c.min-some.result - c.loop-at.at) (omega arith) c.soft_pairs.ensures in (
      fed_more c.requires.0 (omega (arith, c.requires.3, all_length)) c.loop-at.invariant.0 _ c.min-some.result (part_is) (omega (arith, (next).2, all_length)) c.feed-fed.ensures c.feed-fed.auto.output,
      omega (arith, c.loop-at.invariant.1, c.soft_pairs.auto),
      c.feed-fed.auto.bits ∙ c.loop-at.invariant.2,
    )

pub shape_of-output : goal.shape_of-output
shape_of-output c = c.loop-at.invariant.0.same

pub returns : goal.returns
returns c =
    let all_length : length (map symbol_pair (received_of c.args.is.now c.args.qs.now c.args.lost.now)) ≡ length c.args.is.now = length-map (received_of c.args.is.now c.args.qs.now c.args.lost.now) symbol_pair ∙ length_received c.args.is.now c.args.qs.now c.args.lost.now c.requires.1 c.requires.2 in
    fed_all c.loop-at.invariant.0 (omega (arith, all_length, c.loop-at-test.false))
