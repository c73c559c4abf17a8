-- `dvbs_reader_stream::pieces::feed_symbols` meets its contract.
-- Assumes nothing.
use mathlib.Core.Path.{◌≡◌, sym, ◌∙◌}
use mathlib.Core.List.{map}
use Prim.Native.Nat.{ℕ, ◌+◌, ◌-◌, ◌≤◌, ◌<◌}
use native.Mathlib.Omega.{arith}
use lib.ListN.{length, take, drop, length-map, length-replicate, length-drop}
use lib.Seq.{length-take-le}
use Rattle.reader.specs.Decisions.{hard_pair}
use Rattle.dvbs_reader_stream.proofs.Parts.{fed_none, fed_all, within, room_left, fed_more, count_within, part_valid, hard_part, hard_small}
use Rattle.dvbs_reader_stream.proofs.pieces.feed_symbols.Goals as goal

pub loop-at-init : goal.loop-at-init
loop-at-init c = (fed_none c.args.stream c.requires.0 (map hard_pair c.args.symbols.now) c.args.output.now, length-replicate {A = ℕ} 1632 0, length-replicate {A = ℕ} 1632 0)

pub overflow_add-end : goal.overflow_add-end
overflow_add-end c =
    let next : (0 < c.min-some.result) × (c.min-some.result ≤ 1632) × (c.loop-at.at + c.min-some.result ≤ length c.args.symbols.now) = (omega (arith, c.min-some.ensures), omega (arith, c.min-some.ensures), omega (arith, c.min-some.ensures)) in
    omega (arith, (next).2, c.well_formed)

pub slice_bounds-hard_pairs-end : goal.slice_bounds-hard_pairs-end
slice_bounds-hard_pairs-end c =
    let next : (0 < c.min-some.result) × (c.min-some.result ≤ 1632) × (c.loop-at.at + c.min-some.result ≤ length c.args.symbols.now) = (omega (arith, c.min-some.ensures), omega (arith, c.min-some.ensures), omega (arith, c.min-some.ensures)) in
    omega (arith, (next).2)

pub slice_bounds-hard_pairs-end-in-loop-at : goal.slice_bounds-hard_pairs-end-in-loop-at
slice_bounds-hard_pairs-end-in-loop-at c = sym c.loop-at.invariant.1

pub hard_pairs-requires : goal.hard_pairs-requires
hard_pairs-requires c =
    let next : (0 < c.min-some.result) × (c.min-some.result ≤ 1632) × (c.loop-at.at + c.min-some.result ≤ length c.args.symbols.now) = (omega (arith, c.min-some.ensures), omega (arith, c.min-some.ensures), omega (arith, c.min-some.ensures)) in
    let at = c.loop-at.at in
    let end = at + c.min-some.result in
    (part_valid at (end - at) c.args.symbols.now (omega (arith, (next).2)) c.requires.1, omega (arith, length-take-le (end - at) (drop at c.args.symbols.now) (omega (arith, length-drop at c.args.symbols.now, (next).2)), (next).1, c.loop-at.invariant.1))

pub slice_bounds-pairs-end : goal.slice_bounds-pairs-end
slice_bounds-pairs-end c =
    let next : (0 < c.min-some.result) × (c.min-some.result ≤ 1632) × (c.loop-at.at + c.min-some.result ≤ length c.args.symbols.now) = (omega (arith, c.min-some.ensures), omega (arith, c.min-some.ensures), omega (arith, c.min-some.ensures)) in
    let long : c.min-some.result ≤ length c.hard_pairs.new.output = omega (arith, (next).1, c.loop-at.invariant.1, c.hard_pairs.auto) in
    long

pub slice_bounds-feed-end : goal.slice_bounds-feed-end
slice_bounds-feed-end c =
    let next : (0 < c.min-some.result) × (c.min-some.result ≤ 1632) × (c.loop-at.at + c.min-some.result ≤ length c.args.symbols.now) = (omega (arith, c.min-some.ensures), omega (arith, c.min-some.ensures), omega (arith, c.min-some.ensures)) in
    let long : c.min-some.result ≤ length c.hard_pairs.new.output = omega (arith, (next).1, c.loop-at.invariant.1, c.hard_pairs.auto) in
    let part_size : length (take c.min-some.result c.hard_pairs.new.output) ≡ c.min-some.result = length-take-le c.min-some.result c.hard_pairs.new.output (long) in
    sym (part_size)

pub slice_bounds-feed-end-in-loop-at : goal.slice_bounds-feed-end-in-loop-at
slice_bounds-feed-end-in-loop-at c = sym c.loop-at.invariant.2

pub slice_bounds-feed-count : goal.slice_bounds-feed-count
slice_bounds-feed-count c = within c.requires.0 (omega (arith, c.requires.2, length-map c.args.symbols.now hard_pair)) c.loop-at.invariant.0

pub slice_bounds-feed-start : goal.slice_bounds-feed-start
slice_bounds-feed-start c = within c.requires.0 (omega (arith, c.requires.2, length-map c.args.symbols.now hard_pair)) c.loop-at.invariant.0

pub feed-fed-requires : goal.feed-fed-requires
feed-fed-requires c =
    let next : (0 < c.min-some.result) × (c.min-some.result ≤ 1632) × (c.loop-at.at + c.min-some.result ≤ length c.args.symbols.now) = (omega (arith, c.min-some.ensures), omega (arith, c.min-some.ensures), omega (arith, c.min-some.ensures)) in
    let long : c.min-some.result ≤ length c.hard_pairs.new.output = omega (arith, (next).1, c.loop-at.invariant.1, c.hard_pairs.auto) in
    let part_size : length (take c.min-some.result c.hard_pairs.new.output) ≡ c.min-some.result = length-take-le c.min-some.result c.hard_pairs.new.output (long) in
    let f = c.loop-at.invariant.0 in (
      f.feeds.ready,
      hard_small c.loop-at.at c.min-some.result c.hard_pairs.new.output (long) c.args.symbols.now (next).2 (c.loop-at.at + c.min-some.result - c.loop-at.at) (omega arith) c.hard_pairs.ensures c.requires.1,
      omega (arith, c.loop-at.invariant.2),
      room_left c.requires.0 (omega (arith, c.requires.2, length-map c.args.symbols.now hard_pair)) f _ (omega (arith, part_size, (next).2, length-map c.args.symbols.now hard_pair)),
    )

pub overflow_add-count : goal.overflow_add-count
overflow_add-count c = omega (arith, c.well_formed, c.loop-at.invariant.0.same, count_within c.requires.0 (omega (arith, c.requires.2, length-map c.args.symbols.now hard_pair)) c.loop-at.invariant.0 c.feed-fed.ensures c.feed-fed.auto.output)

pub loop-at-smaller : goal.loop-at-smaller
loop-at-smaller c =
    let next : (0 < c.min-some.result) × (c.min-some.result ≤ 1632) × (c.loop-at.at + c.min-some.result ≤ length c.args.symbols.now) = (omega (arith, c.min-some.ensures), omega (arith, c.min-some.ensures), omega (arith, c.min-some.ensures)) in
    let n = next in omega (arith, n.0, n.2)

pub loop-at-preserved : goal.loop-at-preserved
loop-at-preserved c =
    let next : (0 < c.min-some.result) × (c.min-some.result ≤ 1632) × (c.loop-at.at + c.min-some.result ≤ length c.args.symbols.now) = (omega (arith, c.min-some.ensures), omega (arith, c.min-some.ensures), omega (arith, c.min-some.ensures)) in
    let long : c.min-some.result ≤ length c.hard_pairs.new.output = omega (arith, (next).1, c.loop-at.invariant.1, c.hard_pairs.auto) in
    let part_is : take c.min-some.result c.hard_pairs.new.output ≡ take c.min-some.result (drop c.loop-at.at (map hard_pair c.args.symbols.now)) = hard_part c.loop-at.at c.min-some.result c.hard_pairs.new.output (long) c.args.symbols.now (next).2 (c.loop-at.at + c.min-some.result - c.loop-at.at) (omega arith) c.hard_pairs.ensures in (
      fed_more c.requires.0 (omega (arith, c.requires.2, length-map c.args.symbols.now hard_pair)) c.loop-at.invariant.0 _ c.min-some.result (part_is) (omega (arith, (next).2, length-map c.args.symbols.now hard_pair)) c.feed-fed.ensures c.feed-fed.auto.output,
      omega (arith, c.loop-at.invariant.1, c.hard_pairs.auto),
      c.feed-fed.auto.bits ∙ c.loop-at.invariant.2,
    )

pub shape_of-output : goal.shape_of-output
shape_of-output c = c.loop-at.invariant.0.same

pub returns : goal.returns
returns c = fed_all c.loop-at.invariant.0 (omega (arith, length-map c.args.symbols.now hard_pair, c.loop-at-test.false))
