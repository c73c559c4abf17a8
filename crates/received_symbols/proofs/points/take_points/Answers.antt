-- `received_symbols::points::take_points` meets its contract.
-- Assumes nothing.
use mathlib.Core.Path.{refl, sym}
use Prim.Native.Nat.{◌/◌, ◌%◌, ◌≤◌}
use native.Mathlib.Omega.{arith}
use lib.ListN.{length, take}
use lib.Seq.{length-take-le}
use Rattle.reader_stream.proofs.Feeding.{room_enough}
use Rattle.received_symbols.proofs.SoftInput.{points_small, points_costed, points_taken, tail_length, tail_is}
use Rattle.received_symbols.specs.declared.SymbolPass.{SymbolPass}
use Rattle.received_symbols.proofs.points.take_points.Goals as goal

pub slice_bounds-feed-end-2 : goal.slice_bounds-feed-end-2
slice_bounds-feed-end-2 c =
    let long : length c.args.bytes.now / 8 ≤ length c.point_pairs.new.output = omega (arith, c.requires.1, c.point_pairs.auto) in
    sym (length-take-le _ _ (long))

pub feed-fed-requires : goal.feed-fed-requires
feed-fed-requires c =
    let long : length c.args.bytes.now / 8 ≤ length c.point_pairs.new.output = omega (arith, c.requires.1, c.point_pairs.auto) in
    let bytes = c.args.bytes.now in
    let pairs = c.point_pairs.new.output in
    let w = c.point_pairs.ensures in (
      c.requires.0,
      points_small bytes pairs w (long),
      c.requires.2,
      room_enough c.args.stream c.requires.0 (length (take (length bytes / 8) pairs)) (length c.args.output.now) (omega (arith, length-take-le (length bytes / 8) pairs (long), c.requires.3)),
    )

pub returns : goal.returns
returns c =
    let long : length c.args.bytes.now / 8 ≤ length c.point_pairs.new.output = omega (arith, c.requires.1, c.point_pairs.auto) in
    let p = c.put in
    let a = c.args in
    let bytes = a.bytes.now in
    let next : SymbolPass = record { stream = c.feed-fed.result.stream; tail = p.new.output; held = length bytes % 8 } in
    points_taken a.stream bytes a.output.now next _
    (points_costed bytes c.point_pairs.new.output c.point_pairs.ensures (long)) c.feed-fed.ensures
    (record {
      size = tail_length bytes _ p.new.output refl p.ensures;
      count = refl;
      bytes_are = tail_is bytes _ p.new.output refl p.ensures;
    })
