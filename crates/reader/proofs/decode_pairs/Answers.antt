-- `reader::decode_pairs` meets its contract.
-- Assumes nothing.
use Prim.Native.Nat.{◌-◌}
use native.Mathlib.Omega.{arith}
use lib.ListN.{length-take}
use Rattle.puncturing.proofs.Steps.{some_bits}
use Rattle.puncturing.proofs.Places.{up, length_le}
use Rattle.reader.proofs.Reading.{all_pairs, enough, steps_pairs, read_out}
use Rattle.reader.proofs.decode_pairs.Goals as goal

pub spread_pairs-requires : goal.spread_pairs-requires
spread_pairs-requires c =
    let p = c.pattern_length.ensures in (
      c.requires.0.known,
      p,
      rw p (some_bits c.args.rate c.requires.0.known),
      rw p (length_le c.args.rate (up c.args.rate c.requires.0.known)),
      enough c.requires.0 c.args.count c.requires.1,
      omega (arith, c.requires.0.most, c.requires.1),
      all_pairs c.args.pairs.now c.requires.0.small,
    )

pub decode-requires : goal.decode-requires
decode-requires c =
    let s = c.spread_pairs in
    let steps = s.new.output in (
      omega (arith, length-take (c.args.count - 0) c.args.output.now, length-take (c.args.count - 0) steps, s.ensures.0, c.requires.0.most, c.requires.1),
      omega (arith, length-take (c.args.count - 0) c.args.output.now, c.requires.0.most, c.requires.1),
      c.requires.0.in_range_lem,
      steps_pairs c.requires.0 c.args.count c.requires.1 steps (omega (arith, s.ensures.0, c.requires.0.most, c.requires.1)) s.ensures.1,
    )

pub returns : goal.returns
returns c =
    let s = c.spread_pairs in
    read_out c.requires.0 c.args.count c.requires.1 s.new.output (omega (arith, s.ensures.0, c.requires.0.most, c.requires.1)) s.ensures.1
    c.decode.new.output c.decode.ensures (c.args.count - 0) (omega arith)
