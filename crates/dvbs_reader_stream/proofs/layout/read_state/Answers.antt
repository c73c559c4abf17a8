-- `dvbs_reader_stream::layout::read_state` meets its contract.
-- Assumes nothing.
use native.Mathlib.Omega.{arith}
use lib.ListN.{get_or}
use Rattle.dvbs_reader_stream.specs.Reading.{state_of}
use Rattle.dvbs_reader_stream.proofs.layout.read_state.Goals as goal

pub overflow_cast-bits : goal.overflow_cast-bits
overflow_cast-bits c = let h = (c.shared_slice_known-5-1.given 1637).fits in record { fits = omega (arith, h) }

pub returns : goal.returns
unfolding state_of
returns c =
    let bytes = c.args.bytes.now in
    λ i. record {
      runs = record { rate = get_or bytes 1634 0; memory = get_or bytes 1635 0; held = c.pairs_at-held.ensures i; count = c.number_at-count.ensures i };
      carry = get_or bytes 1636 0;
      held = get_or bytes 1637 0;
    }
