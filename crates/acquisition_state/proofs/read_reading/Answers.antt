-- `acquisition_state::read_reading` meets its contract.
-- Assumes nothing.
use lib.ListN.{get_or}
use Rattle.acquisition_state.specs.Reading.{state_of}
use Rattle.acquisition_state.proofs.read_reading.Goals as goal

pub returns : goal.returns
unfolding state_of
returns c =
    let bytes = c.args.bytes.now in
    λ i. record {
      turn = c.plain_of.ensures i;
      runs = record { rate = get_or bytes 13786 0; memory = get_or bytes 13787 0; held = c.pairs_at-held.ensures i; count = c.number_at-count.ensures i };
      sync = record { lock = record { locked = c.low_of.ensures i; inverted = c.high_of.ensures i }; bits = c.array_at-bits.ensures i; held = c.number_at-gathered.ensures i };
      first = c.number_at-first.ensures i;
      used = c.number_at-used.ensures i;
    }
