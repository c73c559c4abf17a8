-- `receiver_state::read_state` meets its contract.
-- Assumes nothing.
use lib.ListN.{get_or}
use Rattle.receiver_state.specs.Reading.{state_of}
use Rattle.receiver_state.proofs.read_state.Goals as goal

pub returns : goal.returns
unfolding state_of
returns c =
    let bytes = c.args.bytes.now in
    λ i. record {
      deinterleaver = record { branches = record { cells = c.array_at.ensures i; positions = c.array_at-2.ensures i } };
      marks = c.array_at-3.ensures i;
      sync = record { place = c.place_of.ensures i; missed = get_or bytes 1135 0 };
      counts = c.counts_at.ensures i;
    }
