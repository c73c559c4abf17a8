-- `dvbs_sender::layout::read_state` meets its contract.
-- Assumes nothing.
use lib.ListN.{get_or}
use Rattle.dvbs_sender.specs.Reading.{state_of}
use Rattle.dvbs_sender.proofs.layout.read_state.Goals as goal

pub returns : goal.returns
unfolding state_of
returns c =
    let bytes = c.args.bytes.now in
    λ i. record {
      place = get_or bytes 1134 0;
      interleaver = record { branches = record { cells = c.array_at-cells.ensures i; positions = c.array_at-positions.ensures i } };
      coder = record { rate = get_or bytes 1135 0; memory = get_or bytes 1136 0; place = get_or bytes 1137 0; held = get_or bytes 1138 0 };
    }
