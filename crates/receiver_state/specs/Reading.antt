-- What the code reads of the bytes of a state. The public contracts do not rest on it: they speak of the receiver for which the bytes stand.
-- Assumes nothing.
use Rattle.std.specs.Prelude.{List, ℕ, eqb, get_or, Option, Some, None}
use Rattle.common.specs.Choice.{pick}
use Rattle.state_bytes.specs.Table.{part}
use Rattle.reception_counts.specs.Bytes.{counts_at}
use Rattle.receiver.specs.declared.Receiver.{Receiver}
use Rattle.receiver_state.specs.State.{cells, positions, place, missed, counts, marks}

abbrev pub place_of : ℕ → Option ℕ
place_of byte = pick (eqb byte 8) None (Some byte)

-- the receiver that is read, in range or not
unfoldable pub state_of : List ℕ → Receiver
state_of bytes = record {
  deinterleaver = record { branches = record { cells = part cells bytes; positions = part positions bytes } };
  marks = part marks bytes;
  sync = record { place = place_of (get_or bytes place.offset 0); missed = get_or bytes missed.offset 0 };
  counts = counts_at bytes counts.offset;
}
