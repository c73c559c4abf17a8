-- What the code reads of the bytes of a state. The public contracts do not rest on it: they speak of the receiver for which the bytes stand.
-- Assumes nothing.
use Rattle.std.specs.Prelude.{List, ℕ, get_or}
use Rattle.state_bytes.specs.Table.{part}
use Rattle.receiver_state.specs.Reading as receiver
use Rattle.receiver_stream.specs.declared.ReceiverStream.{ReceiverStream}
use Rattle.dvbs_receiver.specs.State.{pending, doubtful, held}

-- the receiver of pieces that is read, in range or not
unfoldable pub state_of : List ℕ → ReceiverStream
state_of bytes = record {
  receiver = receiver.state_of bytes;
  pending = part pending bytes;
  marks = part doubtful bytes;
  held = get_or bytes held.offset 0;
}
