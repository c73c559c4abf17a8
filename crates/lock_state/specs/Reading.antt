-- What the code reads of the bytes of a state. The public contracts do not rest on it: they speak of the lock for which the bytes stand.
-- Assumes nothing.
use Rattle.std.specs.Prelude.{false, List, ℕ, get_or}
use Rattle.state_bytes.specs.Table.{part}
use Rattle.reception_counts.specs.Bytes.{from_bytes}
use Rattle.receiver_state.specs.Reading as receiver
use Rattle.acquisition_state.specs.Reading as acquisition
use Rattle.acquisition_state.specs.State.{plain_of, low_of, high_of}
use Rattle.lock_stream.specs.declared.LockStream.{LockStream}
use Rattle.lock_state.specs.State.{certainty_of, skipped, end, certain, packets}

-- the lock that is read, in range or not
unfoldable pub state_of : List ℕ → LockStream
state_of bytes = record {
  source = record { bits = false; symbols = acquisition.state_of bytes };
  progress = record {
    found = low_of (get_or bytes certain.offset 0);
    locked = high_of (get_or bytes certain.offset 0);
    receiver = record {
      receiver = receiver.state_of bytes;
      certainty = certainty_of (plain_of (get_or bytes certain.offset 0));
      packets = part packets bytes;
    };
    skipped = from_bytes (part skipped bytes);
    end = from_bytes (part end bytes);
  };
}
