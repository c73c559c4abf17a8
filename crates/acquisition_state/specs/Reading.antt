-- What the code reads of the bytes of an acquisition, in range or not.
-- Assumes nothing.
use Rattle.std.specs.Prelude.{List, ℕ, ◌+◌, ◌*◌, get_or}
use Rattle.state_bytes.specs.Table.{part}
use Rattle.reception_counts.specs.Bytes.{from_bytes}
use Rattle.acquisition.specs.declared.Acquisition.{Acquisition}
use Rattle.acquisition_state.specs.State.{plain_of, low_of, high_of, phase_of, pending, pairs, bits, held, count, gathered, came, first, used, searched, turned, rate, memory}

-- the number in two bytes
abbrev pub number_at : List ℕ → ℕ → ℕ
number_at bytes at = get_or bytes at 0 + 256 * get_or bytes (at + 1) 0

unfoldable pub state_of : List ℕ → Acquisition
state_of bytes = record {
  rate = plain_of (get_or bytes searched.offset 0);
  mirrored = low_of (get_or bytes searched.offset 0);
  phase = phase_of (high_of (get_or bytes searched.offset 0));
  reading = record {
    turn = plain_of (get_or bytes turned.offset 0);
    runs = record {
      rate = get_or bytes rate.offset 0;
      memory = get_or bytes memory.offset 0;
      held = part pairs bytes;
      count = number_at bytes count.offset;
    };
    sync = record {
      lock = record { locked = low_of (get_or bytes turned.offset 0); inverted = high_of (get_or bytes turned.offset 0) };
      bits = part bits bytes;
      held = number_at bytes gathered.offset;
    };
    first = from_bytes (part first bytes);
    used = from_bytes (part used bytes);
  };
  pending = part pending bytes;
  held = number_at bytes held.offset;
  came = from_bytes (part came bytes);
}
