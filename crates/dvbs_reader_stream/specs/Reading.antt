-- What the code reads of the bytes of a state. The public contracts do not rest on it: they speak of the reader for which the bytes stand.
-- Assumes nothing.
use Rattle.std.specs.Prelude.{List, ℕ, ◌+◌, ◌*◌, get_or}
use Rattle.state_bytes.specs.Table.{part}
use Rattle.reader_stream.specs.declared.ReaderStream.{ReaderStream}
use Rattle.dvbs_reader_stream.specs.State.{pairs, count, rate, memory, carry, held}

-- the reader that is read, in range or not
unfoldable pub state_of : List ℕ → ReaderStream
state_of bytes = record {
  runs = record {
    rate = get_or bytes rate.offset 0;
    memory = get_or bytes memory.offset 0;
    held = part pairs bytes;
    count = get_or bytes count.offset 0 + 256 * get_or bytes (count.offset + 1) 0;
  };
  carry = get_or bytes carry.offset 0;
  held = get_or bytes held.offset 0;
}
