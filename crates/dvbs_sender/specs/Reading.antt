-- What the code reads of the bytes of a state. The public contracts do not rest on it: they speak of the sender for which the bytes stand.
-- Assumes nothing.
use Rattle.std.specs.Prelude.{List, ℕ, get_or}
use Rattle.state_bytes.specs.Table.{Field, part}
use Rattle.sender.specs.declared.Sender.{Sender}
use Rattle.dvbs_sender.specs.State.{cells, positions, place, mode, memory, pattern, held}

-- the byte of a field that has one
abbrev pub byte_of : Field Sender → List ℕ → ℕ
byte_of f bytes = get_or bytes f.offset 0

-- the sender that is read, in range or not
unfoldable pub state_of : List ℕ → Sender
state_of bytes = record {
  place = byte_of place bytes;
  interleaver = record { branches = record { cells = part cells bytes; positions = part positions bytes } };
  coder = record { rate = byte_of mode bytes; memory = byte_of memory bytes; place = byte_of pattern bytes; held = byte_of held bytes };
}
