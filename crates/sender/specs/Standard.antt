-- EN 300 421 and EN 301 210 as one definition over modes: the symbols on air of a whole list of transport packets.
-- Assumes nothing.
use Rattle.std.specs.Prelude.{List, ℕ}
use Rattle.puncturing.specs.Mode.{Mode}
use Rattle.inner_code.specs.Stream.{stream_symbols}
use Rattle.sent_blocks.specs.Blocks.{sent_bytes}

-- 4.4.1 and 4.4.2: the bytes of the interleaved blocks.
-- 4.4.3 and 4.5, and EN 301 210, 4.6.3: they are coded by the convolutional code, punctured and mapped to symbols as a mode of the inner
-- code says. A mode is one of six: five rates of EN 300 421, and 16QAM 3/4 of EN 301 210.
unfoldable pub on_air : Mode → List (List ℕ) → List ℕ
on_air mode packets = stream_symbols mode (sent_bytes packets)
