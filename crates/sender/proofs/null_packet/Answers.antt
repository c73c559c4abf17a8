-- `sender::null_packet` meets its contract.
-- Assumes nothing.
use mathlib.Core.Path.{refl}
use Rattle.sender.specs.Input.{null_packet}
use Rattle.sender.proofs.null_packet.Goals as goal

pub returns : goal.returns
unfolding null_packet
returns c = refl
