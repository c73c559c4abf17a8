-- `acquisition::bit_source::bits_found` meets its contract.
-- Assumes nothing.
use mathlib.Core.Path.{refl}
use Rattle.acquisition.proofs.bit_source.bits_found.Goals as goal

pub returns : goal.returns
returns c = rw (c.turn_told.ensures, c.in_ok-given.was) refl
