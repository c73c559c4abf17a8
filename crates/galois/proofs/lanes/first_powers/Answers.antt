-- `galois::lanes::first_powers` meets its contract.
-- Assumes nothing.
use Rattle.galois.proofs.LanePowers.{powers_first}
use Rattle.galois.proofs.lanes.first_powers.Goals as goal

pub returns : goal.returns
returns c = powers_first
