-- `acquisition::block_found` meets its contract.
-- Assumes nothing.
use Rattle.acquisition.proofs.Numbers.{found_is}
use Rattle.acquisition.proofs.block_found.Goals as goal

pub returns : goal.returns
returns c = let a = c.args in found_is a.rate a.turn a.first a.used a.decided c.in_ok-given.was c.turn_told.ensures c.symbol_at.ensures c.symbol_at-2.ensures
