-- `acquisition::idle` meets its contract.
-- Assumes nothing.
use Rattle.acquisition.specs.Reading.{idle_reading}
use Rattle.block_sync.specs.declared.BlockSync.{BlockSync}
use lib.ListN.{replicate}
use mathlib.Core.Path.{ap}
use Rattle.acquisition.proofs.idle.Goals as goal

pub returns : goal.returns
unfolding idle_reading
returns c = ap (λ (s : BlockSync). record { turn = 0; runs = record { rate = 0; memory = 0; held = replicate 1632 0; count = 0 }; sync = s; first = 0; used = 0 }) c.new-sync.ensures
