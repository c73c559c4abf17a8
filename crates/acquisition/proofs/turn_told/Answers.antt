-- `acquisition::turn_told` meets its contract.
-- Assumes nothing.
use Rattle.acquisition.proofs.turn_told.Goals as goal

pub returns-then-inverted : goal.returns-then-inverted
returns-then-inverted c = simp c.if-inverted.true
