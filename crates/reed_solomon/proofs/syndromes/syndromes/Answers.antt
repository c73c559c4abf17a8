-- `reed_solomon::syndromes::syndromes` meets its contract.
-- Assumes nothing.
use Rattle.reed_solomon.proofs.Residue.{syndromes_of}
use Rattle.reed_solomon.proofs.syndromes.syndromes.Goals as goal

pub returns : goal.returns
returns c = syndromes_of _ _ _ _ c.reversed-q.ensures c.first_powers.ensures c.evaluate.ensures
