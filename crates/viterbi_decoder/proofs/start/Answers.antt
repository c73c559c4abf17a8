-- `viterbi_decoder::start` meets its contract.
-- Assumes nothing.
use Rattle.viterbi_decoder.proofs.Sweeps.{started}
use Rattle.viterbi_decoder.proofs.start.Goals as goal

pub returns : goal.returns
returns c = λ s h. started c.args.memory c.lane_of.result s c.requires c.lane_of.ensures.0 h
