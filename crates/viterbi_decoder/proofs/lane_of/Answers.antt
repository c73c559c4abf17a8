-- `viterbi_decoder::lane_of` meets its contract.
-- Assumes nothing.
use mathlib.Core.Path.{refl}
use Rattle.viterbi_decoder.specs.Lanes.{lane}
use Rattle.viterbi_decoder.proofs.Butterfly.{lane_lt}
use Rattle.viterbi_decoder.proofs.lane_of.Goals as goal

pub returns : goal.returns
unfolding lane
returns c = (refl, lane_lt c.args.s)
