-- `interleaver::branches::Branches::new` meets its contract.
-- Assumes nothing.
use mathlib.Core.Path.{refl}
use Rattle.interleaver.specs.Block.{fresh}
use Rattle.interleaver.proofs.branches.Branches.new.Goals as goal

pub returns : goal.returns
unfolding fresh
returns c = refl
