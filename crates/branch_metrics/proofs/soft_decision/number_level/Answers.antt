-- `branch_metrics::soft_decision::number_level` meets its contract.
-- Assumes nothing.
use native.Mathlib.Omega.{arith}
use lib.Ieee.{of_bits, neg}
use Rattle.branch_metrics.specs.Level.{level_of}
use Rattle.branch_metrics.proofs.soft_decision.number_level.Goals as goal

pub returns : goal.returns
unfolding level_of of_bits neg
returns c = (omega arith, omega arith)
