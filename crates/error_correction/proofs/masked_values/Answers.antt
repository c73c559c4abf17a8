-- `error_correction::masked_values` meets its contract.
-- Assumes nothing.
use Rattle.std.proofs.Common.{rules}
use Rattle.error_correction.proofs.masked_values.Goals as goal

pub returns : goal.returns
returns c = record { each = λ j h. search (rules, c.array_of.ensures j h) }
