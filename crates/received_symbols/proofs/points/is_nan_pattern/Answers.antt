-- `received_symbols::points::is_nan_pattern` meets its contract.
-- Assumes nothing.
use Rattle.received_symbols.proofs.SoftInput.{above_infinity}
use Rattle.received_symbols.proofs.points.is_nan_pattern.Goals as goal

pub returns : goal.returns
returns c = above_infinity c.args.bits
