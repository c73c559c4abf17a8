-- `received_symbols::points::number_of` meets its contract.
-- Assumes nothing.
use mathlib.Core.Path.{sym, ◌∙◌}
use lib.Ieee.{of_bits, div, binary32, nan_bits}
use Rattle.received_symbols.proofs.SoftInput.{nan_pattern, no_nan}
use Rattle.received_symbols.proofs.points.number_of.Goals as goal

pub returns-then-is_nan_pattern : goal.returns-then-is_nan_pattern
unfolding of_bits div
returns-then-is_nan_pattern c = sym (nan_pattern c.args.bits (sym c.is_nan_pattern.ensures ∙ c.if-is_nan_pattern.true))

pub float_from_bits-result : goal.float_from_bits-result
float_from_bits-result c = no_nan (nan_bits binary32 c.args.bits) (sym c.is_nan_pattern.ensures ∙ c.if-is_nan_pattern.false)
