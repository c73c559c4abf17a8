-- `acquisition_state::flags_byte` meets its contract.
-- Assumes nothing.
use native.Mathlib.Omega.{arith}
use Rattle.acquisition_state.proofs.Table.{flag_small}
use Rattle.acquisition_state.proofs.flags_byte.Goals as goal

pub overflow_mul-result : goal.overflow_mul-result
overflow_mul-result c = omega (arith, flag_small c.args.low, flag_small c.args.high)

pub overflow_add-result : goal.overflow_add-result
overflow_add-result c = omega (arith, flag_small c.args.low, flag_small c.args.high)

pub overflow_mul-result-2 : goal.overflow_mul-result-2
overflow_mul-result-2 c = omega (arith, flag_small c.args.low, flag_small c.args.high)

pub overflow_add-result-2 : goal.overflow_add-result-2
overflow_add-result-2 c = omega (arith, flag_small c.args.low, flag_small c.args.high)

pub overflow_add-result-3 : goal.overflow_add-result-3
overflow_add-result-3 c = omega (arith, flag_small c.args.low, flag_small c.args.high)
