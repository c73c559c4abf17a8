-- `dvbs_reader_stream::layout::cleared_carry` meets its contract.
-- Assumes nothing.
use mathlib.Core.Path.{ap}
use Prim.Native.Nat.{ℕ, ◌%◌}
use Rattle.dvbs_reader_stream.proofs.layout.cleared_carry.Goals as goal

pub returns : goal.returns
returns c = ap (λ (n : ℕ). c.args.carry % n) c.power_of.ensures.0
