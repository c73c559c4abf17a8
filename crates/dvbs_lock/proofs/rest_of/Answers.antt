-- `dvbs_lock::rest_of` meets its contract.
-- Assumes nothing.
use mathlib.Core.Path.{sym, ap}
use mathlib.Core.Bool.{Bool}
use Prim.Native.Nat.{◌%◌}
use Rattle.common.specs.Choice.{pick}
use Rattle.dvbs_lock.proofs.rest_of.Goals as goal

pub returns : goal.returns
returns c =
    ap (λ (t : Bool). pick t 0 (c.args.length % 8)) (sym c.if-bits.false)
