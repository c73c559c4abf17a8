-- `reader_stream::symbol_runs::open` meets its contract.
-- Assumes nothing.
use mathlib.Core.Path.{refl}
use native.Mathlib.Omega.{arith}
use Rattle.reader_stream.proofs.Runs.{numbers}
use Rattle.reader_stream.proofs.symbol_runs.open.Goals as goal

pub returns : goal.returns
returns c =
    let n = numbers c.args.rate c.requires in (
      record { known = c.requires; in_range_lem = omega arith; size = refl; below = omega (arith, n.kept_some, n.kept_fewer); small = tt },
      record { rate_is = refl; memory_is = refl; held_is = refl },
    )
