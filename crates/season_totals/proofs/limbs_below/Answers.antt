-- `season_totals::limbs_below` meets its contract.
-- Assumes nothing.
use mathlib.Core.Path.{sym}
use Prim.Native.Nat.{◌+◌, ◌*◌}
use native.Mathlib.Nat.{le_of_lt}
use native.Mathlib.Omega.{arith}
use borrow.Author.Tests.{lt-ltb, le-ltb}
use Rattle.season_totals.proofs.Products.{low_limbs, high_limbs}
use Rattle.season_totals.proofs.limbs_below.Goals as goal

pub returns-then-high-top : goal.returns-then-high-top
returns-then-high-top c = sym (lt-ltb (c.args.low + 18446744073709551616 * c.args.high) (c.args.bottom + 18446744073709551616 * c.args.top) (high_limbs c.args.low c.args.bottom c.args.high c.args.top c.ranges.low.fits c.if-high-top.true))

pub returns-then-top-high : goal.returns-then-top-high
returns-then-top-high c = sym (le-ltb (c.args.low + 18446744073709551616 * c.args.high) (c.args.bottom + 18446744073709551616 * c.args.top) (le_of_lt (high_limbs c.args.bottom c.args.low c.args.top c.args.high c.ranges.bottom.fits c.if-top-high.true)))

pub returns : goal.returns
returns c = low_limbs c.args.low c.args.bottom c.args.high c.args.top (omega arith)
