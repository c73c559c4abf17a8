-- `inner_code::grouped::encoded_bytes` meets its contract.
-- Assumes nothing.
use mathlib.Core.Path.{sym}
use Prim.Native.Nat.{◌<◌}
use native.Mathlib.Omega.{arith}
use lib.ListN.{length}
use Rattle.common.proofs.Written.{written_none, written_next}
use Rattle.inner_code.proofs.Groups.{length_firsts, firsts_at}
use Rattle.inner_code.proofs.grouped.encoded_bytes.Goals as goal

pub loop-i-init : goal.loop-i-init
loop-i-init c = written_none (omega (arith, length_firsts c.args.size (length c.args.bytes.now) c.args.block.now))

pub loop-i-preserved : goal.loop-i-preserved
loop-i-preserved c =
    let l = c.loop-i in
    let n = length c.args.bytes.now in
    let block = c.args.block.now in
    let h : l.i < n = omega arith in
    written_next l.invariant _ (omega (arith, length_firsts c.args.size n block)) (sym (firsts_at c.args.size n block l.i h))
