-- `convolutional_code::unpack` meets its contract.
-- Assumes nothing.
use mathlib.Core.Path.{◌∙◌}
use Prim.Native.Nat.{◌+◌, ◌-◌, ◌*◌}
use native.Mathlib.Omega.{arith}
use lib.ListN.{length}
use Rattle.convolutional_code.proofs.Unpacked.{unpacked_none, unpacked_more}
use Rattle.convolutional_code.proofs.unpack.Goals as goal

pub loop-i-init : goal.loop-i-init
loop-i-init c =
    let u = c.unpack_memory in
    unpacked_none c.args.memory c.args.bytes.now _ _ u.ensures (u.auto.output ∙ c.requires.1)

pub loop-i-preserved : goal.loop-i-preserved
loop-i-preserved c =
    let l = c.loop-i in
    let u = c.unpack_byte in
    unpacked_more l.invariant _ _ (length l.history - (8 * l.i + 6)) (omega arith) u.ensures u.auto.output
