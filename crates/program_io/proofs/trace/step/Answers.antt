-- `program_io::trace::step` meets its contract.
-- Assumes nothing.
use Rattle.std.proofs.Common.{◌*◌, ◌≤◌, mul-le-mul, arith}
use Rattle.program_io.specs.Checksum.{stepped}
use Rattle.program_io.proofs.trace.step.Goals as goal

pub overflow_mul-product : goal.overflow_mul-product
overflow_mul-product c =
    let a = c.args in
    let h : a.trace.weight * a.byte ≤ 65535 * 255 = mul-le-mul {n₂ = 65535} {m₂ = 255} (omega arith) (omega arith) in
    omega (arith, h)

pub returns : goal.returns
unfolding stepped
returns c = cc
