-- `dvbs_lock::numbers::put_bits` meets its contract.
-- Assumes nothing.
use mathlib.Core.Path.{◌≡◌, refl, sym, ap, ◌∙◌}
use Prim.Native.Nat.{ℕ, ◌*◌}
use native.Mathlib.Omega.{arith}
use lib.ListN.{length, take}
use lib.Seq.{take-length}
use Rattle.convolutional_code.specs.Bits.{bits_of}
use Rattle.dvbs_lock.proofs.Bits.{bits_none, bits_more}
use Rattle.dvbs_lock.proofs.numbers.put_bits.Goals as goal

pub loop-k-init : goal.loop-k-init
loop-k-init c =
    bits_none _ _

pub overflow_mul-k : goal.overflow_mul-k
overflow_mul-k c =
    omega (arith, c.loop-k-test.true, c.requires, c.loop-k.invariant.size)

pub put_byte-requires : goal.put_byte-requires
put_byte-requires c =
    omega (arith, c.loop-k-test.true, c.requires, c.loop-k.invariant.size)

pub loop-k-preserved : goal.loop-k-preserved
loop-k-preserved c =
    bits_more c.loop-k.invariant c.loop-k-test.true c.requires refl c.put_byte.ensures

pub returns : goal.returns
returns c =
    let l = c.loop-k in
    let n = c.args.bytes.now in
    let e : l.k ≡ length n = omega (arith, l.invariant.within, c.loop-k-test.false) in
    ap (λ (j : ℕ). take (8 * j) l.output) (sym e) ∙ l.invariant.bits ∙ ap bits_of (ap (λ (j : ℕ). take j n) e ∙ take-length n)
