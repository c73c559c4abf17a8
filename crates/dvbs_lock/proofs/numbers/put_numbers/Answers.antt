-- `dvbs_lock::numbers::put_numbers` meets its contract.
-- Assumes nothing.
use mathlib.Core.Path.{sym, ap, ◌∙◌}
use mathlib.Core.Bool.{Bool}
use Prim.Native.Nat.{◌/◌, ◌≤◌}
use native.Mathlib.Omega.{arith}
use lib.ListN.{length}
use Rattle.convolutional_code.proofs.Bits.{length_bits}
use Rattle.received_symbols.proofs.SoftInput.{pairs_are, pairs_length}
use Rattle.dvbs_lock.specs.Numbers.{numbers_of}
use Rattle.dvbs_lock.proofs.NumberLaws.{size_fits, size_bits}
use Rattle.dvbs_lock.proofs.numbers.put_numbers.Goals as goal

pub put_bits-requires : goal.put_bits-requires
put_bits-requires c =
    omega (arith, c.requires.0, c.requires.1, size_bits c.if-bits.true)

pub overflow_mul-result : goal.overflow_mul-result
overflow_mul-result c =
    omega (arith, c.requires.0, size_bits c.if-bits.true)

pub returns-then-bits : goal.returns-then-bits
returns-then-bits c =
    let n = c.args.bytes.now in
    let e = ap (λ (t : Bool). numbers_of t n) (sym c.if-bits.true) in
    record {
      numbers_are = c.put_bits.ensures ∙ e;
      counted = sym (length_bits n) ∙ ap length e;
      few = omega (arith, c.requires.0, size_bits c.if-bits.true);
    }

pub point_pairs-requires : goal.point_pairs-requires
point_pairs-requires c =
    (omega arith, omega (arith, c.requires.0, c.requires.1, size_fits c.args.bits))

pub returns : goal.returns
returns c =
    let n = c.args.bytes.now in
    let p = c.point_pairs in
    let e = ap (λ (t : Bool). numbers_of t n) (sym c.if-bits.false) in
    let long : length n / 8 ≤ length p.new.output = omega (arith, c.requires.0, c.requires.1, p.auto.output, size_fits c.args.bits) in
    record {
      numbers_are = pairs_are n p.new.output p.ensures long ∙ e;
      counted = sym (pairs_length n) ∙ ap length e;
      few = omega (arith, c.requires.0, size_fits c.args.bits);
    }
