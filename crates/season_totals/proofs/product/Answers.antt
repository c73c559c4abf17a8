-- `season_totals::product` meets its contract.
-- Assumes nothing.
use Prim.Native.Nat.{ℕ, ◌+◌, ◌*◌, ◌/◌, ◌%◌, ◌<◌}
use native.Mathlib.Omega.{arith}
use Rattle.season_totals.proofs.Products.{Halves, halves, product_halves, high_fits}
use Rattle.season_totals.proofs.product.Goals as goal

pub overflow_mul-low : goal.overflow_mul-low
overflow_mul-low c =
    let bounds : Halves c.args.a c.args.b = halves c.args.a c.args.b (omega arith) (omega arith) in
    let h = bounds in omega (arith, h.low)

pub overflow_mul-middle : goal.overflow_mul-middle
overflow_mul-middle c =
    let bounds : Halves c.args.a c.args.b = halves c.args.a c.args.b (omega arith) (omega arith) in
    let h = bounds in omega (arith, h.middle)

pub overflow_add-middle : goal.overflow_add-middle
overflow_add-middle c =
    let bounds : Halves c.args.a c.args.b = halves c.args.a c.args.b (omega arith) (omega arith) in
    let h = bounds in omega (arith, h.low, h.middle)

pub overflow_mul-other : goal.overflow_mul-other
overflow_mul-other c =
    let bounds : Halves c.args.a c.args.b = halves c.args.a c.args.b (omega arith) (omega arith) in
    let h = bounds in omega (arith, h.other)

pub overflow_add-other : goal.overflow_add-other
overflow_add-other c =
    let bounds : Halves c.args.a c.args.b = halves c.args.a c.args.b (omega arith) (omega arith) in
    let h = bounds in omega (arith, h.other)

pub overflow_mul-high : goal.overflow_mul-high
overflow_mul-high c =
    let bounds : Halves c.args.a c.args.b = halves c.args.a c.args.b (omega arith) (omega arith) in
    let h = bounds in omega (arith, h.high)

-- the sums of the middle: of the first product and the low one, and of the second and the lower half of that
abbrev middle : ℕ → ℕ → ℕ
middle a b = a / 4294967296 * (b % 4294967296) + a % 4294967296 * (b % 4294967296) / 4294967296

middle-fits : (a b : ℕ) → Halves a b → middle a b < 18446744073709551616
middle-fits a b h = omega (arith, h.low, h.middle)

pub overflow_add-high : goal.overflow_add-high
overflow_add-high c =
    let bounds : Halves c.args.a c.args.b = halves c.args.a c.args.b (omega arith) (omega arith) in
    let h = bounds in
    let z = high_fits (c.args.a / 4294967296 * (c.args.b / 4294967296)) (middle c.args.a c.args.b) 0 h.high (middle-fits c.args.a c.args.b h) (omega arith) in
    record { fits = omega (arith, z) }

pub overflow_add-high-2 : goal.overflow_add-high-2
overflow_add-high-2 c =
    let bounds : Halves c.args.a c.args.b = halves c.args.a c.args.b (omega arith) (omega arith) in
    let h = bounds in
    let m = middle c.args.a c.args.b in
    let o : c.args.a % 4294967296 * (c.args.b / 4294967296) + m % 4294967296 < 18446744073709551616 = omega (arith, h.other) in
    record {
      fits = high_fits (c.args.a / 4294967296 * (c.args.b / 4294967296)) m (c.args.a % 4294967296 * (c.args.b / 4294967296) + m % 4294967296) h.high (middle-fits c.args.a c.args.b h) o;
    }

pub returns : goal.returns
returns c = omega (arith, product_halves c.args.a c.args.b)
