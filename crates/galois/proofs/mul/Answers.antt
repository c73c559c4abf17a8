-- `galois::mul` meets its contract: after the rounds below bit i, r and x times the bits of b from i up make the product.
-- Assumes nothing.
use mathlib.Core.Path.{◌≡◌, sym, ap, ap₂, ◌∙◌}
use Prim.Native.Nat.{ℕ, suc, ◌+◌, ◌*◌, ◌/◌, ◌%◌, ◌-◌, ◌^◌, ◌<◌, ◌≤◌}
use native.Mathlib.Omega.{arith}
use native.Mathlib.Nat.{mod-eq_of_lt, div-one}
use lib.Bits.{bit_xor, bit_and, and_mask, xor_comm, xor_zero_l, xor_zero_r}
use lib.Pow.{shr-shr}
use Rattle.common.proofs.Xor.{xor_assoc}
use Rattle.galois.specs.Field256.{times_x, rounds, mul}
use Rattle.galois.proofs.Laws.{rounds_times_x}
use Rattle.galois.proofs.mul.Goals as goal

-- before the first round
whole : (a b : ℕ) → a < 256 → bit_xor 0 (rounds (8 - 0) a (b / 2 ^ 0)) ≡ mul a b
unfolding mul
whole a b h = xor_zero_l (rounds 8 a (b / 1)) ∙ ap₂ (rounds 8) (sym (mod-eq_of_lt h)) (div-one b)

-- one round more, from bit i up
round : (i b r x t v : ℕ) → i < 8 → bit_xor r (rounds (8 - i) x (b / 2 ^ i)) ≡ v → t ≡ times_x x
    → bit_xor (bit_xor r (bit_and (b / 2 ^ i) 1 * x)) (rounds (8 - (i + 1)) t (b / 2 ^ (i + 1))) ≡ v
unfolding rounds
round i b r x t v h e f =
    let more : 8 - i ≡ suc (8 - (i + 1)) = omega arith in
    ap₂ (λ (y z : ℕ). bit_xor (bit_xor r (y * x)) z) (and_mask (b / 2 ^ i) 1)
    (ap₂ (rounds (8 - (i + 1))) f (sym (shr-shr b i 1)) ∙ rounds_times_x (8 - (i + 1)) x (b / 2 ^ i / 2))
    ∙ xor_assoc r (b / 2 ^ i % 2 * x) (times_x (rounds (8 - (i + 1)) x (b / 2 ^ i / 2)))
    ∙ ap (bit_xor r) (xor_comm (b / 2 ^ i % 2 * x) (times_x (rounds (8 - (i + 1)) x (b / 2 ^ i / 2))))
    ∙ ap (λ (n : ℕ). bit_xor r (rounds n x (b / 2 ^ i))) (sym more) ∙ e

-- no bit is left
done : (i b r x v : ℕ) → 8 ≤ i → bit_xor r (rounds (8 - i) x (b / 2 ^ i)) ≡ v → r ≡ v
unfolding rounds
done i b r x v h e =
    let z : 8 - i ≡ 0 = omega arith in
    sym (xor_zero_r r) ∙ ap (λ (n : ℕ). bit_xor r (rounds n x (b / 2 ^ i))) (sym z) ∙ e

pub loop-i-init : goal.loop-i-init
loop-i-init c = (omega arith, whole c.args.a c.args.b (omega arith))

pub loop-i-preserved : goal.loop-i-preserved
loop-i-preserved c =
    let l = c.loop-i in
    (omega arith, round l.i c.args.b l.r l.x _ _ (omega arith) l.invariant.1 c.times_x-x.ensures)

pub returns : goal.returns
returns c =
    let l = c.loop-i in
    done l.i c.args.b l.r l.x _ (omega arith) l.invariant.1
