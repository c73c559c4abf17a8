-- `common::byte_at` meets its contract.
-- Assumes nothing.
use mathlib.Core.Path.{◌≡◌, ap, ◌∙◌}
use Prim.Native.Nat.{ℕ, suc, ◌+◌, ◌-◌, ◌/◌, ◌%◌, ◌≤◌, ◌<◌}
use native.Mathlib.Omega.{arith}
use Rattle.common.specs.Bytes.{byte_at}
use Rattle.common.proofs.byte_at.Invariants.{Divided}
use Rattle.common.proofs.byte_at.Goals as goal

divided-start : (n k : ℕ) → Divided n k n 0
divided-start n k = let e : k - 0 ≡ k = omega arith in record { within = omega arith; same = ap (λ (m : ℕ). byte_at m n) e }

divided-more : (n k left j : ℕ) → Divided n k left j → j < k → Divided n k (left / 256) (j + 1)
unfolding byte_at
divided-more n k left j d h =
    let e : suc (k - (j + 1)) ≡ k - j = omega arith in
    record { within = omega arith; same = ap (λ (m : ℕ). byte_at m left) e ∙ d.same }

divided-end : (n k left j : ℕ) → Divided n k left j → k ≤ j → left % 256 ≡ byte_at k n
unfolding byte_at
divided-end n k left j d h =
    let e : 0 ≡ k - j = omega arith in
    ap (λ (m : ℕ). byte_at m left) e ∙ d.same

pub loop-init : goal.loop-init
loop-init c = divided-start _ _

pub loop-preserved : goal.loop-preserved
loop-preserved c = divided-more _ _ _ _ c.loop.invariant c.loop-test.true

pub returns : goal.returns
returns c = divided-end _ _ _ _ c.loop.invariant c.loop-test.false
