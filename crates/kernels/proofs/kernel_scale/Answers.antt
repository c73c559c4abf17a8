-- `kernels::kernel_scale` meets its contract.
-- Assumes nothing.
use mathlib.Core.Path.{◌≡◌, ap, ap₂, ◌∙◌}
use mathlib.Core.List.{List, ◌++◌}
use Prim.Native.Nat.{ℕ, ◌+◌}
use native.Mathlib.Omega.{arith}
use borrow.Author.Tests.{lt-ltb, le-ltb}
use lib.ListN.{length, drop}
use Rattle.kernels.specs.Scale.{scaled_by}
use Rattle.kernels.proofs.kernel_scale.Goals as goal

pub returns-then-lanes-lt16 : goal.returns-then-lanes-lt16
returns-then-lanes-lt16 c = simp (lt-ltb _ _ c.if-lanes-lt16.true)

pub returns : goal.returns
returns c =
    let lanes = c.args.lanes.now in
    let factors = c.args.factors.now in
    let n : 0 + length c.scale_by-last.result ≡ 16 = omega (arith, c.scale_by-last.type_inv.1.0.1) in
    simp (le-ltb _ _ c.if-lanes-lt16.false)
    (c.put.ensures
    ∙ ap₂ (λ (l : List ℕ) (k : ℕ). l ++ drop k lanes) (c.scale_by-last.ensures ∙ ap (scaled_by factors) c.array_at.ensures) n)
