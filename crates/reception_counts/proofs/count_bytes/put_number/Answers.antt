-- `reception_counts::count_bytes::put_number` meets its contract.
-- Assumes nothing.
use mathlib.Core.Path.{◌≡◌, refl, ◌∙◌}
use mathlib.Core.List.{List}
use Prim.Native.Nat.{ℕ, ◌+◌, ◌≤◌, ◌<◌}
use native.Mathlib.Omega.{arith}
use lib.ListN.{length, set}
use Rattle.common.specs.Lists.{placed}
use Rattle.common.proofs.Written.{Written, written_none, written_more}
use Rattle.common.proofs.Outputs.{placed_all}
use Rattle.common.specs.Bytes.{byte_at}
use Rattle.reception_counts.specs.Bytes.{to_bytes}
use Rattle.reception_counts.proofs.Numbers.{length_to, byte_to}
use Rattle.reception_counts.proofs.count_bytes.put_number.Goals as goal

more : (number at : ℕ) (output₀ output : List ℕ) (k v : ℕ) → Written at output₀ (to_bytes 8 number) output k → k < 8 → v ≡ byte_at k number
    → Written at output₀ (to_bytes 8 number) (set output (at + k) v) (k + 1)
more number at output₀ output k v w h e = written_more w (at + k) v (omega (arith, length_to 8 number)) refl (e ∙ byte_to 8 number k h)

finish : (number at : ℕ) (output₀ output : List ℕ) (k : ℕ) → Written at output₀ (to_bytes 8 number) output k → 8 ≤ k → output ≡ placed output₀ at (to_bytes 8 number)
finish number at output₀ output k w h =
    let n : length (to_bytes 8 number) ≡ k = omega (arith, w.within, length_to 8 number) in
    placed_all w n

pub loop-k-init : goal.loop-k-init
loop-k-init c = let a = c.args in written_none (omega (arith, length_to 8 a.number, c.requires))

pub loop-k-preserved : goal.loop-k-preserved
loop-k-preserved c = more _ _ _ _ _ _ c.loop-k.invariant c.loop-k-test.true c.byte_at.ensures

pub returns : goal.returns
returns c = finish _ _ _ _ _ c.loop-k.invariant (omega arith)
