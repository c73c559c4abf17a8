-- `reception_counts::count_bytes::number_at` meets its contract.
-- Assumes nothing.
use mathlib.Core.Path.{◌≡◌, ap, ◌∙◌}
use mathlib.Core.List.{List, [], ◌∷◌}
use Prim.Native.Nat.{ℕ}
use native.Mathlib.Omega.{arith}
use lib.ListN.{length, take, drop, length-drop}
use lib.Seq.{length-take-le}
use Rattle.std.specs.Int.{w64, from_le_bytes}
use Rattle.reception_counts.specs.Bytes.{from_bytes}
use Rattle.reception_counts.proofs.count_bytes.number_at.Goals as goal

eight : (l : List ℕ) → length l ≡ 8 → from_le_bytes w64 l ≡ from_bytes l
unfolding from_bytes
eight (a ∷ b ∷ c ∷ d ∷ e ∷ f ∷ g ∷ h ∷ []) n = omega arith
eight _ n = absurd (omega arith)

pub returns : goal.returns
returns c =
    let a = c.args in
    c.from_le_bytes.ensures ∙ ap (from_le_bytes w64) c.array_at.ensures
    ∙ eight (take 8 (drop a.at a.bytes.now)) (length-take-le 8 (drop a.at a.bytes.now) (omega (arith, length-drop a.at a.bytes.now, c.requires)))
