-- An array of zeros with bytes at its front.
-- Assumes nothing.
use mathlib.Core.Path.{◌≡◌, ap, ◌∙◌}
use mathlib.Core.List.{List, ◌++◌, append-nil}
use Prim.Native.Nat.{ℕ, ◌-◌}
use native.Mathlib.Omega.{arith}
use lib.ListN.{length, replicate}
use Rattle.common.specs.Lists.{padded}

abbrev zeros : ℕ → List ℕ
zeros n = replicate n 0

-- bytes that fill the array
pub padded_full : (size : ℕ) (bytes : List ℕ) → length bytes ≡ size → padded size bytes ≡ bytes
padded_full size bytes e = let z : size - length bytes ≡ 0 = omega arith in ap (λ (k : ℕ). bytes ++ zeros k) z ∙ append-nil bytes
