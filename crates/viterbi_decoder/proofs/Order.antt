-- The order behind the tie rule: bits as a number whose last one counts most.
-- Assumes nothing.
use mathlib.Core.Path.{◌≡◌, refl, ap}
use mathlib.Core.Logic.{◌≢◌}
use mathlib.Core.List.{List, [], ◌∷◌}
use Prim.Native.Nat.{ℕ, zero, suc, ◌+◌, ◌*◌, ◌≤◌, ◌<◌}
use native.Mathlib.Omega.{arith}
use lib.ListN.{length, get_or, drop}
use Rattle.convolutional_code.specs.Bits.{Bits, more}
use Rattle.convolutional_code.proofs.Bits.{bits_tail}
use Rattle.viterbi_decoder.specs.Best.{ZeroAtLast}

unfoldable pub rank : List ℕ → ℕ
rank [] = 0
rank (b ∷ bs) = b + 2 * rank bs

pub bits_head : {b : ℕ} {l : List ℕ} → Bits (b ∷ l) → b < 2
bits_head (more h t) = h

-- of two sequences of one length, the one with the smaller number has 0 at the last place where they differ
last_place : (i : ℕ) (xs ys : List ℕ) → Bits xs → Bits ys → length xs ≡ length ys → rank xs ≤ rank ys
    → drop (suc i) xs ≡ drop (suc i) ys → get_or xs i 0 ≢ get_or ys i 0 → get_or xs i 0 ≡ 0
unfolding rank
last_place i [] ys v w l le e d = refl
last_place i (x ∷ xs) [] v w l le e d = absurd (omega arith)
last_place zero (x ∷ xs) (y ∷ ys) v w l le e d = omega (arith, ap rank e, bits_head v, bits_head w)
last_place (suc i) (x ∷ xs) (y ∷ ys) v w l le e d =
    last_place i xs ys (bits_tail v) (bits_tail w) (omega arith) (omega (arith, bits_head v, bits_head w)) e d

pub rank_ties : (xs ys : List ℕ) → Bits xs → Bits ys → length xs ≡ length ys → rank xs ≤ rank ys → ZeroAtLast xs ys
unfolding ZeroAtLast
rank_ties xs ys v w l le i e d = last_place i xs ys v w l le e d
