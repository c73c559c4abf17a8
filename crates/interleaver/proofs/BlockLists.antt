-- Lists of blocks: their bytes one after the other, and what holds of each block of a part of the list.
-- Assumes nothing.
use mathlib.Core.Path.{◌≡◌, refl, ap, ap₂, sym, ◌∙◌}
use mathlib.Core.List.{List, [], ◌∷◌, ◌++◌, append_assoc, flatten}
use Prim.Native.Nat.{ℕ, zero, suc, ◌+◌, ◌*◌, ◌<◌}
use Prim.{tt}
use native.Mathlib.Nat.{zero-add, add_comm, mul-zero, mul-suc, not-suc-le-zero}
use native.Mathlib.Omega.{arith}
use lib.ListN.{length, get_or, take, drop, length-append, get_or-append}
use lib.Seq.{get_or-append-add}
use Rattle.common.specs.Lists.{All, Length}

-- ---- bytes of blocks that stand one after the other

pub flatten_at : (blocks : List (List ℕ)) → All (Length 204) blocks → (b n : ℕ) → b < length blocks → n < 204
    → get_or (flatten blocks) (204 * b + n) 0 ≡ get_or (get_or blocks b []) n 0
unfolding flatten
flatten_at [] g b n h l = absurd (not-suc-le-zero h)
flatten_at (x ∷ xs) g zero n h l =
    ap (λ (i : ℕ). get_or (x ++ flatten xs) i 0) (zero-add n) ∙ get_or-append x (flatten xs) 0 n (omega (arith, g.0))
flatten_at (x ∷ xs) g (suc b) n h l =
    let e : 204 * suc b + n ≡ length x + (204 * b + n) = omega (arith, g.0) in
    ap (λ (i : ℕ). get_or (x ++ flatten xs) i 0) e
    ∙ get_or-append-add x (flatten xs) (204 * b + n) 0
    ∙ flatten_at xs g.1 b n (omega arith) l

pub length-flatten : (n : ℕ) (xs : List (List ℕ)) → All (Length n) xs → length (flatten xs) ≡ n * length xs
unfolding flatten
length-flatten n [] g = sym (mul-zero n)
length-flatten n (x ∷ xs) g = length-append x (flatten xs) ∙ ap₂ (λ (a b : ℕ). a + b) g.0 (length-flatten n xs g.1) ∙ times_suc n (length xs)
  where
    times_suc : (n k : ℕ) → n + n * k ≡ n * suc k
    times_suc n k = add_comm n (n * k) ∙ sym (mul-suc n k)

pub flatten_join : (a b : List (List ℕ)) → flatten (a ++ b) ≡ flatten a ++ flatten b
unfolding flatten
flatten_join [] b = refl
flatten_join (x ∷ a) b = ap (λ (l : List ℕ). x ++ l) (flatten_join a b) ∙ sym (append_assoc x (flatten a) (flatten b))

-- ---- parts of a list

pub All-take : {A : Type 0} (P : A → Type 0) (m : ℕ) (xs : List A) → All P xs → All P (take m xs)
All-take P zero xs g = tt
All-take P (suc m) [] g = tt
All-take P (suc m) (x ∷ xs) g = (g.0, All-take P m xs g.1)

pub All-drop : {A : Type 0} (P : A → Type 0) (m : ℕ) (xs : List A) → All P xs → All P (drop m xs)
All-drop P zero xs g = g
All-drop P (suc m) [] g = tt
All-drop P (suc m) (x ∷ xs) g = All-drop P m xs g.1
