-- The first and the last harmed symbol of a run, and the patterns that they stand in.
-- Assumes nothing.
use mathlib.Core.Path.{◌≡◌, refl, sym, ◌∙◌, ap}
use mathlib.Core.Bool.{Bool, true, false}
use mathlib.Core.List.{List, [], ◌∷◌}
use Prim.Native.Nat.{ℕ, zero, suc, ◌+◌, ◌*◌, ◌/◌, ◌%◌, ◌≤◌, ◌<◌}
use native.Mathlib.Decide.{dec_le, dec_lt}
use native.Mathlib.Nat.{div-add-mod, mod-lt, mul-add-div, mul-le-mul_left}
use native.Mathlib.Omega.{arith}
use Rattle.common.specs.Choice.{pick}
use lib.ListN.{length, get_or}

-- quotients of places
pub div_least : (s k e : ℕ) → 0 < s → s * k ≤ e → k ≤ e / s
div_least s k e h l = by (dec_le k (e / s))
  where
    by : Dec (k ≤ e / s) → k ≤ e / s
    by (yes d) = d
    by (no d) = absurd (omega (arith, mul-le-mul_left s (over d), div-add-mod e s, mod-lt e h))
      where
        over : ¬ (k ≤ e / s) → suc (e / s) ≤ k
        over d = omega arith

pub div_below : (s k e : ℕ) → e < s * k → e / s < k
div_below s k e l = by (dec_lt (e / s) k)
  where
    by : Dec (e / s < k) → e / s < k
    by (yes d) = d
    by (no d) = absurd (omega (arith, mul-le-mul_left s (over d), div-add-mod e s))
      where
        over : ¬ (e / s < k) → k ≤ e / s
        over d = omega arith

pub quotient : (s n f : ℕ) → 0 < s → (s * n + f) / s ≡ n + f / s
quotient s n f h = mul-add-div h n f

-- symbols f to l, in patterns of s symbols
module _ (s f l : ℕ) (some : 0 < s) (o : f ≤ l) where
  df : s * (f / s) + f % s ≡ f
  df = div-add-mod f s

  dl : s * (l / s) + l % s ≡ l
  dl = div-add-mod l s

  pub starts : s * (f / s) ≤ f
  starts = omega (arith, df)

  pub ends : l < s * suc (l / s)
  ends = omega (arith, dl, mod-lt l some)

  pub ordered : f / s ≤ suc (l / s)
  ordered = by (dec_le (f / s) (suc (l / s)))
    where
      by : Dec (f / s ≤ suc (l / s)) → f / s ≤ suc (l / s)
      by (yes d) = d
      by (no d) = absurd (omega (arith, mul-le-mul_left s (over d), df, dl, mod-lt l some))
        where
          over : ¬ (f / s ≤ suc (l / s)) → suc (suc (l / s)) ≤ f / s
          over d = omega arith

  pub spanned : (longest span : ℕ) → l < f + longest → longest + s ≤ s * span + 1 → suc (l / s) ≤ f / s + span
  spanned longest span close spans = by (dec_le (suc (l / s)) (f / s + span))
    where
      by : Dec (suc (l / s) ≤ f / s + span) → suc (l / s) ≤ f / s + span
      by (yes d) = d
      by (no d) = absurd (omega (arith, mul-le-mul_left s (over d), df, dl, mod-lt f some))
        where
          over : ¬ (suc (l / s) ≤ f / s + span) → f / s + span ≤ l / s
          over d = omega arith

-- ---- the first and the last harmed symbol of a run

module _ {R : Type 0} (harmed : R → Bool) (some : R) where
  pub data Hull (rs : List R) : Type 0 where
    clean : ((i : ℕ) → i < length rs → harmed (get_or rs i some) ≡ false) → Hull rs
    hit : (f l : ℕ) → f ≤ l → l < length rs → harmed (get_or rs f some) ≡ true → harmed (get_or rs l some) ≡ true
        → ((i : ℕ) → i < length rs → harmed (get_or rs i some) ≡ true → (f ≤ i) × (i ≤ l)) → Hull rs

  pub hull : (rs : List R) → Hull rs
  hull [] = clean (λ i h. absurd (omega arith))
  hull (r ∷ rs) = by (hull rs) (harmed r) refl
    where
      true_false : {A : Type 0} → true ≡ false → A
      true_false e = absurd (let o : ◌≡◌ {A = ℕ} 1 0 = ap (λ (t : Bool). pick t 1 0) e in omega arith)

      none_further : harmed r ≡ false → ((i : ℕ) → i < length rs → harmed (get_or rs i some) ≡ false) → (i : ℕ) → i < length (r ∷ rs) → harmed (get_or (r ∷ rs) i some) ≡ false
      none_further e h zero l = e
      none_further e h (suc i) l = h i (omega arith)

      only : ((i : ℕ) → i < length rs → harmed (get_or rs i some) ≡ false) → (i : ℕ) → i < length (r ∷ rs) → harmed (get_or (r ∷ rs) i some) ≡ true → (0 ≤ i) × (i ≤ 0)
      only h zero l e = (omega arith, omega arith)
      only h (suc i) l e = true_false (sym e ∙ h i (omega arith))

      from_first : (l : ℕ) → ((i : ℕ) → i < length rs → harmed (get_or rs i some) ≡ true → i ≤ l)
          → (i : ℕ) → i < length (r ∷ rs) → harmed (get_or (r ∷ rs) i some) ≡ true → (0 ≤ i) × (i ≤ suc l)
      from_first l h zero m e = (omega arith, omega arith)
      from_first l h (suc i) m e = (omega arith, let z = h i (omega arith) e in omega arith)

      further : harmed r ≡ false → (f l : ℕ) → ((i : ℕ) → i < length rs → harmed (get_or rs i some) ≡ true → (f ≤ i) × (i ≤ l))
          → (i : ℕ) → i < length (r ∷ rs) → harmed (get_or (r ∷ rs) i some) ≡ true → (suc f ≤ i) × (i ≤ suc l)
      further q f l h zero m e = true_false (sym e ∙ q)
      further q f l h (suc i) m e = let z = h i (omega arith) e in let x = z.0 in let y = z.1 in (omega arith, omega arith)

      by : Hull rs → (t : Bool) → harmed r ≡ t → Hull (r ∷ rs)
      by (clean h) false e = clean (none_further e h)
      by (clean h) true e = hit 0 0 (omega arith) (omega arith) e e (only h)
      by (hit f l o m a b h) false e = hit (suc f) (suc l) (omega arith) (omega arith) a b (further e f l h)
      by (hit f l o m a b h) true e = hit 0 (suc l) (omega arith) (omega arith) e b (from_first l (λ i p q. (h i p q).1))
