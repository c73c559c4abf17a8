-- The best sequence is the only one, and what a run without errors gives.
-- Assumes nothing.
use mathlib.Core.Path.{◌≡◌, refl, sym, ◌∙◌, ap}
use mathlib.Core.List.{List, [], ◌∷◌}
use Prim.Native.Nat.{ℕ, suc, ◌+◌, ◌-◌, ◌*◌, ◌/◌, ◌<◌}
use native.Mathlib.Decide.{ℕ_discrete}
use native.Mathlib.Omega.{arith}
use native.Mathlib.Nat.{mul-le-mul_left, mul-div_cancel_left, one-mul}
use lib.ListN.{length}
use Rattle.convolutional_code.specs.Bits.{Bits}
use Rattle.convolutional_code.specs.Code.{next_memory, memory_after}
use Rattle.convolutional_code.proofs.Bits.{bits_tail}
use Rattle.viterbi_decoder.specs.Best.{ZeroAtLast, Best, Decoded}
use Rattle.convolutional_code.specs.Costs.{Costs, cost_from}
use Rattle.viterbi_decoder.proofs.Order.{bits_head}

-- ---- the best sequence is unique

-- two sequences of one length, each with 0 at the last place where they differ, differ nowhere
same_at_last : (xs ys : List ℕ) → length xs ≡ length ys → ZeroAtLast xs ys → ZeroAtLast ys xs → xs ≡ ys
unfolding ZeroAtLast
same_at_last [] [] l f g = refl
same_at_last [] (y ∷ ys) l f g = absurd (omega arith)
same_at_last (x ∷ xs) [] l f g = absurd (omega arith)
same_at_last (x ∷ xs) (y ∷ ys) l f g =
    let t : xs ≡ ys = same_at_last xs ys (omega arith) (λ i. f (suc i)) (λ i. g (suc i)) in
    by (ℕ_discrete x y) t
  where
    by : Dec (x ≡ y) → xs ≡ ys → x ∷ xs ≡ y ∷ ys
    by (yes e) t = cc
    by (no n) t =
        let a : x ≡ 0 = f 0 t n in
        let b : y ≡ 0 = g 0 (sym t) (λ e. n (sym e)) in
        absurd (n (a ∙ sym b))

pub unique : (C : List ℕ → ℕ) (n : ℕ) (xs ys : List ℕ) → Best C n xs → Best C n ys → xs ≡ ys
unique C n xs ys a b =
    let e : C xs ≡ C ys = omega (arith, a.least ys b.binary b.size, b.least xs a.binary a.size) in
    same_at_last xs ys (omega (arith, a.size, b.size)) (a.ties ys b.binary b.size e) (b.ties xs a.binary a.size (sym e))

-- so what is decoded is decided
pub record Same (xs ys : List ℕ) (t u a b : ℕ) : Type 0 where
  pub bits : xs ≡ ys
  pub total : t ≡ u
  pub after : a ≡ b

pub decoded_unique : (C : List ℕ → ℕ) (n m : ℕ) {xs ys : List ℕ} {t u a b : ℕ} → Decoded C n m xs t a → Decoded C n m ys u b → Same xs ys t u a b
decoded_unique C n m {xs} {ys} d e =
    let s : xs ≡ ys = unique C n xs ys d.best e.best in
    record { bits = s; total = d.costs ∙ ap C s ∙ sym e.costs; after = d.ends ∙ ap (memory_after m) s ∙ sym e.ends }

-- ---- where each step tells its two bits apart, bits that cost nothing are the best

abbrev pub Apart : Costs → Type 0
Apart F = (k s b c : ℕ) → b < 2 → c < 2 → F k s b ≡ 0 → F k s c ≡ 0 → b ≡ c

free_unique : (F : Costs) → Apart F → (k m : ℕ) (xs ys : List ℕ) → Bits xs → Bits ys → length xs ≡ length ys
    → cost_from F k m xs ≡ 0 → cost_from F k m ys ≡ 0 → xs ≡ ys
unfolding cost_from
free_unique F a k m [] [] v w l p q = refl
free_unique F a k m [] (y ∷ ys) v w l p q = absurd (omega arith)
free_unique F a k m (x ∷ xs) [] v w l p q = absurd (omega arith)
free_unique F a k m (x ∷ xs) (y ∷ ys) v w l p q =
    let e : x ≡ y = a k m x y (bits_head v) (bits_head w) (omega arith) (omega arith) in
    let q' : cost_from F (suc k) (next_memory m x) ys ≡ 0 = rw e (omega arith) in
    let t : xs ≡ ys = free_unique F a (suc k) (next_memory m x) xs ys (bits_tail v) (bits_tail w) (omega arith) (omega arith) q' in
    cc

pub free : (F : Costs) → Apart F → (n m : ℕ) (xs bs : List ℕ) → Best (cost_from F 0 m) n bs → Bits xs → length xs ≡ n → cost_from F 0 m xs ≡ 0 → bs ≡ xs
free F a n m xs bs b w l z =
    free_unique F a 0 m bs xs b.binary w (omega (arith, b.size)) (omega (arith, b.least xs w l)) z

-- ---- costs that are c times as high on every sequence of n bits have the same best sequence.

cancel : (c x y : ℕ) → 0 < c → c * x ≡ c * y → x ≡ y
cancel c x y pos e = sym (mul-div_cancel_left x pos) ∙ (ap (λ (t : ℕ). t / c) e ∙ mul-div_cancel_left y pos)

pub scale : (c : ℕ) (C D : List ℕ → ℕ) (n : ℕ) → 0 < c → ((ys : List ℕ) → Bits ys → length ys ≡ n → D ys ≡ c * C ys)
    → (bs : List ℕ) → Best C n bs → Best D n bs
scale c C D n pos h bs b =
    record {
      binary = b.binary;
      size = b.size;
      least = λ ys w l. rw (h bs b.binary b.size, h ys w l) (mul-le-mul_left c (b.least ys w l));
      ties = λ ys w l q. b.ties ys w l (cancel c (C bs) (C ys) pos (sym (h bs b.binary b.size) ∙ (q ∙ h ys w l)));
    }

-- the same costs by another definition
pub best_same : {C D : List ℕ → ℕ} (n : ℕ) → ((ys : List ℕ) → Bits ys → length ys ≡ n → C ys ≡ D ys) → {bs : List ℕ} → Best C n bs → Best D n bs
best_same {C} {D} n h {bs} b = scale 1 C D n (omega arith) (λ ys w l. sym (one-mul (C ys) ∙ h ys w l)) bs b

pub decoded_same : {C D : List ℕ → ℕ} (n m : ℕ) → ((ys : List ℕ) → Bits ys → length ys ≡ n → C ys ≡ D ys) → {bs : List ℕ} {total after : ℕ}
    → Decoded C n m bs total after → Decoded D n m bs total after
decoded_same n m h {bs} d = record { best = best_same n h d.best; costs = d.costs ∙ h bs d.best.binary d.best.size; ends = d.ends }

-- ---- costs that are higher by one number on every sequence of n bits have the same best sequence

pub decoded_lifted : {C D : List ℕ → ℕ} (by n m : ℕ) → ((ys : List ℕ) → Bits ys → length ys ≡ n → D ys ≡ C ys + by) → {bs : List ℕ} {total after : ℕ}
    → Decoded D n m bs total after → Decoded C n m bs (total - by) after
decoded_lifted by n m h {bs} d =
    let b = d.best in
    let here = h bs b.binary b.size in
    record {
      best = record {
        binary = b.binary;
        size = b.size;
        least = λ ys w l. omega (arith, here, h ys w l, b.least ys w l);
        ties = λ ys w l q. b.ties ys w l (omega (arith, here, h ys w l));
      };
      costs = omega (arith, here, d.costs);
      ends = d.ends;
    }
