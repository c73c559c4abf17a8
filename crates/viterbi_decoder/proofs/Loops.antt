-- What the loops over lanes keep.
-- Assumes nothing.
use mathlib.Core.Bool.{Bool, true, false}
use mathlib.Core.Path.{◌≡◌, refl, ◌∙◌}
use mathlib.Core.Logic.{⊎_elim}
use mathlib.Core.List.{List}
use Prim.Native.Nat.{ℕ, min, ◌+◌, ◌*◌, ◌≤◌, ◌<◌}
use native.Mathlib.Omega.{arith}
use native.Mathlib.Nat.{eq-or-lt_of_le}
use borrow.Author.Tests.{ltb-true, ltb-false}
use lib.Dec.{ltb}
use lib.ListN.{length, set, length-set}
use lib.Seq.{get_or-set_same, get_or-set_other}
use Rattle.common.specs.Choice.{pick}
use Rattle.convolutional_code.specs.Costs.{at}
use Rattle.viterbi_decoder.specs.Lanes.{lesser}

-- ---- the lesser of two numbers

pub min_lesser : (a b : ℕ) → min a b ≡ lesser a b
min_lesser a b = go (ltb b a) refl
  where
    go : (t : Bool) → ltb b a ≡ t → min a b ≡ pick t b a
    go true e = omega (arith, ltb-true b a e)
    go false e = omega (arith, ltb-false b a e)

-- ---- two lists woven

pub record Woven (low high r : List ℕ) (n : ℕ) : Type 0 where
  pub len : length r ≡ 64
  pub most : n ≤ 32
  pub both : (k : ℕ) → k < n → (at r (2 * k) ≡ at low k) × (at r (2 * k + 1) ≡ at high k)

pub woven_none : {low high r : List ℕ} → length r ≡ 64 → Woven low high r 0
woven_none l = record { len = l; most = omega arith; both = λ k h. absurd (omega arith) }

pub woven_more : {low high r : List ℕ} {n : ℕ} → n < 32 → Woven low high r n
    → Woven low high (set (set r (2 * n) (at low n)) (2 * n + 1) (at high n)) (n + 1)
woven_more {low} {high} {r} {n} h e =
    record {
      len = length-set (set r (2 * n) (at low n)) (2 * n + 1) (at high n) ∙ (length-set r (2 * n) (at low n) ∙ e.len);
      most = omega arith;
      both = λ k l. ⊎_elim (same k) (less k) (eq-or-lt_of_le (le k l));
    }
  where
    le : (k : ℕ) → k < n + 1 → k ≤ n
    le k l = omega arith

    same : (k : ℕ) → k ≡ n → (at (set (set r (2 * n) (at low n)) (2 * n + 1) (at high n)) (2 * k) ≡ at low k)
        × (at (set (set r (2 * n) (at low n)) (2 * n + 1) (at high n)) (2 * k + 1) ≡ at high k)
    same k q = (
      rw q (get_or-set_other (set r (2 * n) (at low n)) (2 * n + 1) (2 * n) (at high n) 0 (λ x. omega arith) ∙ get_or-set_same r (2 * n) (at low n) 0 (omega (arith, e.len))),
      rw q (get_or-set_same (set r (2 * n) (at low n)) (2 * n + 1) (at high n) 0 (omega (arith, length-set r (2 * n) (at low n), e.len))),
    )

    less : (k : ℕ) → k < n → (at (set (set r (2 * n) (at low n)) (2 * n + 1) (at high n)) (2 * k) ≡ at low k)
        × (at (set (set r (2 * n) (at low n)) (2 * n + 1) (at high n)) (2 * k + 1) ≡ at high k)
    less k q = (
      get_or-set_other (set r (2 * n) (at low n)) (2 * n + 1) (2 * k) (at high n) 0 (λ x. omega arith)
          ∙ (get_or-set_other r (2 * n) (2 * k) (at low n) 0 (λ x. omega arith) ∙ (e.both k q).0),
      get_or-set_other (set r (2 * n) (at low n)) (2 * n + 1) (2 * k + 1) (at high n) 0 (λ x. omega arith)
          ∙ (get_or-set_other r (2 * n) (2 * k + 1) (at low n) 0 (λ x. omega arith) ∙ (e.both k q).1),
    )

pub woven_all : {low high r : List ℕ} {n : ℕ} → 32 ≤ n → Woven low high r n
    → (i : ℕ) → i < 32 → (at r (2 * i) ≡ at low i) × (at r (2 * i + 1) ≡ at high i)
woven_all h e i l = e.both i (omega arith)
