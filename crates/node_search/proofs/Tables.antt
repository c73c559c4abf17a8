-- Sums over the decisions of pairs, by a table.
-- Assumes nothing.
use mathlib.Core.Path.{◌≡◌, refl, sym, ◌∙◌, ap, ap₂}
use mathlib.Core.List.{List, [], ◌∷◌}
use Prim.Native.Nat.{ℕ, zero, suc, ◌+◌, ◌*◌, ◌/◌, ◌%◌, ◌≤◌, ◌<◌}
use Prim.{tt}
use native.Mathlib.Numerals.{add-one}
use native.Mathlib.Omega.{arith}
use lib.ListN.{length, get_or, take}
use Rattle.common.specs.Lists.{All, total}
use Rattle.common.proofs.Computed.{agree_at}
use Rattle.common.proofs.Lists.{All-at}
use Rattle.node_search.specs.Weight.{cheaper, apart, of_pair}

abbrev pub looked : List ℕ → ℕ → ℕ
looked table d = get_or table d 0

total_more : (f : ℕ → ℕ) (l : List ℕ) (k : ℕ) → k < length l → total f (take (suc k) l) ≡ total f (take k l) + f (get_or l k 0)
total_more f [] k h = absurd (omega arith)
total_more f (x ∷ l) zero h = omega arith
total_more f (x ∷ l) (suc k) h = omega (arith, total_more f l k (omega arith))

pub pair_lt : (pairs : List ℕ) (k : ℕ) → All (λ p. p < 81) pairs → k < length pairs → get_or pairs k 0 < 81
pair_lt pairs k w h = All-at (λ p. p < 81) pairs 0 k w h

-- both decisions of a pair have small entries
pub entries : (table : List ℕ) → All (λ x. x ≤ 7) table → length table ≡ 9 → (p : ℕ) → p < 81 → (looked table (p / 9) ≤ 7) × (looked table (p % 9) ≤ 7)
entries table w size p h = (All-at (λ x. x ≤ 7) table 0 (p / 9) w (omega arith), All-at (λ x. x ≤ 7) table 0 (p % 9) w (omega arith))

-- the sum of the first k pairs
pub record Summing (table pairs : List ℕ) (sum k : ℕ) : Type 0 where
  pub most : k ≤ length pairs
  pub is : sum ≡ total (of_pair (looked table)) (take k pairs)
  pub small : sum ≤ 14 * k

pub summing_more : {table pairs : List ℕ} {sum k : ℕ} → Summing table pairs sum k → k < length pairs → (x y : ℕ) → x ≡ looked table (get_or pairs k 0 / 9) → y ≡ looked table (get_or pairs k 0 % 9)
    → x ≤ 7 → y ≤ 7 → Summing table pairs (sum + (x + y)) (k + 1)
summing_more {table} {pairs} {sum} {k} s h x y ex ey hx hy =
    record {
      most = omega arith;
      is =
          ap₂ (λ (a b : ℕ). a + b) s.is (ap₂ (λ (a b : ℕ). a + b) ex ey)
          ∙ (sym (total_more (of_pair (looked table)) pairs k h) ∙ ap (λ (j : ℕ). total (of_pair (looked table)) (take j pairs)) (sym (add-one k)));
      small = omega (arith, s.small);
    }

-- ---- the two tables

abbrev pub cheaper_table : List ℕ
cheaper_table = 0 ∷ 1 ∷ 2 ∷ 3 ∷ 3 ∷ 2 ∷ 1 ∷ 0 ∷ 0 ∷ []

abbrev pub apart_table : List ℕ
apart_table = 7 ∷ 5 ∷ 3 ∷ 1 ∷ 1 ∷ 3 ∷ 5 ∷ 7 ∷ 0 ∷ []

same_total : (f g : ℕ → ℕ) → ((d : ℕ) → d < 9 → f d ≡ g d) → (pairs : List ℕ) → All (λ p. p < 81) pairs → total (of_pair f) pairs ≡ total (of_pair g) pairs
same_total f g e [] w = refl
same_total f g e (p ∷ pairs) w =
    let h : p < 81 = w.0 in
    let a : p / 9 < 9 = omega arith in
    let b : p % 9 < 9 = omega arith in
    omega (arith, e (p / 9) a, e (p % 9) b, same_total f g e pairs w.1)

pub cheaper_total : (pairs : List ℕ) → All (λ p. p < 81) pairs → total (of_pair (looked cheaper_table)) pairs ≡ total (of_pair cheaper) pairs
cheaper_total = same_total (looked cheaper_table) cheaper (λ d h. agree_at (looked cheaper_table) cheaper 9 tt d h)

pub apart_total : (pairs : List ℕ) → All (λ p. p < 81) pairs → total (of_pair (looked apart_table)) pairs ≡ total (of_pair apart) pairs
apart_total = same_total (looked apart_table) apart (λ d h. agree_at (looked apart_table) apart 9 tt d h)

pub cheaper_small : All (λ x. x ≤ 7) cheaper_table
cheaper_small = (omega arith, (omega arith, (omega arith, (omega arith, (omega arith, (omega arith, (omega arith, (omega arith, (omega arith, tt)))))))))

pub apart_small : All (λ x. x ≤ 7) apart_table
apart_small = (omega arith, (omega arith, (omega arith, (omega arith, (omega arith, (omega arith, (omega arith, (omega arith, (omega arith, tt)))))))))
