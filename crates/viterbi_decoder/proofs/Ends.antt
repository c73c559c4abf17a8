-- The first of the memories with the least metric: there is one, and with it a best sequence for any small costs.
-- Assumes nothing.
use mathlib.Core.Path.{◌≡◌, sym}
use mathlib.Core.Logic.{⊎_elim}
use mathlib.Core.List.{List, reverse}
use Prim.Native.Nat.{ℕ, zero, suc, ◌+◌, ◌≤◌, ◌<◌}
use native.Mathlib.Decide.{dec_lt}
use native.Mathlib.Nat.{eq-or-lt_of_le}
use native.Mathlib.Numerals.{add-one}
use native.Mathlib.Omega.{arith}
use Rattle.viterbi_decoder.specs.Best.{Decoded}
use Rattle.convolutional_code.specs.Costs.{Costs, cost_from}
use Rattle.viterbi_decoder.specs.Metric.{metric, survivor, FirstLeast}
use Rattle.viterbi_decoder.proofs.Paths.{Answer, answer}

pub ends_one : (M : ℕ → ℕ) → FirstLeast M 1 0
ends_one M = record { small = omega arith; least = λ t h. rw (is_zero t (omega arith)) (omega arith); first = λ t h. absurd (omega arith) }
  where
    is_zero : (t : ℕ) → t ≤ 0 → t ≡ 0
    is_zero t h = omega arith

pub ends_new : (M : ℕ → ℕ) (n s : ℕ) → FirstLeast M n s → M n < M s → FirstLeast M (n + 1) n
ends_new M n s e l =
    record {
      small = omega arith;
      least = λ t h. ⊎_elim (λ q. rw q (omega arith)) (λ q. omega (arith, e.least t q)) (eq-or-lt_of_le (le_of t h));
      first = λ t h. omega (arith, e.least t h);
    }
  where
    le_of : (t : ℕ) → t < n + 1 → t ≤ n
    le_of t h = omega arith

pub ends_old : (M : ℕ → ℕ) (n s : ℕ) → FirstLeast M n s → M s ≤ M n → FirstLeast M (n + 1) s
ends_old M n s e l =
    record {
      small = omega arith;
      least = λ t h. ⊎_elim (λ q. rw q (omega arith)) (λ q. e.least t q) (eq-or-lt_of_le (le_of t h));
      first = e.first;
    }
  where
    le_of : (t : ℕ) → t < n + 1 → t ≤ n
    le_of t h = omega arith

record Least (M : ℕ → ℕ) (n : ℕ) : Type 0 where
  at : ℕ
  ends : FirstLeast M n at

least_of : (M : ℕ → ℕ) (n : ℕ) → Least M (suc n)
least_of M zero = record { at = 0; ends = ends_one M }
least_of M (suc n) = by (least_of M n)
  where
    by : Least M (suc n) → Least M (suc (suc n))
    by l = case (dec_lt (M (suc n)) (M l.at))
      where
        case : Dec (M (suc n) < M l.at) → Least M (suc (suc n))
        case (yes h) = record { at = suc n; ends = rw (← add-one) (ends_new M (suc n) l.at l.ends h) }
        case (no h) = record { at = l.at; ends = rw (← add-one) (ends_old M (suc n) l.at l.ends (omega arith)) }

-- what is decoded of a run, whatever its costs
pub record SomeDecoded (cost : List ℕ → ℕ) (n m : ℕ) : Type 0 where
  pub bits : List ℕ
  pub total : ℕ
  pub after : ℕ
  pub decoded : Decoded cost n m bits total after

pub some_decoded : (F : Costs) → ((k s b : ℕ) → F k s b ≤ 14) → (m n : ℕ) → m < 64 → SomeDecoded (cost_from F 0 m) n m
some_decoded F c m n h =
    let l = least_of (metric F m n) 63 in
    let a : Answer F n m l.at (reverse (survivor F m n l.at)) = answer F c m h l.at n l.ends in
    record {
      bits = reverse (survivor F m n l.at);
      total = metric F m n l.at;
      after = l.at;
      decoded = record { best = a.best; costs = sym a.costs; ends = sym a.ends };
    }
