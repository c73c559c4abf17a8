-- Hard decisions: what they cost as pairs of levels, and that a list of them has the costs of the symbols and 6 more for each.
-- Assumes nothing.
use mathlib.Core.Path.{◌≡◌, refl, sym, ◌∙◌, ap}
use mathlib.Core.List.{List}
use Prim.Native.Nat.{ℕ, zero, suc, ◌+◌, ◌*◌, ◌/◌, ◌%◌, ◌≤◌, ◌<◌}
use native.Mathlib.Omega.{arith}
use lib.ListN.{length, get_or, take, length-take}
use lib.Seq.{get_or-take, length-take-le}
use Rattle.common.specs.Lists.{All}
use Rattle.common.proofs.Computed as computed
use Rattle.common.proofs.Lists.{All-at, All-of, get_d_map_in}
use Rattle.convolutional_code.specs.Costs.{pair_cost}
use Rattle.reader.specs.Cost.{differing, Costed}
use Rattle.reader.specs.Decisions.{hard_pair}
use Rattle.reader.proofs.Costs.{excess}

pub pair_is : (s t : ℕ) → s < 4 → t < 4 → differing s t + 6 ≡ pair_cost (hard_pair s) (t / 2) (t % 2)
unfolding pair_cost
pair_is s t h l =
    let a : (4 * s + t) / 4 ≡ s = omega arith in
    let b : (4 * s + t) % 4 ≡ t = omega arith in
    rw (a, b) at
    (computed.agree_at (λ u. differing (u / 4) (u % 4) + 6) (λ u. pair_cost (hard_pair (u / 4)) (u % 4 / 2) (u % 4 % 2)) 16 tt (4 * s + t) (omega arith))

pub symbol_lt : (ss : List ℕ) (i : ℕ) → All (λ s. s < 4) ss → i < length ss → get_or ss i 0 < 4
symbol_lt ss i w h = All-at (λ s. s < 4) ss 0 i w h

six_each : (n : ℕ) → excess (λ i. 6) n ≡ 6 * n
six_each zero = refl
six_each (suc n) = omega (arith, six_each n)

-- ---- what is written

-- the decisions on each symbol
abbrev pub Written : List ℕ → List ℕ → Type 0
Written ss l = (t : ℕ) → t < length ss → get_or l t 0 ≡ hard_pair (get_or ss t 0)

module _ (ss l : List ℕ) (symbols : All (λ s. s < 4) ss) (w : Written ss l) (long : length ss ≤ length l) (k : ℕ) (e : k ≡ length ss) where
  unfoldable pub written_costed : Costed differing ss (take k l)
  written_costed = record {
    size = length-take-le k l (omega arith) ∙ e;
    extra = λ i. 6;
    each = λ i s h four.
        ap (λ (f : ℕ → ℕ). f s + 6) (get_d_map_in differing ss 0 (λ s. 0) i h)
        ∙ pair_is (get_or ss i 0) s (symbol_lt ss i symbols h) four
        ∙ ap (λ (p : ℕ). pair_cost p (s / 2) (s % 2)) (sym (get_or-take k l i 0 (omega arith) ∙ w i h));
  }

  -- what they cost more in all
  pub written_excess : excess written_costed.extra (length ss) ≡ 6 * length ss
  unfolding written_costed
  written_excess = six_each (length ss)

  pub written_small : All (λ p. p < 81) (take k l)
  written_small =
      All-of (λ p. p < 81) (take k l) 0
      (λ t h. let b : t < k = omega (arith, length-take k l) in rw (get_or-take k l t 0 b, w t (omega arith)) (omega arith))
