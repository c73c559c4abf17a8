-- Levels and costs of numbers: of any, and of particular ones by their bit patterns.
-- Assumes nothing.
use mathlib.Core.Path.{◌≡◌, refl, ◌∙◌, ap, ap₂}
use mathlib.Core.Bool.{Bool, true, false, cond}
use mathlib.Core.List.{List, [], ◌∷◌}
use Prim.Native.Nat.{ℕ, ◌+◌, ◌-◌, ◌*◌, ◌/◌, ◌%◌, ◌≤◌, ◌<◌}
use native.Mathlib.Omega.{arith}
use borrow.Author.Tests.{lt-ltb}
use lib.Dec.{T, eqb, eqb_refl}
use lib.Ieee.{Float, nan, inf, fin, le, ne, is_nan, of_bits, binary32, up, down}
use lib.ListN.{length}
use Rattle.std.specs.Prelude.{Some, None}
use Rattle.common.specs.Choice.{pick, indicator}
use Rattle.common.specs.Lists.{total}
use Rattle.branch_metrics.specs.Level.{thresholds, level_of}
use Rattle.convolutional_code.specs.Costs.{one_cost, decision_cost, pair_cost}
use Rattle.branch_metrics.specs.Cost.{BitCosts, number_costs, symbol_costs, free, by_level, decided_as, softly, ReceivedSymbol}
use Rattle.branch_metrics.specs.SoftPairs.{number_decision, marked, symbol_pair}
use Rattle.branch_metrics.proofs.Facts.{pair_is}

true_of : (b : Bool) → T b → b ≡ true
true_of true t = refl
true_of false t = absurd t

-- only a NaN differs from itself
pub ne_nan : (x : Float) → ne x x ≡ is_nan x
unfolding ne is_nan
ne_nan nan = refl
ne_nan (inf true) = refl
ne_nan (inf false) = refl
ne_nan (fin true m e) = rw (true_of (eqb (m * up e * down e) (m * up e * down e)) (eqb_refl (m * up e * down e)))
ne_nan (fin false m e) = rw (true_of (eqb (m * up e * down e) (m * up e * down e)) (eqb_refl (m * up e * down e)))

-- ---- levels, and the decisions on numbers and symbols

pub count_le : (b : Bool) → indicator b ≤ 1
count_le true = omega arith
count_le false = omega arith

at_most : (ts : List Float) (x : Float) → total (λ t. indicator (le t x)) ts ≤ length ts
at_most [] x = omega arith
at_most (t ∷ ts) x = omega (arith, count_le (le t x), at_most ts x)

pub level_le : (x : Float) → level_of x ≤ 7
unfolding level_of
level_le x = at_most thresholds x

pub record Small (c : BitCosts) : Type 0 where
  pub zero_le : c.zero ≤ 7
  pub one_le : c.one ≤ 7

pub number_small : (x : Float) → Small (number_costs x)
unfolding number_costs
number_small x = by (is_nan x)
  where
    by : (b : Bool) → Small (cond b free (by_level (level_of x)))
    by true = record { zero_le = omega arith; one_le = omega arith }
    by false = record { zero_le = omega (arith, level_le x); one_le = level_le x }

number_lt : (x : Float) → number_decision x < 9
unfolding number_decision
number_lt x = by (is_nan x)
  where
    by : (b : Bool) → cond b 8 (level_of x) < 9
    by true = omega arith
    by false = omega (arith, level_le x)

pub symbol_lt : (r : ReceivedSymbol) → symbol_pair r < 81
unfolding symbol_pair
symbol_lt (Some p) = omega (arith, number_lt p.i, number_lt p.q)
symbol_lt None = omega arith

-- nothing is known of a NaN, whatever the mark of its symbol
pub marked_nan : (mark : ℕ) → marked mark 8 ≡ 8
marked_nan mark = by (eqb mark 0)
  where
    by : (b : Bool) → pick {A = ℕ} b 8 8 ≡ 8
    by true = refl
    by false = refl

-- the decision on a number costs what the number does
number_is : (x : Float) (v : ℕ) → decision_cost (number_decision x) v ≡ decided_as (number_costs x) v
unfolding number_decision number_costs
number_is x v = by (is_nan x)
  where
    level : one_cost (level_of x) ≡ level_of x
    level = simp (lt-ltb (level_of x) 8 (omega (arith, level_le x)))

    by : (b : Bool) → decision_cost (cond b 8 (level_of x)) v ≡ decided_as (cond b free (by_level (level_of x))) v
    by true = refl
    by false = ap (λ (o : ℕ). pick (eqb v 0) (7 - level_of x) o) level

-- and the pair of a symbol what the symbol does
pub symbol_is : (r : ReceivedSymbol) (sent : ℕ) → pair_cost (symbol_pair r) (sent / 2) (sent % 2) ≡ softly r sent
unfolding symbol_pair symbol_costs
symbol_is (Some p) sent =
    pair_is (number_decision p.i) (number_decision p.q) (sent / 2) (sent % 2) (number_lt p.q)
    ∙ ap₂ (λ (x y : ℕ). x + y) (number_is p.i (sent / 2)) (number_is p.q (sent % 2))
symbol_is None sent = pair_is 8 8 (sent / 2) (sent % 2) (omega arith)

-- ---- particular numbers

pub costs_nan : number_costs nan ≡ free
unfolding number_costs is_nan
costs_nan = refl

-- 1.0 and -1.0
pub costs_one : number_costs (of_bits binary32 0x3f80_0000) ≡ record { zero = 0; one = 7 }
unfolding number_costs is_nan level_of of_bits le
costs_one = refl

pub costs_minus_one : number_costs (of_bits binary32 0xbf80_0000) ≡ record { zero = 7; one = 0 }
unfolding number_costs is_nan level_of of_bits le
costs_minus_one = refl
