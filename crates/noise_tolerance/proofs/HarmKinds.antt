-- Three kinds of harm: symbols struck, of which nothing is assumed, by hard and by soft decisions; and symbols lost, by soft ones.
-- Assumes nothing.
use mathlib.Core.Path.{◌≡◌, refl, ap}
use mathlib.Core.Bool.{Bool, true, false}
use Prim.Native.Nat.{ℕ, zero, suc, ◌+◌, ◌*◌, ◌/◌, ◌%◌, ◌≤◌, ◌<◌}
use native.Mathlib.Omega.{arith}
use borrow.Author.Tests.{eqb-true}
use lib.Dec.{eqb}
use lib.Ieee.{of_bits, binary32}
use Rattle.std.specs.Prelude.{Some}
use Rattle.common.specs.Choice.{pick}
use Rattle.branch_metrics.specs.Cost.{BitCosts, symbol_costs, decided_as, softly, ReceivedSymbol}
use Rattle.branch_metrics.proofs.Numbers.{costs_one}
use Rattle.reader.specs.Cost.{differing}
use Rattle.noise_tolerance.specs.Noise.{bit_doubt, soft_doubt}
use Rattle.noise_tolerance.specs.Harm.{SymbolCame, fine, struck, is_struck, cost_of, doubt_of, was_lost, doubt_unlost}
use Rattle.noise_tolerance.proofs.Difference.{unlike}
use Rattle.noise_tolerance.proofs.Received.{Kind, hard_doubt, hard_kind, soft_part, soft_cheap, bit_tells, soft_kind}
use Rattle.noise_tolerance.proofs.HarmedRuns.{Harmable}

-- ---- struck

module _ {R : Type 0} {cost doubt : R → ℕ → ℕ} {u : ℕ} (kind : Kind cost doubt u) where
  part : SymbolCame R → ℕ → ℕ → ℕ
  part (fine r) = kind.part r
  part (struck r) = kind.part r

  part_doubt : SymbolCame R → ℕ → ℕ → ℕ
  part_doubt (fine r) = kind.part_doubt r
  part_doubt (struck r) = λ b v. 0

  pub struck_kind : Harmable (cost_of cost) (doubt_of doubt) is_struck u 1
  unfolding part part_doubt
  struck_kind = record {
    some = fine kind.some;
    some_unharmed = refl;
    part = part;
    part_doubt = part_doubt;
    counts = kind.counts;
    splits = splits;
    doubt_splits = doubt_splits;
    tells = tells;
    weak = weak;
    cheap = cheaply;
  }
    where
      splits : (r : SymbolCame R) (s : ℕ) → cost_of cost r s ≡ part r 0 (s / 2) + part r 1 (s % 2)
      splits (fine r) s = kind.splits r s
      splits (struck r) s = kind.splits r s

      doubt_splits : (r : SymbolCame R) (s : ℕ) → doubt_of doubt r s ≡ part_doubt r 0 (s / 2) + part_doubt r 1 (s % 2)
      doubt_splits (fine r) s = kind.doubt_splits r s
      doubt_splits (struck r) s = refl

      tells : (r : SymbolCame R) (b v o : ℕ) → is_struck r ≡ false → v < 2 → o < 2 → u * unlike v o + part r b v ≤ part r b o + part_doubt r b v
      tells (fine r) b v o e hv ho = kind.tells r b v o hv ho
      tells (struck r) b v o e hv ho = absurd (let z : ◌≡◌ {A = ℕ} 1 0 = ap (λ (t : Bool). pick t 1 0) e in omega arith)

      cheaply : (r : SymbolCame R) (b v : ℕ) → v < 2 → part r b v ≤ u
      cheaply (fine r) b v h = kind.cheap r b v
      cheaply (struck r) b v h = kind.cheap r b v

      weak : (r : SymbolCame R) (b v o : ℕ) → v < 2 → o < 2 → part r b v ≤ part r b o + part_doubt r b v + u * 1
      weak r b v o hv ho = omega (arith, cheaply r b v hv)

pub hard_struck_kind : Harmable (cost_of differing) (doubt_of hard_doubt) is_struck 1 1
hard_struck_kind = struck_kind hard_kind

pub soft_struck_kind : Harmable (cost_of softly) (doubt_of soft_doubt) is_struck 7 1
soft_struck_kind = struck_kind soft_kind

-- ---- lost

-- of a lost symbol no decision costs anything
lost_free : (r : ReceivedSymbol) → was_lost r ≡ true → (b v : ℕ) → decided_as (soft_part r b) v ≡ 0
unfolding was_lost soft_part
lost_free r e zero v = by (eqb v 0)
  where
    z : (symbol_costs r).i.zero + (symbol_costs r).i.one + ((symbol_costs r).q.zero + (symbol_costs r).q.one) ≡ 0
    z = eqb-true _ 0 e

    by : (t : Bool) → pick t (symbol_costs r).i.zero (symbol_costs r).i.one ≡ 0
    by true = omega (arith, z)
    by false = omega (arith, z)
lost_free r e (suc b) v = by (eqb v 0)
  where
    z : (symbol_costs r).i.zero + (symbol_costs r).i.one + ((symbol_costs r).q.zero + (symbol_costs r).q.one) ≡ 0
    z = eqb-true _ 0 e

    by : (t : Bool) → pick t (symbol_costs r).q.zero (symbol_costs r).q.one ≡ 0
    by true = omega (arith, z)
    by false = omega (arith, z)

unlost_part : ReceivedSymbol → ℕ → ℕ → ℕ
unlost_part r b v = pick (was_lost r) 0 (bit_doubt (soft_part r b) v)

point : ReceivedSymbol
point = Some (record { i = of_bits binary32 0x3f80_0000; q = of_bits binary32 0x3f80_0000 })

point_unlost : was_lost point ≡ false
unfolding was_lost symbol_costs point
point_unlost = ap (λ (c : BitCosts). eqb (c.zero + c.one + (c.zero + c.one)) 0) costs_one

pub lost_kind : Harmable softly doubt_unlost was_lost 7 0
unfolding unlost_part soft_part
lost_kind = record {
  some = point;
  some_unharmed = point_unlost;
  part = λ r b v. decided_as (soft_part r b) v;
  part_doubt = unlost_part;
  counts = omega arith;
  splits = λ r s. refl;
  doubt_splits = λ r s. split (was_lost r) (bit_doubt (symbol_costs r).i (s / 2)) (bit_doubt (symbol_costs r).q (s % 2));
  tells = tells;
  weak = λ r b v o hv ho. weak r b v o hv ho (was_lost r) refl;
  cheap = λ r b v h. soft_cheap r b v;
}
  where
    split : (t : Bool) (x y : ℕ) → pick t 0 (x + y) ≡ pick t 0 x + pick t 0 y
    split true x y = refl
    split false x y = refl

    tells : (r : ReceivedSymbol) (b v o : ℕ) → was_lost r ≡ false → v < 2 → o < 2 → 7 * unlike v o + decided_as (soft_part r b) v ≤ decided_as (soft_part r b) o + unlost_part r b v
    tells r b v o e hv ho = rw e (bit_tells (soft_part r b) v o hv ho)

    weak : (r : ReceivedSymbol) (b v o : ℕ) → v < 2 → o < 2 → (t : Bool) → was_lost r ≡ t
        → decided_as (soft_part r b) v ≤ decided_as (soft_part r b) o + unlost_part r b v + 7 * 0
    weak r b v o hv ho true e = omega (arith, lost_free r e b v)
    weak r b v o hv ho false e = rw e (omega (arith, bit_tells (soft_part r b) v o hv ho))
