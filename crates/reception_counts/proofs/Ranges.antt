-- The ranges of the counts, and that a block more keeps them.
-- Assumes nothing.
use mathlib.Core.Path.{◌≡◌}
use mathlib.Core.Bool.{true, false}
use Prim.Native.Nat.{ℕ, ◌+◌, ◌*◌, ◌≤◌, ◌<◌, min}
use native.Mathlib.Omega.{arith}
use borrow.Author.Tests.{leb-true, eqb-true, le-leb, eq-eqb, ne_eqb}
use lib.Dec.{eqb}
use Rattle.common.proofs.Choice.{both_true}
use Rattle.common.specs.Choice.{indicator}
use Rattle.reception_counts.specs.Counts.{middle_five, accepted_blocks, counts_in_range, counted, CountsFit}
use Rattle.reception_counts.specs.declared.Counts.{Counts}

-- the ranges, each by itself
pub record CountsRange (n : Counts) : Type 0 where
  pub most : n.taken ≤ 4294967295
  pub middle : middle_five n ≡ n.taken
  pub filled : n.filling ≡ min n.taken 11
  pub bytes : n.changed ≤ 16 * accepted_blocks n
  pub least : n.changed ≤ n.bits
  pub eightfold : n.bits ≤ 8 * n.changed

module _ (n : Counts) where
  pub counts_range : counts_in_range n ≡ true → CountsRange n
  unfolding counts_in_range
  counts_range e =
      let a = both_true _ _ e in
      let b = both_true _ _ a.1 in
      let f = both_true _ _ b.1 in
      let c = both_true _ _ f.1 in
      let l = both_true _ _ c.1 in
      record {
        most = leb-true _ _ a.0;
        middle = eqb-true _ _ b.0;
        filled = eqb-true _ _ f.0;
        bytes = leb-true _ _ c.0;
        least = leb-true _ _ l.0;
        eightfold = leb-true _ _ l.1;
      }

  pub counts_in_range_lem : CountsRange n → counts_in_range n ≡ true
  unfolding counts_in_range
  counts_in_range_lem r =
      simp (
        le-leb _ _ r.most,
        eq-eqb _ _ r.middle,
        eq-eqb _ _ r.filled,
        le-leb _ _ r.bytes,
        le-leb _ _ r.least,
        le-leb _ _ r.eightfold,
      )

  -- a test that fails
  pub sum_fails : (middle_five n ≡ n.taken → ⊥) → n.taken ≤ 4294967295 → false ≡ counts_in_range n
  unfolding counts_in_range
  sum_fails e h = simp (le-leb _ _ h, ne_eqb _ _ e)

  -- room for a block more
  pub counts_fit : (changed bits : ℕ) → CountsRange n → n.taken < 4294967295 → changed ≤ 16 → bits ≤ 8 * changed → CountsFit n changed bits
  counts_fit changed bits r l h k =
      let m = r.middle in
      let b = r.bytes in
      record { taken = l; middle = m; bytes = omega arith; eightfold = r.eightfold; few = h; few_bits = k }

-- ---- a block more

-- while filling
pub filling_range : (n : Counts) → CountsRange n → n.taken < 11 → CountsRange (counted n 9 0 0)
filling_range n r h =
    let m = r.middle in
    let f = r.filled in
    let b = r.bytes in
    let c = r.least in
    let e = r.eightfold in
    record {
      most = omega arith;
      middle = omega arith;
      filled = omega arith;
      bytes = omega arith;
      least = omega arith;
      eightfold = omega arith;
    }

-- a block that was lost
pub lost_range : (n : Counts) → CountsRange n → 11 ≤ n.taken → n.taken < 4294967295 → CountsRange (counted n 8 0 0)
lost_range n r h l =
    let m = r.middle in
    let f = r.filled in
    let b = r.bytes in
    let c = r.least in
    let e = r.eightfold in
    record {
      most = omega arith;
      middle = omega arith;
      filled = omega arith;
      bytes = omega arith;
      least = omega arith;
      eightfold = omega arith;
    }

-- a block that was accepted: in one of these counts, with at most sixteen bytes more and from one to eight bits in each of them
pub accepted_range : (n : Counts) (number changed bits : ℕ) → CountsRange n → 11 ≤ n.taken → n.taken < 4294967295
    → changed ≤ 16 → changed ≤ bits → bits ≤ 8 * changed
    → indicator (eqb number 9) ≡ 0 → indicator (eqb number 8) ≡ 0 → indicator (eqb number 0) + indicator (eqb number 10) + indicator (eqb number 11) ≡ 1 → CountsRange (counted n number changed bits)
accepted_range n number changed bits r h l w u v x y z =
    let m = r.middle in
    let f = r.filled in
    let b = r.bytes in
    let c = r.least in
    let e = r.eightfold in
    record {
      most = omega arith;
      middle = omega arith;
      filled = omega arith;
      bytes = omega arith;
      least = omega arith;
      eightfold = omega arith;
    }
