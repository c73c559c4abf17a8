-- What the tests of a call tell.
-- Assumes nothing.
use mathlib.Core.Path.{◌≡◌, refl, sym}
use mathlib.Core.Bool.{Bool, true, false, not}
use mathlib.Core.List.{List}
use Prim.Native.Nat.{ℕ, ◌*◌, ◌/◌, ◌%◌, ◌≤◌, ◌<◌}
use native.Mathlib.Nat.{div-lt_iff_lt-mul}
use native.Mathlib.Omega.{arith}
use borrow.Author.Tests.{ltb-true, ltb-false, lt-ltb, le-ltb, eqb-true, eq-eqb}
use lib.Dec.{ltb, eqb}
use lib.ListN.{length}
use Rattle.common.specs.Choice.{pick}
use Rattle.common.specs.Lists.{All, largest}
use Rattle.common.proofs.Choice.{flag_false}
use Rattle.common.proofs.Lists.{All-of}
use Rattle.common.proofs.Largest.{largest_least}
use Rattle.puncturing.specs.Mode.{qpsk_count}
use Rattle.reader.specs.Read.{symbols_per_pattern, run_bits, answer_number, Readable}
use Rattle.reader.proofs.Patterns.{some_symbols, symbols_few}
use Rattle.puncturing.specs.Step.{pattern_length}
use Rattle.puncturing.proofs.Steps.{some_bits}

-- ---- the test of a list

pub below_all : (limit : ℕ) (xs : List ℕ) → ltb (largest xs) limit ≡ true → All (λ x. x < limit) xs
below_all limit xs e = All-of (λ x. x < limit) xs 0 (λ i h. omega (arith, largest_least xs i, ltb-true (largest xs) limit e))

-- ---- the tests of a call

pub not_true : (t : Bool) → not t ≡ true → t ≡ false
not_true t e = flag_false (λ (b : Bool). t ≡ b) t e refl

-- where both numbers of the rate and the memory are in range, and the lists have passed
module _ (rate memory n : ℕ) (valid : Bool) (space : ℕ) (hr : rate < qpsk_count) (hm : memory < 64) (bits pattern : ℕ) (eb : bits ≡ pattern_length rate)
    (ep : pattern ≡ symbols_per_pattern rate) where
  pub bits_some : 0 < bits
  bits_some = rw eb (some_bits rate hr)

  pub pattern_some : 0 < pattern
  pattern_some = rw ep (some_symbols rate hr)

  module _ (whole : n % pattern ≡ 0) where
    abbrev q : ℕ
    q = n / pattern

    whole_test : eqb (n % symbols_per_pattern rate) 0 ≡ true
    whole_test = eq-eqb _ _ (rw ep at whole)

    size : bits * q ≡ run_bits rate n
    size = rw (eb, ep)

    pub long : 1632 / bits < q → 13 ≡ answer_number rate memory true n valid space
    long h =
        let l : 1632 < q * bits = (div-lt_iff_lt-mul bits_some).0 h in
        let g : 1632 < run_bits rate n = rw (sym size) (omega arith) in
        simp (lt-ltb rate qpsk_count hr, lt-ltb memory 64 hm, whole_test, lt-ltb 1632 (run_bits rate n) g)

-- ---- what the answer tells

no_else : (t : Bool) (x k : ℕ) → 0 < k → pick t x k ≡ 0 → (t ≡ true) × (x ≡ 0)
no_else true x k h e = (refl, e)
no_else false x k h e = absurd (omega arith)

no_then : (t : Bool) (x k : ℕ) → 0 < k → pick t k x ≡ 0 → (t ≡ false) × (x ≡ 0)
no_then true x k h e = absurd (omega arith)
no_then false x k h e = (refl, e)

-- a run that is answered 0 has passed every test
pub record Passed (rate memory : ℕ) (lists : Bool) (n : ℕ) (valid : Bool) (space : ℕ) : Type 0 where
  pub known : rate < qpsk_count
  pub in_range_lem : memory < 64
  pub lists_pass : lists ≡ true
  pub whole : n % symbols_per_pattern rate ≡ 0
  pub most : run_bits rate n ≤ 1632
  pub symbols_pass : valid ≡ true
  pub fits : run_bits rate n ≤ space

pub passed : (rate memory : ℕ) (lists : Bool) (n : ℕ) (valid : Bool) (space : ℕ) → answer_number rate memory lists n valid space ≡ 0 → Passed rate memory lists n valid space
passed rate memory lists n valid space e =
    let a = no_else (ltb rate qpsk_count) _ 6 (omega arith) e in
    let b = no_else (ltb memory 64) _ 5 (omega arith) a.1 in
    let l = no_else lists _ 24 (omega arith) b.1 in
    let c = no_else (eqb (n % symbols_per_pattern rate) 0) _ 12 (omega arith) l.1 in
    let d = no_then (ltb 1632 (run_bits rate n)) _ 13 (omega arith) c.1 in
    let f = no_else valid _ 14 (omega arith) d.1 in
    let g = no_then (ltb space (run_bits rate n)) 0 4 (omega arith) f.1 in
    record {
      known = ltb-true _ _ a.0;
      in_range_lem = ltb-true _ _ b.0;
      lists_pass = l.0;
      whole = eqb-true _ _ c.0;
      most = ltb-false _ _ d.0;
      symbols_pass = f.0;
      fits = ltb-false _ _ g.0;
    }

-- and is so answered
pub passes : {rate memory : ℕ} {lists : Bool} {n : ℕ} {valid : Bool} {space : ℕ} → Passed rate memory lists n valid space → answer_number rate memory lists n valid space ≡ 0
passes {rate} {memory} {lists} {n} {valid} {space} p =
    simp (lt-ltb rate qpsk_count p.known, lt-ltb memory 64 p.in_range_lem, p.lists_pass, eq-eqb _ _ p.whole, le-ltb 1632 (run_bits rate n) p.most, p.symbols_pass, le-ltb space (run_bits rate n) p.fits)

-- the decisions on such a run can be read
pub readable : {rate memory : ℕ} {lists : Bool} {n : ℕ} {valid : Bool} {output : List ℕ} → Passed rate memory lists n valid (length output)
    → (pairs : List ℕ) → length pairs ≡ n → All (λ p. p < 81) pairs → Readable rate memory pairs output
readable p pairs size small = record {
  known = p.known;
  in_range_lem = p.in_range_lem;
  whole = rw size p.whole;
  most = rw size p.most;
  small = small;
  fits = rw size p.fits;
}

-- a run has no more symbols than bits, so that the decisions on them have room
pub few : {rate memory : ℕ} {lists : Bool} {n : ℕ} {valid : Bool} {space : ℕ} → Passed rate memory lists n valid space → n ≤ 1632
few {rate} {n = n} p = omega (arith, symbols_few rate p.known n p.whole, p.most)
