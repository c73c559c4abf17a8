-- Decisions of any kind: what a received symbol costs is what its I and its Q do, and each tells the bit that was sent from the other, but for a doubt.
-- Hard and soft decisions are so. A run of such symbols gives back what was sent.
-- Assumes nothing.
use mathlib.Core.Path.{◌≡◌, refl, sym, ◌∙◌, ap, subst}
use mathlib.Core.Bool.{Bool, true, false}
use mathlib.Core.List.{List, map}
use Prim.Native.Nat.{ℕ, zero, suc, ◌+◌, ◌-◌, ◌*◌, ◌/◌, ◌%◌, ◌≤◌, ◌<◌}
use native.Mathlib.Omega.{arith}
use borrow.Author.Tests.{eqb-true}
use lib.Dec.{eqb}
use lib.ListN.{length, get_or, take, length-map}
use Rattle.std.specs.Prelude.{None}
use Rattle.common.specs.Choice.{pick, unequal}
use Rattle.common.proofs.Lists.{get_d_map_in}
use Rattle.convolutional_code.specs.Bits.{Bits}
use Rattle.viterbi_decoder.specs.Best.{Best}
use Rattle.puncturing.specs.Mode.{qpsk_count}
use Rattle.puncturing.specs.Step.{pattern_length}
use Rattle.inner_code.specs.Step.{symbols_of}
use Rattle.inner_code.specs.Encode.{coder_at}
use Rattle.branch_metrics.specs.Steps.{punctured_costs}
use Rattle.branch_metrics.specs.Cost.{BitCosts, symbol_costs, decided_as, softly, ReceivedSymbol}
use Rattle.reader.specs.Cost.{differing, run_cost}
use Rattle.reader.specs.Read.{symbols_per_pattern, run_bits, length_of_run}
use Rattle.reader.proofs.Costs.{Splits}
use Rattle.reader.proofs.Patterns.{sent_whole}
use Rattle.reader.proofs.SoftDecisions.{decided_small}
use Rattle.noise_tolerance.proofs.Difference.{unlike}
use Rattle.noise_tolerance.specs.Noise.{SparseSymbols, QuietEnd}
use Rattle.noise_tolerance.proofs.SparseSteps.{Sparse}
use Rattle.noise_tolerance.specs.Noise.{bit_doubt, soft_doubt}
use Rattle.noise_tolerance.proofs.Runs.{TellsBits, Tolerable, run_agrees, run_agrees_whole}
use Rattle.noise_tolerance.proofs.Windows.{sparse_steps, quiet_steps}

-- deciding I, part 0, or Q, part 1, of a received symbol as v
pub record Kind {R : Type 0} (cost doubt : R → ℕ → ℕ) (u : ℕ) : Type 0 where
  pub some : R
  pub part : R → ℕ → ℕ → ℕ
  pub part_doubt : R → ℕ → ℕ → ℕ
  pub counts : 0 < u
  pub splits : (r : R) (s : ℕ) → cost r s ≡ part r 0 (s / 2) + part r 1 (s % 2)
  pub doubt_splits : (r : R) (s : ℕ) → doubt r s ≡ part_doubt r 0 (s / 2) + part_doubt r 1 (s % 2)
  pub tells : (r : R) (b v o : ℕ) → v < 2 → o < 2 → u * unlike v o + part r b v ≤ part r b o + part_doubt r b v
  pub cheap : (r : R) (b v : ℕ) → part r b v ≤ u

-- the places of the coded bits
abbrev pub spread : {R : Type 0} → (R → ℕ → ℕ → ℕ) → R → List R → ℕ → ℕ → ℕ
spread part some rs j v = part (get_or rs (j / 2) some) (j % 2) v

pub spread_splits : {R : Type 0} (cost : R → ℕ → ℕ) (part : R → ℕ → ℕ → ℕ) (some : R) → ((r : R) (s : ℕ) → cost r s ≡ part r 0 (s / 2) + part r 1 (s % 2))
    → (rs : List R) → Splits (map cost rs) (spread part some rs) 0
spread_splits {R} cost part some h rs = record {
  at = λ i s l four.
      let a : (0 + 2 * i) / 2 ≡ i = omega arith in
      let b : (0 + 2 * i) % 2 ≡ 0 = omega arith in
      let d : (0 + 2 * i + 1) / 2 ≡ i = omega arith in
      let e : (0 + 2 * i + 1) % 2 ≡ 1 = omega arith in
      rw (a, b, d, e) (ap (λ (f : ℕ → ℕ). f s) (get_d_map_in cost rs some (λ s. 0) i (rw length-map at l)) ∙ h (get_or rs i some) s);
}

-- ---- a run

module _ {R : Type 0} {cost doubt : R → ℕ → ℕ} {u : ℕ} (kind : Kind cost doubt u) (rate : ℕ) (hr : rate < qpsk_count) {window most depth : ℕ} (t : Tolerable rate window most depth)
    (patterns : ℕ) (covers : window + pattern_length rate ≤ pattern_length rate * patterns + 1) (m : ℕ) (hm : m < 64) (rs : List R) (bits : List ℕ) (w : Bits bits)
    (whole : length bits % pattern_length rate ≡ 0) (ss : List ℕ) (es : ss ≡ symbols_of (coder_at rate m) bits) (size : length rs ≡ length ss)
    (sparse : SparseSymbols (symbols_per_pattern rate * patterns) (u * most) (map doubt rs) ss) where
  abbrev c : ℕ → ℕ → ℕ
  c = spread kind.part kind.some rs

  abbrev g : ℕ → ℕ → ℕ
  g = spread kind.part_doubt kind.some rs

  sparse_doubt : Sparse (punctured_costs rate g) window (u * most) 0 m bits
  sparse_doubt =
      sparse_steps (map doubt rs) g (spread_splits doubt kind.part_doubt kind.some kind.doubt_splits rs) rate hr m hm bits w whole ss es
      (sym size ∙ sym (length-map rs doubt)) patterns window (u * most) covers sparse

  bits_tell : TellsBits u c g
  bits_tell j v o hv ho = kind.tells (get_or rs (j / 2) kind.some) (j % 2) v o hv ho

  module _ {best : List ℕ} (b : Best (run_cost (map cost rs) rate m) (length_of_run rate ss) best) where
    lc : length (map cost rs) ≡ length ss
    lc = length-map rs cost ∙ size

    size_is : run_bits rate (length (map cost rs)) ≡ length bits
    size_is = ap (run_bits rate) lc ∙ sym (sent_whole rate m hr hm bits w whole ss es).1

    -- all bits but the last ones are those that were sent
    pub kind_agrees : take (length bits - depth) best ≡ take (length bits - depth) bits
    kind_agrees =
        rw size_is at
        (run_agrees u kind.counts c g bits_tell rate hr t m hm (map cost rs) (spread_splits cost kind.part kind.some kind.splits rs)
        (ap (λ (k : ℕ). k % symbols_per_pattern rate) lc ∙ (sent_whole rate m hr hm bits w whole ss es).0)
        (subst (λ (k : ℕ). Best (run_cost (map cost rs) rate m) (run_bits rate k) best) (sym lc) b) bits w (sym size_is) sparse_doubt)

    -- and the last ones too, where nothing is doubted at the end
    pub kind_agrees_whole : (tail : ℕ) → depth ≤ pattern_length rate * tail → QuietEnd (symbols_per_pattern rate * tail) (map doubt rs) ss → best ≡ bits
    kind_agrees_whole tail deep quiet =
        run_agrees_whole u kind.counts c g bits_tell rate hr t m hm (map cost rs) (spread_splits cost kind.part kind.some kind.splits rs)
        (ap (λ (k : ℕ). k % symbols_per_pattern rate) lc ∙ (sent_whole rate m hr hm bits w whole ss es).0)
        (subst (λ (k : ℕ). Best (run_cost (map cost rs) rate m) (run_bits rate k) best) (sym lc) b) bits w (sym size_is) sparse_doubt
        (quiet_steps (map doubt rs) g (spread_splits doubt kind.part_doubt kind.some kind.doubt_splits rs) rate hr m hm bits w whole ss es
        (sym size ∙ sym (length-map rs doubt)) tail depth deep quiet)

-- ---- hard decisions

hard_part : ℕ → ℕ → ℕ → ℕ
hard_part r zero v = unequal (r / 2) v
hard_part r (suc b) v = unequal (r % 2) v

-- in how many of I and Q a received symbol differs from the one sent, twice
abbrev pub hard_doubt : ℕ → ℕ → ℕ
hard_doubt r s = 2 * differing r s

one_differs : (a : ℕ) → 1 ≤ unequal a 0 + unequal a 1
one_differs a = go (eqb a 0) (eqb a 1) refl refl
  where
    go : (t f : Bool) → eqb a 0 ≡ t → eqb a 1 ≡ f → 1 ≤ pick {A = ℕ} t 0 1 + pick {A = ℕ} f 0 1
    go true true d e = absurd (omega (arith, eqb-true a 0 d, eqb-true a 1 e))
    go true false d e = omega arith
    go false true d e = omega arith
    go false false d e = omega arith

differ_triangle : (a v o : ℕ) → v < 2 → o < 2 → unlike v o ≤ unequal a v + unequal a o
differ_triangle a zero zero h l = omega arith
differ_triangle a zero (suc zero) h l = one_differs a
differ_triangle a zero (suc (suc o)) h l = absurd (omega arith)
differ_triangle a (suc zero) zero h l = omega (arith, one_differs a)
differ_triangle a (suc zero) (suc zero) h l = omega arith
differ_triangle a (suc zero) (suc (suc o)) h l = absurd (omega arith)
differ_triangle a (suc (suc v)) o h l = absurd (omega arith)

pub hard_kind : Kind differing hard_doubt 1
unfolding hard_part
hard_kind = record {
  some = 0;
  part = hard_part;
  part_doubt = λ r b v. 2 * hard_part r b v;
  counts = omega arith;
  splits = λ r s. refl;
  doubt_splits = λ r s. omega arith;
  tells = tell;
  cheap = cheap;
}
  where
    one : (t : Bool) → pick {A = ℕ} t 0 1 ≤ 1
    one true = omega arith
    one false = omega arith

    cheap : (r b v : ℕ) → hard_part r b v ≤ 1
    cheap r zero v = one (eqb (r / 2) v)
    cheap r (suc b) v = one (eqb (r % 2) v)

    tell : (r b v o : ℕ) → v < 2 → o < 2 → 1 * unlike v o + hard_part r b v ≤ hard_part r b o + 2 * hard_part r b v
    tell r zero v o h l = omega (arith, differ_triangle (r / 2) v o h l)
    tell r (suc b) v o h l = omega (arith, differ_triangle (r % 2) v o h l)

-- ---- soft decisions

unfoldable pub soft_part : ReceivedSymbol → ℕ → BitCosts
soft_part r zero = (symbol_costs r).i
soft_part r (suc b) = (symbol_costs r).q

pub bit_tells : (c : BitCosts) (v o : ℕ) → v < 2 → o < 2 → 7 * unlike v o + decided_as c v ≤ decided_as c o + bit_doubt c v
bit_tells c zero zero h l = omega arith
bit_tells c zero (suc zero) h l = omega arith
bit_tells c (suc zero) zero h l = omega arith
bit_tells c (suc zero) (suc zero) h l = omega arith
bit_tells c (suc (suc v)) o h l = absurd (omega arith)
bit_tells c zero (suc (suc o)) h l = absurd (omega arith)
bit_tells c (suc zero) (suc (suc o)) h l = absurd (omega arith)

pub soft_cheap : (r : ReceivedSymbol) (b v : ℕ) → decided_as (soft_part r b) v ≤ 7
unfolding soft_part
soft_cheap r zero v = decided_small r 0 (eqb v 0)
soft_cheap r (suc b) v = decided_small r 1 (eqb v 0)

pub soft_kind : Kind softly soft_doubt 7
unfolding soft_part
soft_kind = record {
  some = None;
  part = λ r b v. decided_as (soft_part r b) v;
  part_doubt = λ r b v. bit_doubt (soft_part r b) v;
  counts = omega arith;
  splits = λ r s. refl;
  doubt_splits = λ r s. refl;
  tells = λ r b v o h l. bit_tells (soft_part r b) v o h l;
  cheap = soft_cheap;
}
