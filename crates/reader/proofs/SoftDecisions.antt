-- Soft decisions: what the test of the lists tells, what is written of them, and that they have a best sequence.
-- Assumes nothing.
use mathlib.Core.Bool.{Bool, true, false}
use mathlib.Core.Path.{◌≡◌, refl, sym, ◌∙◌, ap}
use mathlib.Core.List.{List, map}
use Prim.Native.Nat.{ℕ, zero, suc, ◌+◌, ◌*◌, ◌/◌, ◌%◌, ◌≤◌, ◌<◌}
use native.Mathlib.Omega.{arith}
use native.Mathlib.Nat.{add-zero}
use borrow.Author.Tests.{eqb-true}
use lib.Dec.{eqb, ltb}
use lib.Ieee.{Float}
use lib.ListN.{length, get_or, take, length-map}
use lib.Seq.{get_or-take, length-take-le}
use Rattle.std.specs.Prelude.{Some, None}
use Rattle.common.specs.Choice.{pick}
use Rattle.common.specs.Lists.{All, largest}
use Rattle.common.proofs.Choice.{both_true}
use Rattle.common.proofs.Lists.{get_d_map_in}
use Rattle.convolutional_code.specs.Costs.{pair_cost}
use Rattle.viterbi_decoder.proofs.Ends.{SomeDecoded}
use Rattle.puncturing.specs.Mode.{qpsk_count}
use Rattle.branch_metrics.specs.Cost.{BitCosts, SymbolCosts, symbol_costs, decided_as, softly, received_of, ReceivedSymbol}
use Rattle.branch_metrics.specs.SoftPairs.{symbol_pair, symbol_at}
use Rattle.branch_metrics.proofs.Numbers.{number_small, symbol_is}
use Rattle.branch_metrics.proofs.Runs.{length_received, received_at, along_small}
use Rattle.reader.specs.Cost.{soft_cost, Costed}
use Rattle.reader.specs.Read.{symbols_per_pattern, run_bits, sound}
use Rattle.reader.proofs.Costs.{Splits, excess}
use Rattle.reader.proofs.Existence.{some_best}

-- ---- the test of the lists

pub record OneLength (is qs : List Float) (lost : List ℕ) : Type 0 where
  pub qs_size : length qs ≡ length is
  pub lost_size : length lost ≡ length is

pub sound_lists : (is qs : List Float) (lost : List ℕ) → sound is qs lost ≡ true → OneLength is qs lost
sound_lists is qs lost e =
    let a = both_true (eqb (length qs) (length is)) _ e in
    let b = both_true (eqb (length lost) (length is)) (ltb (largest lost) 2) a.1 in
    record { qs_size = eqb-true _ _ a.0; lost_size = eqb-true _ _ b.0 }

-- ---- the costs of places

-- those of I, or of Q
abbrev half : ℕ → SymbolCosts → BitCosts
half zero c = c.i
half (suc n) c = c.q

-- what deciding place j as v costs: the places of symbol k are 2 k, its I, and 2 k + 1, its Q
abbrev pub soft : List ReceivedSymbol → ℕ → ℕ → ℕ
soft rs j v = decided_as (half (j % 2) (symbol_costs (get_or rs (j / 2) None))) v

soft_splits : (rs : List ReceivedSymbol) → Splits (map softly rs) (soft rs) 0
soft_splits rs = record {
  at = λ i s h four.
      let a : (0 + 2 * i) / 2 ≡ i = omega arith in
      let b : (0 + 2 * i) % 2 ≡ 0 = omega arith in
      let c : (0 + 2 * i + 1) / 2 ≡ i = omega arith in
      let d : (0 + 2 * i + 1) % 2 ≡ 1 = omega arith in
      rw (a, b, c, d) (ap (λ (f : ℕ → ℕ). f s) (get_d_map_in softly rs None (λ s. 0) i (rw length-map at h)));
}

pub decided_small : (r : ReceivedSymbol) (n : ℕ) (t : Bool) → pick t (half n (symbol_costs r)).zero (half n (symbol_costs r)).one ≤ 7
unfolding symbol_costs
decided_small (Some p) zero true = (number_small p.i).zero_le
decided_small (Some p) zero false = (number_small p.i).one_le
decided_small (Some p) (suc n) true = (number_small p.q).zero_le
decided_small (Some p) (suc n) false = (number_small p.q).one_le
decided_small None zero true = omega arith
decided_small None zero false = omega arith
decided_small None (suc n) true = omega arith
decided_small None (suc n) false = omega arith

soft_small : (rs : List ReceivedSymbol) (j v : ℕ) → soft rs j v ≤ 7
soft_small rs j v = decided_small (get_or rs (j / 2) None) (j % 2) (eqb v 0)

-- there is a best sequence
pub soft_decoded : (rate m : ℕ) → rate < qpsk_count → m < 64 → (is qs : List Float) (lost : List ℕ) → OneLength is qs lost → length is % symbols_per_pattern rate ≡ 0
    → SomeDecoded (soft_cost (received_of is qs lost) rate m) (run_bits rate (length is)) m
soft_decoded rate m hr hm is qs lost o whole =
    let rs = received_of is qs lost in
    some_best (map softly rs) (soft rs) (soft_splits rs) rate m hr hm (length is) (sym (length-map rs softly ∙ length_received is qs lost o.qs_size o.lost_size)) whole (soft_small rs)

-- ---- what is written

-- symbols that are given by their places, and the decisions on them
unfoldable pub along_costed : (f : ℕ → ReceivedSymbol) (rs : List ReceivedSymbol) (n : ℕ) → length rs ≡ n → ((i : ℕ) → i < n → get_or rs i None ≡ f i)
    → (l : List ℕ) → n ≤ length l → ((t : ℕ) → t < n → get_or l t 0 ≡ symbol_pair (f t)) → Costed softly rs (take n l)
along_costed f rs n size is l long w = record {
  size = length-take-le n l long ∙ sym size;
  extra = λ i. 0;
  each = λ i s h four.
      let b : i < n = omega (arith, size) in
      add-zero _
      ∙ ap (λ (g : ℕ → ℕ). g s) (get_d_map_in softly rs None (λ s. 0) i h)
      ∙ ap (λ (r : ReceivedSymbol). softly r s) (is i b)
      ∙ sym (symbol_is (f i) s)
      ∙ ap (λ (p : ℕ). pair_cost p (s / 2) (s % 2)) (sym (get_or-take n l i 0 b ∙ w i b));
}

none_each : (n : ℕ) → excess (λ i. 0) n ≡ 0
none_each zero = refl
none_each (suc n) = omega (arith, none_each n)

abbrev pub Written : List Float → List Float → List ℕ → List ℕ → Type 0
Written is qs lost l = (t : ℕ) → t < length is → get_or l t 0 ≡ symbol_pair (symbol_at is qs lost t)

module _ (is qs : List Float) (lost l : List ℕ) (o : OneLength is qs lost) (w : Written is qs lost l) (long : length is ≤ length l) (k : ℕ) (e : k ≡ length is) where
  unfoldable pub written_costed : Costed softly (received_of is qs lost) (take k l)
  written_costed =
      along_costed (symbol_at is qs lost) (received_of is qs lost) k (length_received is qs lost o.qs_size o.lost_size ∙ sym e)
      (λ i h. received_at is qs lost o.qs_size o.lost_size i (omega arith)) l (omega arith) (λ t h. w t (omega arith))

  -- they cost nothing more
  pub written_excess : (n : ℕ) → excess written_costed.extra n ≡ 0
  unfolding written_costed along_costed
  written_excess n = none_each n

  pub written_small : All (λ p. p < 81) (take k l)
  written_small = along_small (symbol_at is qs lost) k l (omega arith) (λ t h. w t (omega arith))
