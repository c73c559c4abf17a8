-- A run that has passed the tests: what the decoder gives of its steps is what reading it means.
-- Assumes nothing.
use mathlib.Core.Path.{◌≡◌, sym, ◌∙◌, ap, subst, subst₂}
use mathlib.Core.List.{List, ◌++◌, map}
use Prim.Native.Nat.{ℕ, ◌-◌, ◌*◌, ◌%◌, ◌<◌, ◌≤◌}
use native.Mathlib.Decide.{dec_lt}
use native.Mathlib.Omega.{arith}
use lib.ListN.{length, get_or, take, drop, length-take, get_or-eq_default}
use lib.Seq.{get_or-take}
use Rattle.common.specs.Lists.{All}
use Rattle.common.proofs.Lists.{All-at, All-of, length_list_of}
use Rattle.convolutional_code.specs.Costs.{cost_from, step_costs, Pairs}
use Rattle.viterbi_decoder.specs.Best.{Decoded}
use Rattle.viterbi_decoder.proofs.Laws.{decoded_lifted}
use Rattle.puncturing.specs.Mode.{qpsk_count}
use Rattle.branch_metrics.specs.Steps.{first, run_step}
use Rattle.branch_metrics.proofs.Facts.{steps_small}
use Rattle.reader.specs.Cost.{run_cost, symbol_cost, costs_of, Costed}
use Rattle.reader.specs.Read.{symbols_per_pattern, run_bits, Readable, BestRead}
use Rattle.reader.proofs.Patterns.{run_whole, run_symbols_lem, coded_bits_lem, memory_in_range}
use Rattle.reader.proofs.Costs.{own_splits, excess, costs_lifted}
use Rattle.reader.proofs.Whole as steps_of

-- each number stands for two decisions, and so does what is read past the end
pub all_pairs : (l : List ℕ) → All (λ p. p < 81) l → Pairs l
all_pairs l h t = by (dec_lt t (length l))
  where
    by : Dec (t < length l) → get_or l t 0 < 81
    by (yes b) = All-at (λ p. p < 81) l 0 t h b
    by (no b) = rw (get_or-eq_default l 0 {n = t} (omega arith)) (omega arith)

module _ {rate m : ℕ} {l output : List ℕ} (g : Readable rate m l output) (n : ℕ) (size : n ≡ run_bits rate (length l)) where
  -- the decisions on the coded bits of n bits are there
  pub enough : first rate n ≤ 2 * length l
  enough = let e : first rate n ≡ 2 * length l = ap (first rate) size ∙ coded_bits_lem rate g.known (length l) g.whole in omega (arith, e)

  module _ (steps : List ℕ) (long : n ≤ length steps) (spread : (t : ℕ) → t < n → get_or steps t 0 ≡ run_step l rate t) where
    used : (t : ℕ) → t < n → get_or (take n steps) t 0 ≡ run_step l rate t
    used t h = get_or-take n steps t 0 (omega (arith, length-take n steps)) ∙ spread t h

    -- the steps that are used are pairs of decisions
    pub steps_pairs : Pairs (take (n - 0) steps)
    steps_pairs = let a : n - 0 ≡ n = omega arith in rw a (all_pairs (take n steps) (All-of (λ p. p < 81) (take n steps) 0 small))
      where
        small : (t : ℕ) → t < length (take n steps) → get_or (take n steps) t 0 < 81
        small t h = steps_small l (all_pairs l g.small) (take n steps) rate n used t (omega (arith, length-take n steps))

    -- what is decoded is read
    decoded : {bits : List ℕ} {total after : ℕ} → Decoded (cost_from (step_costs (take n steps)) 0 m) n m bits total after
        → Decoded (run_cost (costs_of l) rate m) n m bits total after
    unfolding costs_of
    decoded d =
        steps_of.read (costs_of l) l (take n steps) rate m n (own_splits l) (all_pairs l g.small) g.known g.in_range_lem
        (rw size (run_whole rate g.known (length l)))
        (λ ys v e. run_symbols_lem rate g.known (length l) g.whole m g.in_range_lem ys v (e ∙ size) ∙ sym (length_list_of (length l) (symbol_cost l)))
        used d

    pub read_out : (bits : List ℕ) {total after : ℕ} → Decoded (cost_from (step_costs (take (n - 0) steps)) 0 m) (length (take (n - 0) output)) m bits total after
        → (k : ℕ) → k ≡ n
        → (BestRead (run_cost (costs_of l) rate m) (run_bits rate (length l)) m output after total n (bits ++ drop k output)) × (after < 64)
    read_out bits {total} {after} d k e =
        let a : n - 0 ≡ n = omega arith in
        let b : length (take (n - 0) output) ≡ n = omega (arith, length-take (n - 0) output, g.fits) in
        let d' : Decoded (cost_from (step_costs (take n steps)) 0 m) n m bits total after =
        subst₂ (λ (i j : ℕ). Decoded (cost_from (step_costs (take i steps)) 0 m) j m bits total after) a b d in (
          record {
            bits = bits;
            decoded = subst (λ (j : ℕ). Decoded (run_cost (costs_of l) rate m) j m bits total after) size (decoded d');
            counted = size;
            written = ap (λ (j : ℕ). bits ++ drop j output) (e ∙ size);
          },
          rw d'.ends (memory_in_range rate m g.known g.in_range_lem d'.best.binary),
        )

-- ---- what the decisions are those on

-- what is decoded of the decisions on symbols is decoded of the symbols, at a cost that is less by what the decisions cost more; and so is what is read
module _ {R : Type 0} (cost : R → ℕ → ℕ) (rs : List R) (l : List ℕ) (c : Costed cost rs l) (rate m : ℕ) (hr : rate < qpsk_count) (hm : m < 64)
    (whole : length rs % symbols_per_pattern rate ≡ 0) where
  abbrev k : ℕ
  k = length rs

  abbrev pub more : ℕ
  more = excess c.extra k

  same : run_bits rate (length l) ≡ run_bits rate k
  same = ap (run_bits rate) c.size

  pub decoded_as : {bits : List ℕ} {total after : ℕ} → Decoded (run_cost (costs_of l) rate m) (run_bits rate (length l)) m bits total after
      → Decoded (run_cost (map cost rs) rate m) (run_bits rate k) m bits (total - more) after
  decoded_as {bits} {total} {after} d =
      decoded_lifted more (run_bits rate k) m
      (λ ys v z. costs_lifted cost rs l c rate m hr hm ys v (run_symbols_lem rate hr k whole m hm ys v z))
      (subst (λ (j : ℕ). Decoded (run_cost (costs_of l) rate m) j m bits total after) same d)

  -- the decisions cost so much at least
  pub costs_more : {bits : List ℕ} {total after : ℕ} → Decoded (run_cost (costs_of l) rate m) (run_bits rate (length l)) m bits total after → more ≤ total
  costs_more {bits} d =
      let b = d.best in
      omega (arith, d.costs, costs_lifted cost rs l c rate m hr hm bits b.binary (run_symbols_lem rate hr k whole m hm bits b.binary (b.size ∙ same)))

  pub read_as : {output : List ℕ} {after total count : ℕ} {left : List ℕ} → BestRead (run_cost (costs_of l) rate m) (run_bits rate (length l)) m output after total count left
      → BestRead (run_cost (map cost rs) rate m) (run_bits rate k) m output after (total - more) count left
  read_as {output} o = record {
    bits = o.bits;
    decoded = decoded_as o.decoded;
    counted = o.counted ∙ same;
    written = o.written ∙ ap (λ (j : ℕ). o.bits ++ drop j output) same;
  }
