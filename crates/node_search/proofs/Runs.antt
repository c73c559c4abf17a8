-- The run that is read of a window: unknown symbols and those turned back. It can be read, and its cost has a bound.
-- Assumes nothing.
use mathlib.Core.Path.{◌≡◌, refl, sym, ◌∙◌, ap, ap₂, subst}
use mathlib.Core.Bool.{Bool, true, false}
use mathlib.Core.List.{List, ◌++◌, map, append_assoc}
use Prim.Native.Nat.{ℕ, zero, suc, ◌+◌, ◌-◌, ◌*◌, ◌/◌, ◌%◌, ◌≤◌, ◌<◌}
use Prim.{tt}
use native.Mathlib.Omega.{arith}
use borrow.Author.Tests.{ltb-true}
use lib.Dec.{eqb, ltb}
use lib.ListN.{length, take, replicate, length-append, length-replicate, length-map}
use lib.Seq.{take_at}
use Rattle.common.specs.Choice.{pick}
use Rattle.common.specs.Lists.{All}
use Rattle.common.proofs.Lists.{All-append}
use Rattle.convolutional_code.specs.Costs.{decision_cost, pair_cost}
use Rattle.inner_code.specs.Encode.{coder_at}
use Rattle.inner_code.specs.Step.{symbols_of}
use Rattle.viterbi_decoder.specs.Best.{Decoded}
use Rattle.reader.specs.Cost.{run_cost, costs_of}
use Rattle.reader.specs.Read.{symbols_per_pattern, run_bits, Readable}
use Rattle.reader.proofs.Laws.{total_le}
use Rattle.free_start.specs.Lead.{lead_symbols}
use Rattle.symbol_turns.specs.Turn.{undoing, turned_pair, by_pair}
use Rattle.symbol_turns.proofs.Turns.{undoing_small, pairs_small, costs_map}
use Rattle.node_search.specs.Weight.{tried_symbols, led_run, LeastCost}
use Rattle.node_search.proofs.Numbers.{numbers}

unknown_small : (n : ℕ) → All (λ p. p < 81) (replicate n 80)
unknown_small zero = tt
unknown_small (suc n) = (omega arith, unknown_small n)

decision_most : (d v : ℕ) → decision_cost d v ≤ 7
decision_most d v = by (eqb v 0) (ltb d 8) refl
  where
    by : (a b : Bool) → ltb d 8 ≡ b → pick a (7 - d) (pick b d 0) ≤ 7
    by true b e = omega arith
    by false true e = let h : d < 8 = ltb-true d 8 e in omega arith
    by false false e = omega arith

pair_most : (p s : ℕ) → by_pair p s ≤ 14
unfolding pair_cost
pair_most p s = omega (arith, decision_most (p / 9) (s / 2), decision_most (p % 9) (s % 2))

pub led_length : (rate turn : ℕ) (pairs : List ℕ) → length pairs ≡ tried_symbols rate → length (led_run rate turn pairs) ≡ lead_symbols rate + tried_symbols rate
led_length rate turn pairs size =
    length-append (replicate (lead_symbols rate) 80) (map (turned_pair (undoing turn)) pairs)
    ∙ ap₂ (λ (x y : ℕ). x + y) (length-replicate {A = ℕ} (lead_symbols rate) 80) (length-map pairs (turned_pair (undoing turn)) ∙ size)

module _ (rate turn : ℕ) (hr : rate < 5) (ht : turn < 8) (pairs : List ℕ) (size : length pairs ≡ tried_symbols rate) where
  long : length (led_run rate turn pairs) ≡ lead_symbols rate + tried_symbols rate
  long = led_length rate turn pairs size

  pub led_readable : All (λ p. p < 81) pairs → (run : List ℕ) → run ≡ led_run rate turn pairs → (output : List ℕ) → length output ≡ 1632 → Readable rate 0 run output
  led_readable w run e output fits =
      let n = numbers rate hr in
      subst (λ (l : List ℕ). Readable rate 0 l output) (sym e)
      record {
        known = hr;
        in_range_lem = omega arith;
        whole = ap (λ (k : ℕ). k % symbols_per_pattern rate) long ∙ n.whole;
        most = rw long n.bits_most;
        small = All-append (λ p. p < 81) (replicate (lead_symbols rate) 80) (map (turned_pair (undoing turn)) pairs) (unknown_small (lead_symbols rate)) (pairs_small (undoing turn) (undoing_small turn ht) pairs w);
        fits = rw (long, fits) n.bits_most;
      }

  pub led_cost : (run : List ℕ) → run ≡ led_run rate turn pairs → {bits : List ℕ} {cost after : ℕ} → Decoded (run_cost (costs_of run) rate 0) (run_bits rate (length run)) 0 bits cost after
      → (LeastCost rate (led_run rate turn pairs) cost) × (cost ≤ 22848)
  led_cost run e {bits} {cost} {after} d =
      let n = numbers rate hr in
      let most : cost ≤ 14 * length run =
      rw (d.costs, costs_map run) (total_le by_pair 14 pair_most run (symbols_of (coder_at rate 0) bits)) in (
        subst (λ (l : List ℕ). LeastCost rate l cost) e (record { bits = bits; after = after; decoded = d }),
        omega (arith, most, ap length e, long, n.run_most),
      )

-- ---- what is written

-- a buffer whose front is filled with unknown symbols, and behind them the turned ones
pub led_written : (rate turn : ℕ) (pairs : List ℕ) (lead : ℕ) → lead ≡ lead_symbols rate → (front behind : List ℕ) → front ≡ replicate lead 80
    → (back : ℕ) → back ≡ undoing turn → (part rest post : List ℕ) → part ≡ map (turned_pair back) pairs ++ rest
    → take (length (led_run rate turn pairs)) (take lead (front ++ behind) ++ (part ++ post)) ≡ led_run rate turn pairs
led_written rate turn pairs lead el front behind ef back eb part rest post ep =
    let turned : List ℕ = map (turned_pair (undoing turn)) pairs in
    let l : length front ≡ lead = ap length ef ∙ length-replicate {A = ℕ} lead 80 in
    let f : take lead (front ++ behind) ≡ replicate (lead_symbols rate) 80 = take_at front behind lead l ∙ (ef ∙ ap (λ (k : ℕ). replicate k 80) el) in
    let all : take lead (front ++ behind) ++ (part ++ post) ≡ led_run rate turn pairs ++ (rest ++ post) =
    ap₂ (λ (x y : List ℕ). x ++ (y ++ post)) f (ep ∙ ap (λ (u : ℕ). map (turned_pair u) pairs ++ rest) eb)
    ∙ (ap (λ (x : List ℕ). replicate (lead_symbols rate) 80 ++ x) (append_assoc turned rest post) ∙ sym (append_assoc (replicate (lead_symbols rate) 80) turned (rest ++ post))) in
    ap (take (length (led_run rate turn pairs))) all ∙ take_at (led_run rate turn pairs) (rest ++ post) (length (led_run rate turn pairs)) refl

-- so much of it is the run
pub led_is : (rate turn : ℕ) (pairs : List ℕ) → length pairs ≡ tried_symbols rate → (lead : ℕ) → lead ≡ lead_symbols rate → (run : List ℕ)
    → take (length (led_run rate turn pairs)) run ≡ led_run rate turn pairs → take (lead + length pairs) run ≡ led_run rate turn pairs
led_is rate turn pairs size lead el run e =
    let n : lead + length pairs ≡ length (led_run rate turn pairs) = omega (arith, el, size, led_length rate turn pairs size) in
    ap (λ (k : ℕ). take k run) n ∙ e
