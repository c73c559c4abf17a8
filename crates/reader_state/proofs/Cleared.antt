-- Runs with zeros where they hold nothing: they hold the same, and are in range where the runs are ready; and runs in range are ready, and are such runs.
-- Assumes nothing.
use mathlib.Core.Path.{◌≡◌, sym, ap, subst, ◌∙◌}
use mathlib.Core.Bool.{true}
use mathlib.Core.List.{List, ◌++◌}
use Prim.Native.Nat.{ℕ, ◌-◌, ◌≤◌, ◌<◌}
use native.Mathlib.Omega.{arith}
use borrow.Author.Tests.{eq-eqb, lt-ltb, eqb-true, ltb-true}
use lib.Dec.{eqb, ltb}
use lib.ListN.{length, get_or, take, drop, replicate, length-append, length-drop, length-replicate, length-take, take-append-drop}
use lib.Seq.{drop_at, take_at, get_or-take}
use Rattle.common.specs.Lists.{All, largest, padded}
use Rattle.common.proofs.Choice.{both_true}
use Rattle.common.proofs.Entries.{entries_below, entries_append}
use Rattle.common.proofs.Largest.{largest_least, largest_most, largest_none, largest_zeros}
use Rattle.common.proofs.Lists.{All-of, All-at}
use Rattle.puncturing.specs.Mode.{qpsk_count}
use Rattle.reader_stream.specs.Runs.{full_symbols, held_of, RunsReady, RunsHold}
use Rattle.reader_stream.specs.declared.symbol_runs.SymbolRuns.{SymbolRuns}
use Rattle.reader_stream.proofs.Runs.{numbers}
use Rattle.reader_state.specs.Runs.{runs_in_range, cleared_runs}

-- ---- zeros behind some bytes

-- the bytes at the front of a list, with zeros behind them
module _ (size n : ℕ) (l : List ℕ) (sized : length l ≡ size) (few : n ≤ size) where
  front_length : length (take n l) ≡ n
  front_length = omega (arith, length-take n l)

  pub padded_length : length (padded size (take n l)) ≡ size
  padded_length = length-append (take n l) (replicate (size - length (take n l)) 0) ∙ omega (arith, length-replicate {A = ℕ} (size - length (take n l)) 0, front_length)

  pub padded_front : take n (padded size (take n l)) ≡ take n l
  padded_front = take_at (take n l) (replicate (size - length (take n l)) 0) n front_length

  pub padded_behind : largest (drop n (padded size (take n l))) ≡ 0
  padded_behind = ap largest (drop_at (take n l) (replicate (size - length (take n l)) 0) n front_length) ∙ largest_zeros (size - length (take n l))

  -- a list that has zeros there is that list
  pub padded_same : largest (drop n l) ≡ 0 → padded size (take n l) ≡ l
  padded_same z =
      let k : length (drop n l) ≡ size - length (take n l) = omega (arith, length-drop n l, front_length) in
      sym (ap (λ (x : List ℕ). take n l ++ x) (largest_none (drop n l) z ∙ ap (λ (j : ℕ). replicate j 0) k)) ∙ take-append-drop n l

  -- numbers below a limit at the front are below it all
  pub padded_small : (limit : ℕ) → 0 < limit → All (λ c. c < limit) (take n l) → largest (padded size (take n l)) < limit
  padded_small limit some small =
      let m = size - length (take n l) in
      let own : (i : ℕ) → get_or (take n l) i 0 < limit
      = entries_below (λ c. c < limit) some (take n l) (λ i k. All-at (λ c. c < limit) (take n l) 0 i small k) in
      let zeros : (i : ℕ) → get_or (replicate m 0) i 0 < limit = λ i. omega (arith, largest_least (replicate m 0) i, largest_zeros m) in
      let h = largest_most (padded size (take n l)) (limit - 1) (λ i b. let k = entries_append (λ c. c < limit) some (take n l) (replicate m 0) own zeros i in omega arith) in
      omega arith

-- numbers of which the largest is below a limit
pub front_small : (n : ℕ) (l : List ℕ) (limit : ℕ) → largest l < limit → All (λ c. c < limit) (take n l)
front_small n l limit small =
    All-of (λ c. c < limit) (take n l) 0
    (λ i k. let e = get_or-take n l i 0 (omega (arith, length-take n l)) in omega (arith, largest_least l i))

-- ---- runs

-- runs in range are ready, and have zeros where they hold nothing
pub runs_ready : (s : SymbolRuns) → length s.held ≡ 1632 → runs_in_range s ≡ true → RunsReady s × (largest (drop s.count s.held) ≡ 0)
runs_ready s sized r =
    let rate = both_true (ltb s.rate qpsk_count) _ r in
    let memory = both_true (ltb s.memory 64) _ rate.1 in
    let few = both_true (ltb s.count (full_symbols s.rate)) _ memory.1 in
    let cells = both_true (eqb (largest (drop s.count s.held)) 0) (ltb (largest s.held) 81) few.1 in (
      record {
        known = ltb-true s.rate qpsk_count rate.0;
        in_range_lem = ltb-true s.memory 64 memory.0;
        size = sized;
        below = ltb-true s.count (full_symbols s.rate) few.0;
        small = front_small s.count s.held 81 (ltb-true (largest s.held) 81 cells.1);
      },
      eqb-true (largest (drop s.count s.held)) 0 cells.0,
    )

module _ (s : SymbolRuns) (g : RunsReady s) where
  few_held : s.count ≤ 1632
  few_held = omega (arith, g.below, (numbers s.rate g.known).full_most)

  pub cleared_held : held_of (cleared_runs s) ≡ held_of s
  cleared_held = padded_front 1632 s.count s.held g.size few_held

  pub cleared_ready : RunsReady (cleared_runs s)
  cleared_ready = record {
    known = g.known;
    in_range_lem = g.in_range_lem;
    size = padded_length 1632 s.count s.held g.size few_held;
    below = g.below;
    small = subst (All (λ c. c < 81)) (sym cleared_held) g.small;
  }

  pub cleared_in_range : runs_in_range (cleared_runs s) ≡ true
  cleared_in_range =
      simp (
        lt-ltb _ _ g.known,
        lt-ltb _ _ g.in_range_lem,
        lt-ltb _ _ g.below,
        eq-eqb _ _ (padded_behind 1632 s.count s.held g.size few_held),
        lt-ltb _ _ (padded_small 1632 s.count s.held g.size few_held 81 (omega arith) g.small),
      )

  pub cleared_holds : {rate memory : ℕ} {pairs : List ℕ} → RunsHold s rate memory pairs → RunsHold (cleared_runs s) rate memory pairs
  cleared_holds h = record { rate_is = h.rate_is; memory_is = h.memory_is; held_is = cleared_held ∙ h.held_is }

  -- runs that have zeros there are those runs
  pub cleared_same : largest (drop s.count s.held) ≡ 0 → cleared_runs s ≡ s
  cleared_same z =
      let e = padded_same 1632 s.count s.held g.size few_held z in
      λ i. record { rate = s.rate; memory = s.memory; held = e i; count = s.count }
