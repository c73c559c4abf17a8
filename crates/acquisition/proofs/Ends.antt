-- What the end of a reading counts.
-- Assumes nothing.
use Rattle.std.specs.Prelude.{Ok, is_some}
use mathlib.Core.Path.{◌≡◌, sym, ap, subst}
use mathlib.Core.Bool.{Bool, true}
use mathlib.Core.List.{List}
use Prim.Native.Nat.{ℕ, zero, suc, ◌+◌, ◌-◌, ◌*◌, ◌/◌, ◌<◌, ◌≤◌}
use native.Mathlib.Omega.{arith}
use lib.ListN.{length, drop, length-drop}
use Rattle.common.specs.Choice.{pick}
use Rattle.puncturing.specs.Mode.{mode_of}
use Rattle.puncturing.specs.Step.{pattern_length}
use Rattle.reader.specs.Read.{symbols_per_pattern, run_bits}
use Rattle.reader_stream.specs.Runs.{RunsReady, ClosesRuns}
use Rattle.reader_stream.specs.declared.symbol_runs.SymbolRuns.{SymbolRuns}
use Rattle.reader_stream.proofs.Runs.{short_run}
use Rattle.block_sync.specs.Decision.{used_bits, block_given}
use Rattle.block_sync.specs.Feed.{held_bits, FinishesSync, turned}
use Rattle.block_sync.specs.declared.BlockSync.{BlockSync}
use Rattle.block_sync.specs.declared.SyncStep.{SyncStep}
use Rattle.block_sync.proofs.Decisions.{used_within, skipped_within}
use Rattle.block_sync.proofs.Buffers.{held_length, given_same}
use Rattle.acquisition.specs.Reading.{used_by}
use Rattle.acquisition.proofs.Bits.{padded_length}

-- ---- bits

-- what a call at the end of the bits counts
pub record FinishCounts (s : BlockSync) (r : SyncStep) : Type 0 where
  pub skipped_few : r.skipped ≤ 8168
  pub sized : length r.sync.bits ≡ 8168
  pub held_few : r.sync.held < 8168
  pub whole : used_by r + r.sync.held ≡ s.held
  pub uses_block : is_some r.block ≡ true → 1632 ≤ used_by r

pub finish_counts : (s : BlockSync) (r : SyncStep) → length s.bits ≡ 8168 → s.held < 8168 → FinishesSync s (Ok r) → FinishCounts s r
finish_counts s r e h (turned g t) =
    let d = t.decision in
    let n : length (held_bits s) ≡ s.held = held_length s e (omega (arith, h)) in
    let u : used_bits d ≤ length (held_bits s) = used_within t.decides in
    let k : d.skipped ≤ length (held_bits s) = skipped_within t.decides in
    let z : length (drop (used_bits d) (held_bits s)) ≡ length (held_bits s) - used_bits d = length-drop (used_bits d) (held_bits s) in
    let same : d.skipped + pick (is_some (block_given d (held_bits s))) 1632 0 ≡ used_bits d = ap (λ (b : Bool). d.skipped + pick b 1632 0) (given_same d.begins _) in
    subst (λ (x : SyncStep). FinishCounts s x) (sym t.result)
    (record {
      skipped_few = omega (arith, k, n, h);
      sized = padded_length 8168 (drop (used_bits d) (held_bits s)) (omega (arith, z, n, h));
      held_few = omega (arith, z, n, h);
      whole = omega (arith, u, z, n, same);
      uses_block = λ p. some _ d.skipped p;
    })
  where
    some : (b : Bool) (k : ℕ) → b ≡ true → 1632 ≤ k + pick b 1632 0
    some b k p = rw p (omega arith)

-- ---- symbols

-- no more than two bits for a symbol
pub bits_double : (rate : ℕ) → rate < 5 → (n : ℕ) → pattern_length rate * (n / symbols_per_pattern rate) ≤ 2 * n
unfolding symbols_per_pattern mode_of
bits_double zero h n = omega arith
bits_double (suc zero) h n = omega arith
bits_double (suc (suc zero)) h n = omega arith
bits_double (suc (suc (suc zero))) h n = omega arith
bits_double (suc (suc (suc (suc zero)))) h n = omega arith
bits_double (suc (suc (suc (suc (suc k))))) h n = absurd (omega (arith, h))

-- what closing the runs counts
pub close_counts : (s : SymbolRuns) (output exit : List ℕ) (count rest : ℕ) → RunsReady s → ClosesRuns s output count rest exit → (count ≤ 1632) × (count ≤ 2 * s.count)
close_counts s output exit count rest g x =
    let m = symbols_per_pattern s.rate * x.whole in
    let a : m ≤ s.count = omega (arith, x.split) in
    let b : run_bits s.rate m ≤ 1632 = short_run s.rate m (omega (arith, a, g.below)) in
    let c : pattern_length s.rate * (m / symbols_per_pattern s.rate) ≤ 2 * m = bits_double s.rate g.known m in
    (omega (arith, x.bits.counted, b), omega (arith, x.bits.counted, c, a))
