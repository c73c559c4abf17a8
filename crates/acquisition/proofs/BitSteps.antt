-- Blocks from decoded bits: what every step leaves.
-- Assumes nothing.
use mathlib.Core.Path.{◌≡◌, refl, sym, subst}
use mathlib.Core.Bool.{true≢false}
use mathlib.Core.List.{List}
use Prim.Native.Nat.{ℕ, ◌+◌, ◌<◌}
use native.Mathlib.Omega.{arith}
use lib.ListN.{length}
use Rattle.block_sync.proofs.Histories.{takes_some}
use Rattle.acquisition.specs.End.{last_event}
use Rattle.acquisition.specs.Bits.{BitsReady, bits_found, StepsBits, BitCounts, bits_end, EndsBits, BitEndCounts}
use Rattle.acquisition.specs.declared.Event.{Event}
use Rattle.acquisition.specs.declared.Event.TheVariants.{Waits, Block, Lost}
use Rattle.acquisition.specs.declared.bit_source.BitSource.{BitSource}
use Rattle.acquisition.specs.declared.bit_source.BitStep.{BitStep}
use Rattle.acquisition.specs.declared.bit_source.BitEnd.{BitEnd}
use Rattle.acquisition.proofs.Bits.{feed_counts}
use Rattle.acquisition.proofs.Ready.{fresh_sized, fresh_none}
use Rattle.acquisition.proofs.Ends.{finish_counts}
use Prim.{tt}
use Rattle.acquisition.specs.Reading.{RateKnown}
use Rattle.acquisition.proofs.Events.{event_known, last_known, block_given_lem, few_left, lost_many}

pub bits_step : (s : BitSource) (piece : List ℕ) (r : BitStep) → BitsReady s → s.came + length piece < 1152921504606846976 → StepsBits s piece r
    → (BitsReady r.source) × (BitCounts s piece r)
bits_step s piece r g b x =
    let c = feed_counts s.sync piece x.decided g.sync_sized g.sync_small x.feeds in
    subst (λ (y : BitStep). (BitsReady y.source) × (BitCounts s piece y)) (sym x.result) (
      record {
        sync_sized = c.sized;
        sync_small = c.held_few;
        bits_counted = omega (arith, c.whole, g.bits_counted);
        counts = omega (arith, c.taken_most, b);
      },
      record {
        taken_most = c.taken_most;
        came_is = refl;
        rate_known = event_known _ x.decided.block x.decided.skipped (λ g. omega arith);
        goes = λ p. takes_some x.feeds g.sync_small p;
      },
    )

pub bits_end_lem : (s : BitSource) (r : BitEnd) → BitsReady s → EndsBits s r → (BitsReady r.source) × (BitEndCounts s r)
bits_end_lem s r g x = subst (λ (y : BitEnd). (BitsReady y.source) × (BitEndCounts s y)) (sym x.result) (by (last_event (bits_found s.used x.decided) s.sync.held) refl)
  where
    by : (e : Event) → last_event (bits_found s.used x.decided) s.sync.held ≡ e → (BitsReady (bits_end s x.decided e).source) × (BitEndCounts s (bits_end s x.decided e))
    by Waits q = (g, record { came_is = refl; rate_known = tt; left_few = few_left _ s.sync.held q; goes = λ p. absurd (true≢false p) })
    by (Block b) q =
        let c = finish_counts s.sync x.decided g.sync_sized g.sync_small x.finishes in
        let used = c.uses_block (block_given_lem _ x.decided.block s.sync.held q) in (
          record { sync_sized = c.sized; sync_small = c.held_few; bits_counted = omega (arith, c.whole, g.bits_counted); counts = g.counts },
          record { came_is = refl; rate_known = subst RateKnown q (last_known _ x.decided.block s.sync.held (λ g. omega arith)); left_few = tt; goes = λ p. omega (arith, c.whole, used) },
        )
    by Lost q = (
      record { sync_sized = fresh_sized; sync_small = omega (arith, fresh_none); bits_counted = omega (arith, fresh_none, g.bits_counted); counts = g.counts },
      record { came_is = refl; rate_known = tt; left_few = tt; goes = λ p. omega (arith, fresh_none, lost_many _ s.sync.held q) },
    )
