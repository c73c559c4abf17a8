-- A step of the source that is used is one of the source.
-- Assumes nothing.
use mathlib.Core.Path.{◌≡◌, refl, sym, ap, subst}
use mathlib.Core.Bool.{Bool, true, false}
use mathlib.Core.List.{List}
use Prim.Native.Nat.{ℕ, ◌+◌, ◌*◌, ◌<◌, ◌≤◌}
use native.Mathlib.Decide.{ℕ_discrete}
use native.Mathlib.Omega.{arith}
use lib.ListN.{length, length-replicate}
use Rattle.common.specs.Choice.{pick}
use Rattle.block_sync.specs.Feed.{fresh_block_sync}
use Rattle.acquisition.specs.Reading.{idle_reading}
use Rattle.acquisition.specs.Step.{fresh_acquisition, AcquisitionReady, PhaseReady, StepsAcquisition, StepCounts}
use Rattle.acquisition.specs.End.{EndsAcquisition, end_measure, EndCounts}
use Rattle.acquisition.specs.Bits.{BitsReady, StepsBits, BitCounts, EndsBits, BitEndCounts}
use Rattle.acquisition.specs.declared.Acquisition.{Acquisition}
use Rattle.acquisition.specs.declared.Phase.{Phase}
use Rattle.acquisition.specs.declared.Phase.TheVariants.{Searches, Reads}
use Rattle.acquisition.specs.declared.Step.{Step}
use Rattle.acquisition.specs.declared.EndStep.{EndStep}
use Rattle.acquisition.specs.declared.bit_source.BitSource.{BitSource}
use Rattle.acquisition.specs.declared.bit_source.BitStep.{BitStep}
use Rattle.acquisition.specs.declared.bit_source.BitEnd.{BitEnd}
use Rattle.lock_stream.specs.Source.{decoded_of, holding_bits, fresh_source, UsedReady, SourceReady, with_bits, with_symbols, symbols_step, bits_step, symbols_end, bits_end_lem, StepsSource, EndsSource}
use Rattle.lock_stream.specs.declared.source.LockSource.{LockSource}

-- no more symbols are pending than a window has
held_few : {s : Acquisition} → AcquisitionReady s → s.held ≤ 1632
held_few {s} r = by s.phase r.phase_ready
  where
    by : (p : Phase) → PhaseReady s p → s.held ≤ 1632
    by Searches x = omega (arith, x.window_few)
    by Reads x = x.pending_few

-- ---- what is used is in its range

pub bits_ready : {s : LockSource} → SourceReady s → s.bits ≡ true → BitsReady (decoded_of s.symbols)
bits_ready {s} r e = subst (UsedReady s) e r.used

pub symbols_ready : {s : LockSource} → SourceReady s → s.bits ≡ false → AcquisitionReady s.symbols
symbols_ready {s} r e = subst (UsedReady s) e r.used

ready_bits : (s : LockSource) → s.bits ≡ true → BitsReady (decoded_of s.symbols) → SourceReady s
ready_bits s e b = record { used = subst (UsedReady s) (sym e) b }

ready_symbols : (s : LockSource) → s.bits ≡ false → AcquisitionReady s.symbols → SourceReady s
ready_symbols s e b = record { used = subst (UsedReady s) (sym e) b }

fresh_bits : (rate : ℕ) → BitsReady (decoded_of (fresh_acquisition rate))
unfolding fresh_acquisition idle_reading fresh_block_sync
fresh_bits rate = record { sync_sized = length-replicate {A = ℕ} 8168 0; sync_small = omega arith; bits_counted = omega arith; counts = omega arith }

pub fresh_ready : (bits : Bool) (rate : ℕ) → AcquisitionReady (fresh_acquisition rate) → SourceReady (fresh_source bits rate)
unfolding fresh_source
fresh_ready true rate a = record { used = fresh_bits rate }
fresh_ready false rate a = record { used = a }

-- ---- a step

bits_steps : (s : LockSource) (piece : List ℕ) (t : BitStep) → s.bits ≡ true → 0 < length piece → StepsBits (decoded_of s.symbols) piece t → BitsReady t.source
    → BitCounts (decoded_of s.symbols) piece t → StepsSource s piece (record { source = with_bits s t.source; taken = t.taken; event = t.event })
bits_steps s piece t e l d b n = record {
  steps = bits_step e t d refl;
  ready = ready_bits (with_bits s t.source) e b;
  same = refl;
  within = n.taken_most;
  counted = n.came_is;
  known = n.rate_known;
  goes = λ left. let g = n.goes l in omega arith;
}

-- of the bits that were taken out of an acquisition, and of the acquisition into which they were put back
pub bits_stepped : (s : LockSource) (piece : List ℕ) (d : BitSource) (t : BitStep) (next : Acquisition) → s.bits ≡ true → d ≡ decoded_of s.symbols → next ≡ holding_bits s.symbols t.source
    → 0 < length piece → StepsBits d piece t → BitsReady t.source → BitCounts d piece t
    → StepsSource s piece (record { source = record { bits = s.bits; symbols = next }; taken = t.taken; event = t.event })
bits_stepped s piece d t next e u v l x b n = rw v (bits_steps s piece t e l (rw u at x) b (rw u at n))

pub symbols_stepped : (s : LockSource) (piece : List ℕ) (t : Step) → s.bits ≡ false → 0 < length piece → StepsAcquisition s.symbols piece t
    → AcquisitionReady t.acquisition → StepCounts s.symbols piece t
    → StepsSource s piece (record { source = with_symbols s t.acquisition; taken = t.taken; event = t.event })
symbols_stepped s piece t e l d b n = record {
  steps = symbols_step e t d refl;
  ready = ready_symbols (with_symbols s t.acquisition) e b;
  same = refl;
  within = n.taken_most;
  counted = n.came_is;
  known = n.rate_known;
  goes = λ left. goes left (ℕ_discrete t.taken 0);
}
  where
    held : (n : ℕ) → pick s.bits 0 n ≡ n
    held n = ap (λ (b : Bool). pick b 0 n) e

    goes : (left : ℕ) → Dec (t.taken ≡ 0) → left * 2000 + pick s.bits 0 t.acquisition.held < (left + t.taken) * 2000 + pick s.bits 0 s.symbols.held
    goes left (yes z) = let g = n.goes l z in omega (arith, held t.acquisition.held, held s.symbols.held)
    goes left (no z) = omega (arith, held t.acquisition.held, held_few b)

-- ---- a step of the end

bits_ends : (s : LockSource) (t : BitEnd) → s.bits ≡ true → EndsBits (decoded_of s.symbols) t → BitsReady t.source → BitEndCounts (decoded_of s.symbols) t
    → EndsSource s (record { source = with_bits s t.source; event = t.event; over = t.over })
bits_ends s t e d b n = record {
  ends = bits_end_lem e t d refl;
  ready = ready_bits (with_bits s t.source) e b;
  same = refl;
  counted = n.came_is;
  known = n.rate_known;
  few = n.left_few;
  goes = λ o. let g = n.goes o in omega (arith, measured t.source.sync.held (end_measure (with_bits s t.source).symbols), measured s.symbols.reading.sync.held (end_measure s.symbols));
}
  where
    measured : (m n : ℕ) → pick s.bits m n ≡ m
    measured m n = ap (λ (b : Bool). pick b m n) e

pub bits_ended : (s : LockSource) (d : BitSource) (t : BitEnd) (next : Acquisition) → s.bits ≡ true → d ≡ decoded_of s.symbols → next ≡ holding_bits s.symbols t.source
    → EndsBits d t → BitsReady t.source → BitEndCounts d t
    → EndsSource s (record { source = record { bits = s.bits; symbols = next }; event = t.event; over = t.over })
bits_ended s d t next e u v x b n = rw v (bits_ends s t e (rw u at x) b (rw u at n))

pub symbols_ended : (s : LockSource) (t : EndStep) → s.bits ≡ false → EndsAcquisition s.symbols t → AcquisitionReady t.acquisition → EndCounts s.symbols t
    → EndsSource s (record { source = with_symbols s t.acquisition; event = t.event; over = t.over })
symbols_ended s t e d b n = record {
  ends = symbols_end e t d refl;
  ready = ready_symbols (with_symbols s t.acquisition) e b;
  same = refl;
  counted = n.came_is;
  known = n.rate_known;
  few = n.left_few;
  goes = λ o. let g = n.goes o in omega (arith, measured t.acquisition.reading.sync.held (end_measure t.acquisition), measured s.symbols.reading.sync.held (end_measure s.symbols));
}
  where
    measured : (m n : ℕ) → pick s.bits m n ≡ n
    measured m n = ap (λ (b : Bool). pick b m n) e
