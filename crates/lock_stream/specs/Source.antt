-- Where blocks come from: received symbols, by an acquisition, or decoded bits, which the reading of an acquisition holds that reads no symbols. A step of the
-- source is a step of the one that is used.
-- Assumes nothing.
use Rattle.std.specs.Prelude.{◌≡◌, Bool, true, false, List, ℕ, ◌+◌, ◌*◌, ◌<◌, ◌≤◌, length, IfSome, IsNone}
use Rattle.common.specs.Choice.{pick}
use Rattle.acquisition.specs.Step.{fresh_acquisition, AcquisitionReady, StepsAcquisition}
use Rattle.acquisition.specs.End.{EndsAcquisition, end_measure}
use Rattle.acquisition.specs.Reading.{RateKnown}
use Rattle.acquisition.specs.Bits.{BitsReady, StepsBits, EndsBits}
use Rattle.acquisition.specs.declared.Acquisition.{Acquisition}
use Rattle.acquisition.specs.declared.bit_source.BitSource.{BitSource}
use Rattle.acquisition.specs.declared.Step.{Step}
use Rattle.acquisition.specs.declared.EndStep.{EndStep}
use Rattle.acquisition.specs.declared.bit_source.BitStep.{BitStep}
use Rattle.acquisition.specs.declared.bit_source.BitEnd.{BitEnd}
use Rattle.lock_stream.specs.declared.source.LockSource.{LockSource}
use Rattle.lock_stream.specs.declared.source.SourceStep.{SourceStep}
use Rattle.lock_stream.specs.declared.source.SourceEnd.{SourceEnd}

unfoldable pub fresh_source : Bool → ℕ → LockSource
fresh_source bits rate = record { bits = bits; symbols = fresh_acquisition rate }

-- how many symbols or bits came
abbrev pub came_of : LockSource → ℕ
came_of s = s.symbols.came

-- the bits that an acquisition holds: the blocks in progress of its reading, how many bits these used up, and how many came
abbrev pub decoded_of : Acquisition → BitSource
decoded_of a = record { sync = a.reading.sync; used = a.reading.used; came = a.came }

-- the same acquisition with other bits
abbrev pub holding_bits : Acquisition → BitSource → Acquisition
holding_bits a d = record {
  rate = a.rate;
  mirrored = a.mirrored;
  phase = a.phase;
  reading = record { turn = a.reading.turn; runs = a.reading.runs; sync = d.sync; first = a.reading.first; used = d.used };
  pending = a.pending;
  held = a.held;
  came = d.came;
}

-- what is used is in its range
abbrev pub UsedReady : LockSource → Bool → Type 0
UsedReady s true = BitsReady (decoded_of s.symbols)
UsedReady s false = AcquisitionReady s.symbols

pub record SourceReady (s : LockSource) : Type 0 where
  pub used : UsedReady s s.bits

abbrev pub with_bits : LockSource → BitSource → LockSource
with_bits s d = record { bits = s.bits; symbols = holding_bits s.symbols d }

abbrev pub with_symbols : LockSource → Acquisition → LockSource
with_symbols s a = record { bits = s.bits; symbols = a }

-- ---- a step

pub data SourceSteps (s : LockSource) (piece : List ℕ) (r : SourceStep) : Type 0 where
  symbols_step : s.bits ≡ false → (t : Step) → StepsAcquisition s.symbols piece t
      → r ≡ record { source = with_symbols s t.acquisition; taken = t.taken; event = t.event } → SourceSteps s piece r
  bits_step : s.bits ≡ true → (t : BitStep) → StepsBits (decoded_of s.symbols) piece t
      → r ≡ record { source = with_bits s t.source; taken = t.taken; event = t.event } → SourceSteps s piece r

-- how many steps are ahead, at most: it takes symbols, or those that are pending get fewer
abbrev pub steps_ahead : LockSource → ℕ → ℕ
steps_ahead s left = left * 2000 + pick s.bits 0 s.symbols.held

pub record StepsSource (s : LockSource) (piece : List ℕ) (r : SourceStep) : Type 0 where
  pub steps : SourceSteps s piece r
  pub ready : SourceReady r.source
  pub same : r.source.bits ≡ s.bits
  pub within : r.taken ≤ length piece
  pub counted : came_of r.source ≡ came_of s + r.taken
  pub known : RateKnown r.event
  pub goes : (left : ℕ) → steps_ahead r.source left < steps_ahead s (left + r.taken)

-- ---- a step of the end

pub data SourceEnds (s : LockSource) (r : SourceEnd) : Type 0 where
  symbols_end : s.bits ≡ false → (t : EndStep) → EndsAcquisition s.symbols t
      → r ≡ record { source = with_symbols s t.acquisition; event = t.event; over = t.over } → SourceEnds s r
  bits_end_lem : s.bits ≡ true → (t : BitEnd) → EndsBits (decoded_of s.symbols) t
      → r ≡ record { source = with_bits s t.source; event = t.event; over = t.over } → SourceEnds s r

abbrev pub ends_ahead : LockSource → ℕ
ends_ahead s = pick s.bits s.symbols.reading.sync.held (end_measure s.symbols)

pub record EndsSource (s : LockSource) (r : SourceEnd) : Type 0 where
  pub ends : SourceEnds s r
  pub ready : SourceReady r.source
  pub same : r.source.bits ≡ s.bits
  pub counted : came_of r.source ≡ came_of s
  pub known : RateKnown r.event
  pub few : IfSome r.over (λ left. left < 1632)
  pub goes : IsNone r.over → ends_ahead r.source < ends_ahead s
