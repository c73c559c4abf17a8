-- A stream of locks: what a step of it gives and tells, step after step, and its end.
-- Assumes nothing.
use Rattle.std.specs.Prelude.{◌≡◌, Bool, true, List, [], ◌++◌, ℕ, ◌≤◌, take, Option, None}
use Rattle.lock_receiver.specs.Take.{lock_in_range}
use Rattle.lock_stream.specs.Progress.{fresh_progress, Tells}
use Rattle.lock_stream.specs.Source.{fresh_source, SourceReady, StepsSource, EndsSource}
use Rattle.lock_stream.specs.declared.LockStream.{LockStream}
use Rattle.lock_stream.specs.declared.StreamStep.{StreamStep}
use Rattle.lock_stream.specs.declared.StreamEnd.{StreamEnd}
use Rattle.lock_stream.specs.declared.source.SourceStep.{SourceStep}
use Rattle.lock_stream.specs.declared.source.SourceEnd.{SourceEnd}

unfoldable pub fresh_stream : Bool → ℕ → LockStream
fresh_stream bits rate = record { source = fresh_source bits rate; progress = fresh_progress }

pub record StreamReady (s : LockStream) : Type 0 where
  pub source : SourceReady s.source
  pub receiver : lock_in_range s.progress.receiver ≡ true

-- ---- a step

-- A step of the source, and what its event gives and tells: these bytes of packets, and this text.
pub record StreamSteps (s : LockStream) (piece : List ℕ) (taken : ℕ) (packets text : List ℕ) (next : LockStream) : Type 0 where
  pub step : SourceStep
  pub source_steps : StepsSource s.source piece step
  pub taken_is : taken ≡ step.taken
  pub source_is : next.source ≡ step.source
  pub tells : Tells s.source.bits s.progress packets text next.progress step.event

-- They stand at the front of their rooms.
pub record StepsStream (s : LockStream) (piece : List ℕ) (r : StreamStep) (packets text : List ℕ) : Type 0 where
  pub steps : StreamSteps s piece r.taken (take r.packets packets) (take r.text text) r.stream
  pub packets_fit : r.packets ≤ 1504
  pub text_fits : r.text ≤ 2048
  pub ready : StreamReady r.stream

-- ---- a step of the end

pub record StreamEnds (s : LockStream) (over : Option ℕ) (packets text : List ℕ) (next : LockStream) : Type 0 where
  pub end : SourceEnd
  pub source_ends : EndsSource s.source end
  pub over_is : over ≡ end.over
  pub source_is : next.source ≡ end.source
  pub tells : Tells s.source.bits s.progress packets text next.progress end.event

pub record EndsStream (s : LockStream) (r : StreamEnd) (packets text : List ℕ) : Type 0 where
  pub ends : StreamEnds s r.over (take r.packets packets) (take r.text text) r.stream
  pub packets_fit : r.packets ≤ 1504
  pub text_fits : r.text ≤ 2048
  pub ready : StreamReady r.stream

-- ---- step after step

-- From a fresh stream on: the symbols or bits that were taken, the bytes of packets that were given, and what was told, one after the other.
pub data LockSteps (bits : Bool) (rate : ℕ) : List ℕ → List ℕ → List ℕ → LockStream → Type 0 where
  fresh : LockSteps bits rate [] [] [] (fresh_stream bits rate)
  stepped : {came packets text : List ℕ} {s next : LockStream} (piece given told : List ℕ) (taken : ℕ) → LockSteps bits rate came packets text s
      → StreamSteps s piece taken given told next → LockSteps bits rate (came ++ take taken piece) (packets ++ given) (text ++ told) next

-- The end: step after step until one is over, with so many bits behind the last block.
pub data LockEnds (s : LockStream) : Option ℕ → List ℕ → List ℕ → LockStream → Type 0 where
  ending : LockEnds s None [] [] s
  ended : {packets text : List ℕ} {t next : LockStream} (over : Option ℕ) (given told : List ℕ) → LockEnds s None packets text t
      → StreamEnds t over given told next → LockEnds s over (packets ++ given) (text ++ told) next
