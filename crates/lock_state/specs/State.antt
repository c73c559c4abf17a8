-- The state of a lock as 15,121 bytes: that of the receiver of blocks of the last lock, that of the acquisition, and what was given and told.
-- Clauses: EN 300 421, 4.4.2 and 4.4.3, note 1 (source document 002); document 01, "Receiver".
-- Assumes nothing.
use Rattle.std.specs.Prelude.{◌≡◌, Bool, false, List, [], ◌∷◌, ◌++◌, ℕ, ◌*◌, ◌<◌, eqb, ltb, length, take, drop}
use Rattle.common.specs.Choice.{pick}
use Rattle.common.specs.Lists.{largest, padded}
use Rattle.state_bytes.specs.Table as table
use Rattle.state_bytes.specs.Table.{Field, field, fields_within, fields_of}
use Rattle.reception_counts.specs.Bytes.{to_bytes}
use Rattle.receiver.specs.declared.Receiver.{Receiver}
use Rattle.receiver_state.specs.State as receiver
use Rattle.acquisition_state.specs.State as acquisition
use Rattle.acquisition_state.specs.State.{flags_byte}
use Rattle.losses.specs.Watch.{waiting_of}
use Rattle.losses.specs.declared.Certainty.{Certainty}
use Rattle.losses.specs.declared.Certainty.TheVariants.{Sure, Unsure}
use Rattle.lock_receiver.specs.Take.{lock_in_range}
use Rattle.lock_receiver.specs.declared.LockReceiver.{LockReceiver}
use Rattle.lock_stream.specs.declared.LockStream.{LockStream}
use Rattle.lock_stream.specs.declared.progress.LockProgress.{LockProgress}

-- what is known of the places as a number: how many packets wait, and 8 where it is sure
abbrev pub code_of : Certainty → ℕ
code_of Sure = 8
code_of (Unsure n) = n

abbrev pub certainty_of : ℕ → Certainty
certainty_of code = pick (eqb code 8) Sure (Unsure code)

-- ---- the table

-- how many symbols were skipped before the last lock
abbrev pub skipped : Field LockStream
skipped = field 13788 8 (λ s. to_bytes 8 s.progress.skipped)

-- how many came before the bit behind its last block
abbrev pub end : Field LockStream
end = field 13796 8 (λ s. to_bytes 8 s.progress.end)

-- how many packets wait, as many as can wait before the place of the next one, 7 at most; or 32 where none has to; 8 more where there was a lock, and 16 more where one lasts
abbrev pub certain : Field LockStream
certain = field 13804 1 (λ s. flags_byte (code_of s.progress.receiver.certainty) s.progress.found s.progress.locked ∷ [])

-- the packets that wait, and zeros behind them
abbrev pub packets : Field LockStream
packets = field 13805 1316 (λ s. s.progress.receiver.packets)

-- All fields in their order: those of the receiver of blocks (receiver_state/specs/State.antt), of the acquisition (acquisition_state/specs/State.antt), and these.
abbrev pub own : List (Field LockStream)
own = skipped ∷ end ∷ certain ∷ packets ∷ []

abbrev pub layout : List (Field LockStream)
layout = fields_within (λ s. s.progress.receiver.receiver) receiver.layout ++ (fields_within (λ s. s.source.symbols) acquisition.layout ++ own)

abbrev pub state_length : ℕ
state_length = 15121

-- ---- which bytes stand for a lock

-- zeros behind the packets that wait
abbrev pub packets_clear : LockReceiver → Bool
packets_clear v = eqb (largest (drop (188 * waiting_of v.certainty) v.packets)) 0

abbrev pub fits : ℕ → Bool
fits n = ltb n 18446744073709551616

-- symbols come, the acquisition is in range, the receiver's own range test passes, and no cell holds what nobody asks for: so no bit is spare
abbrev pub in_range : LockStream → Bool
in_range s =
    pick s.source.bits false
    (pick (acquisition.in_range s.source.symbols) (pick (lock_in_range s.progress.receiver) (pick (packets_clear s.progress.receiver) (pick (fits s.progress.skipped) (fits s.progress.end) false) false) false) false)

abbrev pub state_bytes : LockStream → List ℕ
state_bytes s = fields_of layout s

abbrev pub StandsFor : List ℕ → LockStream → Type 0
StandsFor bytes s = table.StandsFor layout in_range bytes s

-- each array is as long as it is, and each count fits eight bytes
pub record Sized (s : LockStream) : Type 0 where
  pub pending : length s.source.symbols.pending ≡ 1632
  pub pairs : length s.source.symbols.reading.runs.held ≡ 1632
  pub bits : length s.source.symbols.reading.sync.bits ≡ 8168
  pub packets : length s.progress.receiver.packets ≡ 1316
  pub skipped : s.progress.skipped < 18446744073709551616
  pub end : s.progress.end < 18446744073709551616

-- each array of its receiver of blocks is as long as it is
pub record BlocksSized (r : Receiver) : Type 0 where
  pub cells : length r.deinterleaver.branches.cells ≡ 1122
  pub positions : length r.deinterleaver.branches.positions ≡ 12
  pub marks : length r.marks ≡ 1122

-- and each count fits eight bytes
pub record NextSized (s : LockStream) : Type 0 where
  pub blocks : BlocksSized s.progress.receiver.receiver
  pub packets : length s.progress.receiver.packets ≡ 1316
  pub skipped : s.progress.skipped < 18446744073709551616
  pub end : s.progress.end < 18446744073709551616

-- ---- the same lock, with zeros where nothing is held

abbrev pub cleared_receiver : LockReceiver → LockReceiver
cleared_receiver v = record { receiver = v.receiver; certainty = v.certainty; packets = padded 1316 (take (188 * waiting_of v.certainty) v.packets) }

abbrev pub cleared_progress : LockProgress → LockProgress
cleared_progress p = record { found = p.found; locked = p.locked; receiver = cleared_receiver p.receiver; skipped = p.skipped; end = p.end }

abbrev pub cleared : LockStream → LockStream
cleared s = record { source = record { bits = s.source.bits; symbols = acquisition.cleared s.source.symbols }; progress = cleared_progress s.progress }
