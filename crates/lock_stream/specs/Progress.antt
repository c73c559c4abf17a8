-- What is given and told of locks, event after event: docs/ACQUISITION.md, "Packets" and "The lines".
-- A block that begins a lock ends the one before it, and a fresh receiver takes it; every other block is taken by the receiver that took the one before it.
-- Clauses: document 01, "Receiver"; document 02, P5 and P7.
-- Assumes nothing.
use Rattle.std.specs.Prelude.{◌≡◌, Bool, true, false, List, [], ◌++◌, ℕ, ◌+◌, ◌-◌, ◌*◌, ◌/◌, ◌%◌, ◌≤◌, leb, take}
use Rattle.common.specs.Choice.{pick}
use Rattle.answer_lines.specs.Lines.{list_text}
use Rattle.report_lines.specs.Line.{Appended}
use Rattle.report.specs.Text.{report_text}
use Rattle.receiver_stream.specs.Reporting.{report_of}
use Rattle.reader.specs.Read.{symbols_per_pattern}
use Rattle.lock_lines.specs.Lines.{lock_text, lost_text, end_text}
use Rattle.lock_receiver.specs.Take.{fresh_lock, lock_in_range, waiting_told, TakesOne}
use Rattle.lock_receiver.specs.declared.LockReceiver.{LockReceiver}
use Rattle.lock_receiver.specs.declared.LockStep.{LockStep}
use Rattle.acquisition.specs.declared.FoundBlock.{FoundBlock}
use Rattle.acquisition.specs.declared.Event.{Event}
use Rattle.acquisition.specs.declared.Event.TheVariants.{Waits, Block, Lost}
use Rattle.lock_stream.specs.declared.progress.LockProgress.{LockProgress}
use Rattle.lock_stream.specs.declared.progress.Told.{Told}
use Rattle.lock_stream.specs.declared.progress.BlockTaken.{BlockTaken}

unfoldable pub fresh_progress : LockProgress
fresh_progress = record { found = false; locked = false; receiver = fresh_lock; skipped = 0; end = 0 }

-- ---- a block is taken

-- A receiver takes a block: it gives these bytes of packets, and tells these lines of the list.
pub record Takes (s : LockReceiver) (block given lines : List ℕ) (next : LockReceiver) : Type 0 where
  pub packets_room : List ℕ
  pub lines_room : List ℕ
  pub packets_exit : List ℕ
  pub lines_exit : List ℕ
  pub step : LockStep
  pub takes : TakesOne s block packets_room lines_room step packets_exit lines_exit
  pub given_is : given ≡ take (188 * step.given) packets_exit
  pub lines_are : lines ≡ take step.told lines_exit
  pub next_is : next ≡ step.lock

-- The packets stand at the front of their room, and the lines as text from a place on.
pub record TakesText (s : LockReceiver) (block : List ℕ) (at : ℕ) (text : List ℕ) (r : BlockTaken) (packets exit : List ℕ) : Type 0 where
  pub lines : List ℕ
  pub takes : Takes s block (take r.packets packets) lines r.receiver
  pub fits : r.packets ≤ 1504
  pub ready : lock_in_range r.receiver ≡ true
  pub told : Appended (list_text lines) text exit at r.text (at + 512)

-- ---- the lines

-- Where a lock begins: before the pattern of its block's first bit, which stands at this place of a row of patterns.
abbrev pub found_line : Bool → FoundBlock → List ℕ
found_line bits b = lock_text bits b.rate b.turn (b.start % symbols_per_pattern b.rate) b.start

-- the packets that wait where a lock ends
abbrev pub waiting_text : LockReceiver → List ℕ
waiting_text s = list_text (waiting_told s)

-- where a lock ended, and its report
abbrev pub lost_lines : Bool → LockProgress → ℕ → List ℕ
lost_lines bits p rest = lost_text bits p.end p.skipped ++ report_text (report_of p.receiver.receiver.counts rest)

-- a lock that lasts ends before the input does: no byte is behind its last block
abbrev pub ending_text : Bool → LockProgress → List ℕ
ending_text bits p = pick p.locked (waiting_text p.receiver ++ lost_lines bits p 0) []

-- The input ends, behind so many symbols or bits, with so many bits behind the last block of a lock that lasts, and so many bytes of a point that is not whole.
abbrev pub closing_text : Bool → LockProgress → ℕ → ℕ → ℕ → List ℕ
closing_text bits p came left bytes =
    pick p.locked (waiting_text p.receiver ++ end_text bits p.found came (came - p.end) bytes ++ lost_lines bits p (left / 8))
    (end_text bits p.found came (came - p.end) bytes)

-- ---- an event

-- A block begins a lock: so it was found, or no lock lasts, or the receiver has taken as many blocks as it can count.
abbrev pub begun_anew : LockProgress → Bool → Bool
begun_anew p begins = pick begins true (pick p.locked (leb 4294967295 p.receiver.receiver.counts.taken) true)

-- the progress of a lock that begins with a block, and of one that goes on
abbrev pub begun_progress : LockProgress → FoundBlock → LockReceiver → LockProgress
begun_progress p b s = record { found = true; locked = true; receiver = s; skipped = b.start - p.end; end = b.end }

abbrev pub gone_on : LockProgress → FoundBlock → LockReceiver → LockProgress
gone_on p b s = record { found = p.found; locked = true; receiver = s; skipped = p.skipped; end = b.end }

abbrev pub lost_progress : LockProgress → LockProgress
lost_progress p = record { found = p.found; locked = false; receiver = p.receiver; skipped = p.skipped; end = p.end }

-- What an event gives and tells, and the progress after it.
pub data Tells (bits : Bool) (p : LockProgress) (packets text : List ℕ) (next : LockProgress) : Event → Type 0 where
  nothing_told : packets ≡ [] → text ≡ [] → next ≡ p → Tells bits p packets text next Waits
  lock_begins : (b : FoundBlock) (lines : List ℕ) (s : LockReceiver) → begun_anew p b.begins ≡ true → Takes fresh_lock b.bytes packets lines s
      → text ≡ ending_text bits p ++ found_line bits b ++ list_text lines → next ≡ begun_progress p b s → Tells bits p packets text next (Block b)
  lock_goes_on : (b : FoundBlock) (lines : List ℕ) (s : LockReceiver) → begun_anew p b.begins ≡ false → Takes p.receiver b.bytes packets lines s
      → text ≡ list_text lines → next ≡ gone_on p b s → Tells bits p packets text next (Block b)
  lock_ends : packets ≡ [] → text ≡ ending_text bits p → next ≡ lost_progress p → Tells bits p packets text next Lost

-- The packets and the text stand at the front of their rooms.
pub record TellsEvent (bits : Bool) (p : LockProgress) (e : Event) (r : Told) (packets text : List ℕ) : Type 0 where
  pub tells : Tells bits p (take r.packets packets) (take r.text text) r.progress e
  pub packets_fit : r.packets ≤ 1504
  pub text_fits : r.text ≤ 2048
  pub ready : lock_in_range r.progress.receiver ≡ true
