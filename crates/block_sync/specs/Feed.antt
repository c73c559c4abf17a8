-- What feeding the aligner with a piece of the bits does, and what the end of the bits gives.
-- Assumes nothing.
use Rattle.std.specs.Prelude.{◌≡◌, List, ◌++◌, ℕ, ◌+◌, ◌-◌, ◌≤◌, ◌<◌, length, take, drop, replicate, None, Result, Ok, Err}
use Rattle.answer.specs.declared.Refusal.{Refusal}
use Rattle.answer.specs.declared.Refusal.TheVariants.{StateRange}
use Rattle.common.specs.Lists.{padded}
use Rattle.block_sync.specs.Decision.{unlocked, Decides, used_bits, block_given}
use Rattle.block_sync.specs.declared.Lock.{Lock}
use Rattle.block_sync.specs.declared.Decision.{Decision}
use Rattle.block_sync.specs.declared.BlockSync.{BlockSync}
use Rattle.block_sync.specs.declared.SyncStep.{SyncStep}

abbrev pub holding : Lock → List ℕ → BlockSync
holding k l = record { lock = k; bits = padded 8168 l; held = length l }

abbrev pub held_bits : BlockSync → List ℕ
held_bits s = take s.held s.bits

unfoldable pub fresh_block_sync : BlockSync
fresh_block_sync = record { lock = unlocked; bits = replicate 8168 0; held = 0 }

-- bits are held, none is skipped and no block given
abbrev pub gathered_step : ℕ → BlockSync → SyncStep
gathered_step taken s = record { taken = taken; skipped = 0; block = None; sync = s }

-- what a decision on bits makes of them
abbrev pub turned_step : ℕ → Decision → List ℕ → SyncStep
turned_step taken d l = record { taken = taken; skipped = d.skipped; block = block_given d l; sync = holding d.lock (drop (used_bits d) l) }

pub record TurnsBuffer (taken : ℕ) (k : Lock) (l : List ℕ) (r : SyncStep) : Type 0 where
  pub decision : Decision
  pub decides : Decides k l decision
  pub result : r ≡ turned_step taken decision l

-- Refused where more bits are held than the buffer has room for; else the bits of the piece are held after the others, or as many as fill the buffer, and a
-- decision is made on it.
pub data FeedsSync (s : BlockSync) (piece : List ℕ) : Result SyncStep Refusal → Type 0 where
  refused : 8168 ≤ s.held → FeedsSync s piece (Err StateRange)
  gathered : {r : SyncStep} → s.held + length piece < 8168 → r ≡ gathered_step (length piece) (holding s.lock (held_bits s ++ piece)) → FeedsSync s piece (Ok r)
  turned : {r : SyncStep} → s.held < 8168 → 8168 ≤ s.held + length piece → TurnsBuffer (8168 - s.held) s.lock (held_bits s ++ take (8168 - s.held) piece) r
      → FeedsSync s piece (Ok r)

-- The same at the end of the bits, on those that are held.
pub data FinishesSync (s : BlockSync) : Result SyncStep Refusal → Type 0 where
  refused : 8168 ≤ s.held → FinishesSync s (Err StateRange)
  turned : {r : SyncStep} → s.held < 8168 → TurnsBuffer 0 s.lock (held_bits s) r → FinishesSync s (Ok r)
