-- Block after block from a fresh value on, and what they come to: which of the receiver's packets are given, and which are told or wait.
-- Clauses: document 01, "Receiver"; document 02, P4 and P5.
-- Assumes nothing.
use Rattle.std.specs.Prelude.{◌≡◌, Bool, true, false, ℕ, ◌+◌, ◌<◌, length, get_or, take, drop, replicate, Result, Ok}
use mathlib.Core.List.{List, [], ◌∷◌, ◌++◌, flatten}
use Rattle.common.specs.Choice.{pick}
use Rattle.common.specs.Lists.{All, chunks}
use Rattle.answer.specs.Number.{given_or}
use Rattle.answer.specs.declared.Refusal.{Refusal}
use Rattle.group_sync.specs.declared.Outcome.{Outcome}
use Rattle.receiver.specs.Receive.{fresh_receiver}
use Rattle.receiver.specs.Run.{Plain, lent_blocks, after_calls, packets_given}
use Rattle.receiver.specs.Begun.{lefts, packet_of}
use Rattle.losses.specs.List.{line_of, sure_after}
use Rattle.losses.specs.History.{blocks_of, LossList}
use Rattle.lock_receiver.specs.Take.{waiting_packets, fresh_lock, lock_refusal, TakesBlock, waiting_told}
use Rattle.lock_receiver.specs.declared.LockReceiver.{LockReceiver}
use Rattle.lock_receiver.specs.declared.LockStep.{LockStep}

-- A history of calls from a fresh value on, each with the value that the one before it left: the blocks that were taken, the packets that were given and
-- the lines that were told, one after the other. A call that was refused brings nothing.
pub data LockTakes : List (List ℕ) → List (List ℕ) → List ℕ → LockReceiver → Type 0 where
  fresh : LockTakes [] [] [] fresh_lock
  refusing : {blocks given : List (List ℕ)} {lines : List ℕ} {v : LockReceiver} (block output room exit roomExit : List ℕ) (r : Result LockStep Refusal) → LockTakes blocks given lines v
      → 0 < lock_refusal v block output room → TakesBlock v block output room r exit roomExit → LockTakes blocks given lines (given_or v (λ s. s.lock) r)
  taking : {blocks given : List (List ℕ)} {lines : List ℕ} {v : LockReceiver} (block output room exit roomExit : List ℕ) (r : LockStep) → LockTakes blocks given lines v
      → lock_refusal v block output room ≡ 0 → TakesBlock v block output room (Ok r) exit roomExit
      → LockTakes (blocks ++ block ∷ []) (given ++ chunks 188 r.given exit) (lines ++ take r.told roomExit) r.lock

-- ---- the packets of the list of losses

abbrev pub is_none : List ℕ → Bool
is_none [] = true
is_none (l ∷ ls) = false

-- the packets of the blocks that have no line, from what the blocks came to and what decoding left of each
abbrev pub unlisted_from : ℕ → Bool → List Outcome → List (List ℕ) → List (List ℕ)
unlisted_from block sure [] ls = []
unlisted_from block sure (o ∷ os) [] = []
unlisted_from block sure (o ∷ os) (l ∷ ls) = pick (is_none (line_of block sure o os)) (packet_of o l) [] ++ unlisted_from (block + 1) (sure_after sure o) os ls

-- the packets of the blocks that have one: those in doubt
abbrev pub doubtful_from : ℕ → Bool → List Outcome → List (List ℕ) → List (List ℕ)
doubtful_from block sure [] ls = []
doubtful_from block sure (o ∷ os) [] = []
doubtful_from block sure (o ∷ os) (l ∷ ls) = pick (is_none (line_of block sure o os)) [] (packet_of o l) ++ doubtful_from (block + 1) (sure_after sure o) os ls

-- two lists put together to one, each in its order
pub data Merged : List (List ℕ) → List (List ℕ) → List (List ℕ) → Type 0 where
  none : Merged [] [] []
  first : {a b c : List (List ℕ)} (p : List ℕ) → Merged a b c → Merged (p ∷ a) b (p ∷ c)
  second : {a b c : List (List ℕ)} (p : List ℕ) → Merged a b c → Merged a (p ∷ b) (p ∷ c)

-- ---- what blocks come to

-- The lines so far and those of an end are the list of losses of the blocks. The packets given are exactly those of the blocks that have no line. Together
-- with those that were told and those that wait they are what the receiver gave, each in its order.
pub record LockCame (blocks given : List (List ℕ)) (lines : List ℕ) (v : LockReceiver) : Type 0 where
  pub listed : LossList (flatten blocks) (replicate (length (flatten blocks)) 0) (lines ++ waiting_told v)
  pub lent : lent_blocks listed.calls ≡ blocks
  pub plain : All Plain listed.calls
  pub state : v.receiver ≡ after_calls fresh_receiver listed.calls
  pub unlisted : given ≡ unlisted_from 0 false (blocks_of listed.calls) (lefts (drop 11 listed.calls))
  pub told : List (List ℕ)
  pub doubtful : told ++ waiting_packets v ≡ doubtful_from 0 false (blocks_of listed.calls) (lefts (drop 11 listed.calls))
  pub together : Merged given (told ++ waiting_packets v) (packets_given fresh_receiver listed.calls)

-- ---- what is promised of the packets given

-- it is one of the packets of a sender
pub record SentPacket (packets : List (List ℕ)) (packet : List ℕ) : Type 0 where
  pub number : ℕ
  pub within : number < length packets
  pub is : packet ≡ get_or packets number []
