-- What the functions for the bridge give: document 02, P14. Of a block this is said by the promise of the receiver's own call.
-- Assumes nothing.
use Rattle.std.specs.Prelude.{◌≡◌, Bool, List, ◌++◌, ℕ, ◌≤◌, ◌<◌, eqb, length, get_or, drop}
use Rattle.common.specs.Choice.{pick}
use Rattle.reception_counts.specs.Bytes.{to_bytes, numbers_of}
use Rattle.receiver.specs.Receive.{fresh_receiver, Receives}
use Rattle.receiver.specs.Run.{taken_by}
use Rattle.receiver.specs.declared.Receiver.{Receiver}
use Rattle.receiver_state.specs.State.{state_length, state_bytes, StandsFor}

-- ---- a fresh state

abbrev pub fresh_number : List ℕ → ℕ
fresh_number state = pick (eqb (length state) state_length) 0 22

abbrev pub fresh_bytes : List ℕ → List ℕ
fresh_bytes state = pick (eqb (length state) state_length) (state_bytes fresh_receiver) state

-- ---- a block

-- the answers of the receiver with which no block is taken
abbrev pub refuses : ℕ → Bool
refuses number = eqb (taken_by number) 0

-- Bytes that stand for a receiver: its own call, and the bytes after it are those of the receiver after it, for which they stand.
-- Any other bytes are refused, by their length or as out of range, and all is as it was.
pub data BridgeTakes (state block output : List ℕ) (r : ℕ) (after exit : List ℕ) : Type 0 where
  wrong_length : (length state ≡ state_length → ⊥) → r ≡ 22 → after ≡ state → exit ≡ output → BridgeTakes state block output r after exit
  no_state : length state ≡ state_length → ((s : Receiver) → StandsFor state s → ⊥) → r ≡ 5 → after ≡ state → exit ≡ output
      → BridgeTakes state block output r after exit
  as_receiver : (s : Receiver) → StandsFor state s → (next : Receiver) → Receives s block output r next exit → after ≡ state_bytes next → StandsFor after next
      → BridgeTakes state block output r after exit

-- ---- a count

-- The count of the receiver for which the bytes stand, in eight bytes at the front of the output. The refusals are in the order 22, 23, 5, 4, and leave it.
pub data BridgeCounts (state : List ℕ) (number : ℕ) (output : List ℕ) (r : ℕ) (exit : List ℕ) : Type 0 where
  other_length : (length state ≡ state_length → ⊥) → r ≡ 22 → exit ≡ output → BridgeCounts state number output r exit
  unknown : length state ≡ state_length → 7 < number → r ≡ 23 → exit ≡ output → BridgeCounts state number output r exit
  none_read : length state ≡ state_length → number ≤ 7 → ((s : Receiver) → StandsFor state s → ⊥) → r ≡ 5 → exit ≡ output → BridgeCounts state number output r exit
  short : (s : Receiver) → StandsFor state s → number ≤ 7 → length output < 8 → r ≡ 4 → exit ≡ output → BridgeCounts state number output r exit
  counted : (s : Receiver) → StandsFor state s → number ≤ 7 → 8 ≤ length output → r ≡ 0
      → exit ≡ to_bytes 8 (get_or (numbers_of s.counts) number 0) ++ drop 8 output → BridgeCounts state number output r exit
