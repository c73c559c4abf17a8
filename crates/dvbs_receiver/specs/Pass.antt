-- Pieces fed one after another, each with the bytes of the state that the call before left. Whatever the firmware does with those bytes between two calls,
-- they are what it saved.
-- Clause: document 01, "Receiver".
-- Assumes nothing.
use Rattle.std.specs.Prelude.{List, [], ◌++◌, ℕ, ◌≤◌, eqb, length, get_or, take}
use Rattle.common.specs.Choice.{pick}
use Rattle.dvbs_receiver.specs.Calls.{FeedsPiece}

-- The bytes of the state before the first piece and after the last; the bytes that came and their marks, those of pieces that were answered 0; and what the
-- calls told that they wrote, one after the other. Each call is lent a byte for its answer.
pub data ReceiverPass : List ℕ → List ℕ → List ℕ → List ℕ → List ℕ → Type 0 where
  none : {state : List ℕ} → ReceiverPass state [] [] [] state
  call : {state last bytes marks written : List ℕ} (piece own output answer : List ℕ) (r : ℕ) (after exit told : List ℕ)
      → 1 ≤ length answer → FeedsPiece state piece own output answer r after exit told → ReceiverPass after bytes marks written last
      → ReceiverPass state (pick (eqb (get_or told 0 0) 0) piece [] ++ bytes) (pick (eqb (get_or told 0 0) 0) own [] ++ marks) (take r exit ++ written) last
