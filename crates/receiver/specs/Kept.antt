-- Calls of `receive` one after another, each by its promise alone.
-- Clause: document 01, "Receiver".
-- Assumes nothing.
use Rattle.std.specs.Prelude.{List, [], ◌∷◌, ◌++◌, ℕ, ◌≤◌, eqb, length, take}
use Rattle.common.specs.Choice.{pick}
use Rattle.receiver.specs.Receive.{Receives}
use Rattle.receiver.specs.declared.Receiver.{Receiver}

-- Each block is given to a call that keeps its promise and is lent room for a packet, with the receiver that the call before handed back.
-- The numbers are those of the answers, and the packets are those that calls answered 0 left in their output.
pub data Kept : Receiver → List (List ℕ) → List ℕ → List (List ℕ) → Receiver → Type 0 where
  none : {s : Receiver} → Kept s [] [] [] s
  call : {s last : Receiver} {blocks : List (List ℕ)} {numbers : List ℕ} {packets : List (List ℕ)} (block output exit : List ℕ) (number : ℕ) (next : Receiver)
      → 188 ≤ length output → Receives s block output number next exit → Kept next blocks numbers packets last
      → Kept s (block ∷ blocks) (number ∷ numbers) (pick (eqb number 0) (take 188 exit ∷ []) [] ++ packets) last
