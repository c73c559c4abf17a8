-- The blocks that the aligner gives, lock by lock, and a fresh receiver for each: a block that begins anew ends the lock before it.
-- Clauses: EN 300 421, 4.4.1 to 4.4.3 (source document 002); document 01, "Receiver".
-- Assumes nothing.
use Rattle.std.specs.Prelude.{List, [], ◌∷◌, ◌++◌, ℕ}
use Rattle.common.specs.Choice.{pick}
use Rattle.block_sync.specs.declared.GivenBlock.{GivenBlock}
use Rattle.lock_receiver.specs.History.{LockTakes}
use Rattle.lock_receiver.specs.declared.LockReceiver.{LockReceiver}

-- the blocks up to the next one that begins anew
abbrev pub followers_of : List GivenBlock → List (List ℕ)
followers_of [] = []
followers_of (g ∷ gs) = pick g.begins [] (g.bytes ∷ followers_of gs)

-- the blocks of each lock
abbrev pub locks_of : List GivenBlock → List (List (List ℕ))
locks_of [] = []
locks_of (g ∷ gs) = pick g.begins ((g.bytes ∷ followers_of gs) ∷ locks_of gs) (locks_of gs)

-- each lock by a receiver that is fresh at its first block: the packets given, one lock after the other
pub data LocksTaken : List (List (List ℕ)) → List (List ℕ) → Type 0 where
  none : LocksTaken [] []
  lock : {blocks given : List (List ℕ)} {lines : List ℕ} {v : LockReceiver} {locks : List (List (List ℕ))} {rest : List (List ℕ)} → LockTakes blocks given lines v → LocksTaken locks rest
      → LocksTaken (blocks ∷ locks) (given ++ rest)
