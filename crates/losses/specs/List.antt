-- What to ask for again: the list of a recording, from what its blocks came to, one after another.
-- Block K is document 02's, P5: the one that a fresh receiver corrects at its call K + 12. Its sync byte is that call's.
-- A line for each block of which no packet was given, with the number of its answer, and for each packet that is in doubt.
--   B8 fixes the place, and the packets that follow it without a break are sure of theirs.
--   A packet given behind a block that was not given, with no B8 since, waits. If the next B8 comes where it is due, and every block before it
--   was given, that confirms the packet. Anything else puts it in doubt: B8 where 47 was due, 47 where B8 was due, another block that was not
--   given, the end of the input.
-- Clauses: document 01, "Receiver"; document 02, P4 and P5.
-- Assumes nothing.
use Rattle.std.specs.Prelude.{Bool, true, false, List, [], ◌∷◌, ◌++◌, ℕ, zero, suc, ◌+◌, ◌*◌, eqb}
use Rattle.common.specs.Choice.{pick}
use Rattle.group_sync.specs.Group.{later_place}
use Rattle.group_sync.specs.declared.Outcome.{Outcome}
use Rattle.group_sync.specs.declared.Outcome.TheVariants.{Filling, Delivered, Lost, Waiting, OutOfStep}
use Rattle.reception_counts.specs.Counts.{outcome_number}

-- a line as one number: the block, and its answer; the answer 0 says that a packet was given, and that it is in doubt
abbrev pub line : ℕ → ℕ → ℕ
line block answer = 16 * block + answer

-- Whether a packet is confirmed by what follows it, where the block behind it has this place. Only B8 at place 0 does, with a packet from each
-- block before it.
abbrev pub confirmed : ℕ → List Outcome → Bool
confirmed due [] = false
confirmed due (Delivered place ∷ os) = pick (eqb place 0) (eqb due 0) (confirmed (later_place place) os)
confirmed due (Filling ∷ os) = false
confirmed due (Lost ∷ os) = false
confirmed due (Waiting ∷ os) = false
confirmed due (OutOfStep ∷ os) = false

-- the line of a block, where the packets before it are sure of their places or not, and what follows it
abbrev pub line_of : ℕ → Bool → Outcome → List Outcome → List ℕ
line_of block sure (Delivered place) os =
    pick (eqb place 0) [] (pick sure [] (pick (confirmed (later_place place) os) [] (line block 0 ∷ [])))
line_of block sure Filling os = line block (outcome_number Filling) ∷ []
line_of block sure Lost os = line block (outcome_number Lost) ∷ []
line_of block sure Waiting os = line block (outcome_number Waiting) ∷ []
line_of block sure OutOfStep os = line block (outcome_number OutOfStep) ∷ []

-- B8 makes the places sure, and a block that was not given ends that
abbrev pub sure_after : Bool → Outcome → Bool
sure_after sure (Delivered place) = pick (eqb place 0) true sure
sure_after sure Filling = false
sure_after sure Lost = false
sure_after sure Waiting = false
sure_after sure OutOfStep = false

-- the lines of blocks, the first of which has this number
abbrev pub lines_from : ℕ → Bool → List Outcome → List ℕ
lines_from block sure [] = []
lines_from block sure (o ∷ os) = line_of block sure o os ++ lines_from (block + 1) (sure_after sure o) os

-- the list of a recording whose blocks came to these
abbrev pub losses : List Outcome → List ℕ
losses os = lines_from 0 false os

-- a line for each of so many packets in doubt, from this block on
abbrev pub doubts : ℕ → ℕ → List ℕ
doubts block zero = []
doubts block (suc n) = line block 0 ∷ doubts (block + 1) n
