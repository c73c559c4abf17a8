-- The list line by line, as the blocks come: what is decided at a block, and what still waits.
-- Assumes nothing.
use Rattle.std.specs.Prelude.{Bool, true, false, List, [], ◌∷◌, ◌++◌, ℕ, ◌+◌, ◌-◌, ◌%◌, eqb, ltb, Option, Some, None}
use Rattle.common.specs.Choice.{pick}
use Rattle.receiver.specs.Run.{Call, answer_of, after_call}
use Rattle.receiver.specs.declared.Receiver.{Receiver}
use Rattle.losses.specs.List.{line, doubts}
use Rattle.losses.specs.declared.Certainty.{Certainty}
use Rattle.losses.specs.declared.Certainty.TheVariants.{Sure, Unsure}

-- how many packets wait: the last ones before the next block
abbrev pub waiting_of : Certainty → ℕ
waiting_of Sure = 0
waiting_of (Unsure n) = n

-- B8 fixed the place, and every block since was given
abbrev pub is_sure : Certainty → Bool
is_sure Sure = true
is_sure (Unsure n) = false

-- whether B8 is due at a place, and whether it came, by the place behind it
abbrev pub start_due_at : Option ℕ → Bool
start_due_at None = false
start_due_at (Some p) = eqb p 0

abbrev pub started_at : Option ℕ → Bool
started_at None = false
started_at (Some p) = eqb p 1

-- the packets that wait, in doubt: those just before a block
abbrev pub waiting_lines : Certainty → ℕ → List ℕ
waiting_lines k block = doubts (block - waiting_of k) (waiting_of k)

-- the lines that a block decides, by the number of its answer, whether B8 was due and whether B8 came
abbrev pub lines_now : Certainty → ℕ → ℕ → Bool → Bool → List ℕ
lines_now k block number due started =
    pick (eqb number 0) (pick started (pick due [] (waiting_lines k block)) []) (waiting_lines k block ++ line block number ∷ [])

abbrev pub and_one_more : Certainty → Certainty
and_one_more Sure = Sure
and_one_more (Unsure n) = Unsure (n + 1)

abbrev pub certainty_next : Certainty → ℕ → Bool → Certainty
certainty_next k number started = pick (eqb number 0) (pick started Sure (and_one_more k)) (Unsure 0)

-- how many packets can wait before a place: those from place 1 on, so seven before place 0, where B8 is due
abbrev pub most_waiting : Option ℕ → ℕ
most_waiting None = 0
most_waiting (Some p) = (p % 8 + 7) % 8

-- no more than can wait there, and no more than there are blocks after the eleven that fill the delays
abbrev pub certainty_in_range : Certainty → Option ℕ → ℕ → Bool
certainty_in_range k place taken = pick (ltb (most_waiting place) (waiting_of k)) false (pick (ltb (taken - 11) (waiting_of k)) false true)

-- ---- by the receiver's calls

-- the lines that a call decides; none while the delays fill
abbrev pub call_lines : Receiver → Certainty → Call → List ℕ
call_lines s k c =
    pick (ltb s.counts.taken 11) []
    (lines_now k (s.counts.taken - 11) (answer_of s c) (start_due_at s.sync.place) (started_at (after_call s c).sync.place))

abbrev pub certainty_after : Receiver → Certainty → Call → Certainty
certainty_after s k c = pick (ltb s.counts.taken 11) k (certainty_next k (answer_of s c) (started_at (after_call s c).sync.place))

-- call after call
abbrev pub lines_of : Receiver → Certainty → List Call → List ℕ
lines_of s k [] = []
lines_of s k (c ∷ cs) = call_lines s k c ++ lines_of (after_call s c) (certainty_after s k c) cs

abbrev pub certainty_of : Receiver → Certainty → List Call → Certainty
certainty_of s k [] = k
certainty_of s k (c ∷ cs) = certainty_of (after_call s c) (certainty_after s k c) cs
