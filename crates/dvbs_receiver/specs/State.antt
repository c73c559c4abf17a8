-- The state of a receiver of pieces as 2,731 bytes: that of its receiver of blocks, and then the bytes after the last whole block, with their marks.
-- Clause: document 01, "Receiver".
-- Assumes nothing.
use Rattle.std.specs.Prelude.{Bool, false, List, [], ◌∷◌, ◌++◌, ℕ, eqb, ltb, drop}
use Rattle.common.specs.Choice.{pick}
use Rattle.common.specs.Lists.{largest}
use Rattle.state_bytes.specs.Table as table
use Rattle.state_bytes.specs.Table.{Field, field, fields_within, fields_of}
use Rattle.receiver_state.specs.State as receiver
use Rattle.receiver_stream.specs.Feed.{receiver_stream_in_range}
use Rattle.receiver_stream.specs.declared.ReceiverStream.{ReceiverStream}

-- ---- the table

-- the bytes that are held, and zeros behind them
abbrev pub pending : Field ReceiverStream
pending = field 2322 204 (λ i. i.pending)

-- their marks: 0 or 1, and zeros behind them
abbrev pub doubtful : Field ReceiverStream
doubtful = field 2526 204 (λ i. i.marks)

-- how many there are: 0 to 203
abbrev pub held : Field ReceiverStream
held = field 2730 1 (λ i. i.held ∷ [])

-- All fields in their order: those of the receiver of blocks (receiver_state/specs/State.antt), and these.
abbrev pub layout : List (Field ReceiverStream)
layout = fields_within (λ i. i.receiver) receiver.layout ++ (pending ∷ doubtful ∷ held ∷ [])

abbrev pub state_length : ℕ
state_length = 2731

-- ---- which bytes stand for a receiver of pieces

-- cells that hold nothing are 0, and marks are 0 or 1
abbrev pub is_clear : ReceiverStream → Bool
is_clear i =
    pick (eqb (largest (drop i.held i.pending)) 0) (pick (eqb (largest (drop i.held i.marks)) 0) (ltb (largest i.marks) 2) false) false

-- the receiver's own range test, and that no cell holds what nobody asks for: so no bit is spare
abbrev pub in_range : ReceiverStream → Bool
in_range i = pick (receiver_stream_in_range i) (is_clear i) false

abbrev pub state_bytes : ReceiverStream → List ℕ
state_bytes i = fields_of layout i

abbrev pub StandsFor : List ℕ → ReceiverStream → Type 0
StandsFor bytes i = table.StandsFor layout in_range bytes i
