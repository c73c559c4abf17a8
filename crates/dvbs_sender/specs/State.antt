-- The state of a sender as 1,139 bytes. The layout is a table of fields, and the bytes of a sender are its fields one after the other.
-- Clause: document 01, "State ranges".
-- Assumes nothing.
use Rattle.std.specs.Prelude.{Bool, List, [], ◌∷◌, ℕ}
use Rattle.state_bytes.specs.Table as table
use Rattle.state_bytes.specs.Table.{Field, field, fields_of}
use Rattle.puncturing.specs.Mode.{mode_of}
use Rattle.sender.specs.Send.{sender_in_range}
use Rattle.sender.specs.declared.Sender.{Sender}

-- ---- the table

-- the cells of the delay branches, one branch after the other: any byte
abbrev pub cells : Field Sender
cells = field 0 1122 (λ s. s.interleaver.branches.cells)

-- the next cell of each branch: below the cells of branch j, 17 j of them; 0 in the first, which has none
abbrev pub positions : Field Sender
positions = field 1122 12 (λ s. s.interleaver.branches.positions)

-- the place of the next packet in its group: 0 to 7
abbrev pub place : Field Sender
place = field 1134 1 (λ s. s.place ∷ [])

-- the mode: 0 to 5
abbrev pub mode : Field Sender
mode = field 1135 1 (λ s. s.coder.rate ∷ [])

-- the memory of the inner coder, its last six bits: 0 to 63
abbrev pub memory : Field Sender
memory = field 1136 1 (λ s. s.coder.memory ∷ [])

-- the place of the next bit in the mode's puncturing pattern: below 1, 4, 3, 5, 7, 1
abbrev pub pattern : Field Sender
pattern = field 1137 1 (λ s. s.coder.place ∷ [])

-- the I whose Q has not come: 0 or 1, and 0 where none is held
abbrev pub held : Field Sender
held = field 1138 1 (λ s. s.coder.held ∷ [])

-- All fields in their order. Each begins where the one before it ends (proofs/States.antt), and the sender's own range test, `sender_in_range`, asks the
-- ranges: no bit is spare.
abbrev pub layout : List (Field Sender)
layout = cells ∷ positions ∷ place ∷ mode ∷ memory ∷ pattern ∷ held ∷ []

abbrev pub state_length : ℕ
state_length = 1139

-- ---- which bytes stand for a sender

abbrev pub state_bytes : Sender → List ℕ
state_bytes s = fields_of layout s

abbrev pub in_range : Sender → Bool
in_range s = sender_in_range mode_of s

abbrev pub StandsFor : List ℕ → Sender → Type 0
StandsFor bytes s = table.StandsFor layout in_range bytes s
