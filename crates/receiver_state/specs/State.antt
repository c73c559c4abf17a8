-- The state of a receiver as 2,322 bytes. The layout is a table of fields, and the bytes of a receiver are its fields one after the other.
-- Clause: document 02, P14.
-- Assumes nothing.
use Rattle.std.specs.Prelude.{List, [], ◌∷◌, ℕ, Option, Some, None}
use Rattle.state_bytes.specs.Table as table
use Rattle.state_bytes.specs.Table.{Field, field, fields_of}
use Rattle.reception_counts.specs.Bytes.{count_bytes}
use Rattle.receiver.specs.Receive.{receiver_in_range}
use Rattle.receiver.specs.declared.Receiver.{Receiver}

-- a place in one byte: 8 is the place that is not known
abbrev pub place_byte : Option ℕ → ℕ
place_byte None = 8
place_byte (Some p) = p

-- ---- the table

-- the cells of the delay branches, one branch after the other: any byte
abbrev pub cells : Field Receiver
cells = field 0 1122 (λ s. s.deinterleaver.branches.cells)

-- the next cell of each branch: below the cells of branch j, 187 - 17 j of them; 0 in the last, which has none
abbrev pub positions : Field Receiver
positions = field 1122 12 (λ s. s.deinterleaver.branches.positions)

-- the place of the next packet: 0 to 7, or 8 where it is not known
abbrev pub place : Field Receiver
place = field 1134 1 (λ s. place_byte s.sync.place ∷ [])

-- a missed sync byte, document 02's mark: 0 or 1, and 0 while the place is not known
abbrev pub missed : Field Receiver
missed = field 1135 1 (λ s. s.sync.missed ∷ [])

-- The eight counts in the order of documents 01 and 02, eight bytes each. taken is at most 4,294,967,295, and the five after it add up to it; filling is the
-- smaller of taken and 11; changed is at most 16 for each block that is delivered, waiting or out of step; bits is from changed to 8 times changed.
abbrev pub counts : Field Receiver
counts = field 1136 64 (λ s. count_bytes s.counts)

-- the marks of the bytes in the delay branches, cell by cell: 0 or 1
abbrev pub marks : Field Receiver
marks = field 1200 1122 (λ s. s.marks)

-- All fields in their order. Each begins where the one before it ends (proofs/States.antt), and the receiver's own range test,
-- `receiver_in_range`, asks the ranges: no bit is spare.
abbrev pub layout : List (Field Receiver)
layout = cells ∷ positions ∷ place ∷ missed ∷ counts ∷ marks ∷ []

abbrev pub state_length : ℕ
state_length = 2322

-- ---- which bytes stand for a receiver

abbrev pub state_bytes : Receiver → List ℕ
state_bytes s = fields_of layout s

abbrev pub StandsFor : List ℕ → Receiver → Type 0
StandsFor bytes s = table.StandsFor layout receiver_in_range bytes s
