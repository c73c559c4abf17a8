-- The lines that programs tell about a block.
-- Assumes nothing.
use Rattle.std.specs.Prelude.{List, [], ◌∷◌, ◌++◌, ℕ, ◌/◌, ◌%◌, eqb}
use Rattle.common.specs.Choice.{pick}
use Rattle.report_lines.specs.Line.{field_text, line_text}

-- block=B answer=N
unfoldable pub refusal_text : ℕ → ℕ → List ℕ
refusal_text block number =
    field_text (0x62 ∷ 0x6C ∷ 0x6F ∷ 0x63 ∷ 0x6B ∷ 0x3D ∷ []) block 0x20
    ++ field_text (0x61 ∷ 0x6E ∷ 0x73 ∷ 0x77 ∷ 0x65 ∷ 0x72 ∷ 0x3D ∷ []) number 0x0A

-- answer=N changed=C bits=B
unfoldable pub block_text : ℕ → ℕ → ℕ → List ℕ
block_text number changed bits =
    field_text (0x61 ∷ 0x6E ∷ 0x73 ∷ 0x77 ∷ 0x65 ∷ 0x72 ∷ 0x3D ∷ []) number 0x20
    ++ field_text (0x63 ∷ 0x68 ∷ 0x61 ∷ 0x6E ∷ 0x67 ∷ 0x65 ∷ 0x64 ∷ 0x3D ∷ []) changed 0x20
    ++ field_text (0x62 ∷ 0x69 ∷ 0x74 ∷ 0x73 ∷ 0x3D ∷ []) bits 0x0A

-- ---- what to ask for again: block=K answer=8, block=K doubt=1

-- block=
abbrev pub block_key : List ℕ
block_key = 0x62 ∷ 0x6C ∷ 0x6F ∷ 0x63 ∷ 0x6B ∷ 0x3D ∷ []

-- doubt=
abbrev pub doubt_key : List ℕ
doubt_key = 0x64 ∷ 0x6F ∷ 0x75 ∷ 0x62 ∷ 0x74 ∷ 0x3D ∷ []

-- answer=
abbrev pub answer_key : List ℕ
answer_key = 0x61 ∷ 0x6E ∷ 0x73 ∷ 0x77 ∷ 0x65 ∷ 0x72 ∷ 0x3D ∷ []

-- a line of the list: the block, and its answer, or doubt where a packet was given
abbrev pub entry_text : ℕ → List ℕ
entry_text line = field_text block_key (line / 16) 0x20 ++ pick (eqb (line % 16) 0) (line_text doubt_key 1) (line_text answer_key (line % 16))

abbrev pub list_text : List ℕ → List ℕ
list_text [] = []
list_text (line ∷ lines) = entry_text line ++ list_text lines
