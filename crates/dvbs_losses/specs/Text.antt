-- The last line of the list as text, rest=N, and what is told where a mark is above 1.
-- Assumes nothing.
use Rattle.std.specs.Prelude.{List, [], ◌∷◌, ℕ}
use Rattle.report_lines.specs.Line.{line_text}

-- rest=
abbrev pub rest_key : List ℕ
rest_key = 0x72 ∷ 0x65 ∷ 0x73 ∷ 0x74 ∷ 0x3D ∷ []

-- how many bytes came after the last whole block
abbrev pub rest_text : ℕ → List ℕ
rest_text rest = line_text rest_key rest

-- marks: a mark above 1
abbrev pub bad_mark_text : List ℕ
bad_mark_text = 0x6D ∷ 0x61 ∷ 0x72 ∷ 0x6B ∷ 0x73 ∷ 0x3A ∷ 0x20 ∷ 0x61 ∷ 0x20 ∷ 0x6D ∷ 0x61 ∷ 0x72 ∷ 0x6B ∷ 0x20 ∷ 0x61 ∷ 0x62 ∷ 0x6F ∷ 0x76 ∷ 0x65 ∷ 0x20 ∷ 0x31 ∷ 0x0A ∷ []
