-- The lines that are told of a lock: docs/ACQUISITION.md, "The lines".
--   lock symbol=S rate=R turn=T offset=O, or lock bit=B inverted=I
--   lost symbol=S skipped=N, or lost bit=B skipped=N
--   end symbol=S skipped=N bytes=B, or end bit=B skipped=N; where there was no lock, nothing in place of end
-- Assumes nothing.
use Rattle.std.specs.Prelude.{Bool, List, [], ◌∷◌, ◌++◌, ℕ, ◌/◌}
use Rattle.common.specs.Choice.{pick}
use Rattle.report_lines.specs.Line.{field_text, line_text}

-- ---- keys and words, in ASCII

-- bit=
abbrev pub bit_key : List ℕ
bit_key = 0x62 ∷ 0x69 ∷ 0x74 ∷ 0x3D ∷ []

-- symbol=
abbrev pub symbol_key : List ℕ
symbol_key = 0x73 ∷ 0x79 ∷ 0x6D ∷ 0x62 ∷ 0x6F ∷ 0x6C ∷ 0x3D ∷ []

-- rate=
abbrev pub rate_key : List ℕ
rate_key = 0x72 ∷ 0x61 ∷ 0x74 ∷ 0x65 ∷ 0x3D ∷ []

-- turn=
abbrev pub turn_key : List ℕ
turn_key = 0x74 ∷ 0x75 ∷ 0x72 ∷ 0x6E ∷ 0x3D ∷ []

-- offset=
abbrev pub offset_key : List ℕ
offset_key = 0x6F ∷ 0x66 ∷ 0x66 ∷ 0x73 ∷ 0x65 ∷ 0x74 ∷ 0x3D ∷ []

-- inverted=
abbrev pub inverted_key : List ℕ
inverted_key = 0x69 ∷ 0x6E ∷ 0x76 ∷ 0x65 ∷ 0x72 ∷ 0x74 ∷ 0x65 ∷ 0x64 ∷ 0x3D ∷ []

-- skipped=
abbrev pub skipped_key : List ℕ
skipped_key = 0x73 ∷ 0x6B ∷ 0x69 ∷ 0x70 ∷ 0x70 ∷ 0x65 ∷ 0x64 ∷ 0x3D ∷ []

-- bytes=
abbrev pub bytes_key : List ℕ
bytes_key = 0x62 ∷ 0x79 ∷ 0x74 ∷ 0x65 ∷ 0x73 ∷ 0x3D ∷ []

-- lock
abbrev pub lock_word : List ℕ
lock_word = 0x6C ∷ 0x6F ∷ 0x63 ∷ 0x6B ∷ 0x20 ∷ []

-- lost
abbrev pub lost_word : List ℕ
lost_word = 0x6C ∷ 0x6F ∷ 0x73 ∷ 0x74 ∷ 0x20 ∷ []

-- end
abbrev pub end_word : List ℕ
end_word = 0x65 ∷ 0x6E ∷ 0x64 ∷ 0x20 ∷ []

-- nothing
abbrev pub nothing_word : List ℕ
nothing_word = 0x6E ∷ 0x6F ∷ 0x74 ∷ 0x68 ∷ 0x69 ∷ 0x6E ∷ 0x67 ∷ 0x20 ∷ []

-- ---- the lines

-- how many symbols or bits came before something, and a space
abbrev pub place_text : Bool → ℕ → List ℕ
place_text bits place = pick bits (field_text bit_key place 0x20) (field_text symbol_key place 0x20)

-- how they came; bits come straight or inverted, which is turn 0 or 2
abbrev pub found_text : Bool → ℕ → ℕ → ℕ → List ℕ
found_text bits rate turn offset = pick bits (line_text inverted_key (turn / 2)) (field_text rate_key rate 0x20 ++ field_text turn_key turn 0x20 ++ line_text offset_key offset)

abbrev pub lock_text : Bool → ℕ → ℕ → ℕ → ℕ → List ℕ
lock_text bits rate turn offset place = lock_word ++ place_text bits place ++ found_text bits rate turn offset

abbrev pub lost_text : Bool → ℕ → ℕ → List ℕ
lost_text bits place skipped = lost_word ++ place_text bits place ++ line_text skipped_key skipped

abbrev pub closing_word : Bool → List ℕ
closing_word found = pick found end_word nothing_word

abbrev pub skipped_text : Bool → ℕ → ℕ → List ℕ
skipped_text bits skipped bytes = pick bits (line_text skipped_key skipped) (field_text skipped_key skipped 0x20 ++ line_text bytes_key bytes)

abbrev pub end_text : Bool → Bool → ℕ → ℕ → ℕ → List ℕ
end_text bits found came skipped bytes = closing_word found ++ place_text bits came ++ skipped_text bits skipped bytes
