-- What dvbs_send tells on standard error: a line for each packet that was replaced by a null packet, and at the end a line with its counts.
-- Assumes nothing.
use Rattle.std.specs.Prelude.{List, [], ◌∷◌, ◌++◌, map, ℕ, suc, ◌%◌, eqb, length}
use Rattle.common.specs.Choice.{pick, unequal}
use Rattle.common.specs.Lists.{total, chunks_of}
use Rattle.sender.specs.Input.{sent_number}
use Rattle.report_lines.specs.Line.{field_text}

-- packet=K answer=N
unfoldable pub replaced_line : ℕ → ℕ → List ℕ
replaced_line packet number =
    field_text (0x70 ∷ 0x61 ∷ 0x63 ∷ 0x6B ∷ 0x65 ∷ 0x74 ∷ 0x3D ∷ []) packet 0x20
    ++ field_text (0x61 ∷ 0x6E ∷ 0x73 ∷ 0x77 ∷ 0x65 ∷ 0x72 ∷ 0x3D ∷ []) number 0x0A

-- packets=N replaced=M rest=K
unfoldable pub counts_line : ℕ → ℕ → ℕ → List ℕ
counts_line packets replaced rest =
    field_text (0x70 ∷ 0x61 ∷ 0x63 ∷ 0x6B ∷ 0x65 ∷ 0x74 ∷ 0x73 ∷ 0x3D ∷ []) packets 0x20
    ++ field_text (0x72 ∷ 0x65 ∷ 0x70 ∷ 0x6C ∷ 0x61 ∷ 0x63 ∷ 0x65 ∷ 0x64 ∷ 0x3D ∷ []) replaced 0x20
    ++ field_text (0x72 ∷ 0x65 ∷ 0x73 ∷ 0x74 ∷ 0x3D ∷ []) rest 0x0A

-- what is told of a packet by the number of its answer: nothing where that is 0
abbrev pub answer_line : ℕ → ℕ → List ℕ
answer_line packet number = pick (eqb number 0) [] (replaced_line packet number)

-- the same of packets, counted on from a first one, and how many of them were replaced
abbrev pub answer_lines : ℕ → List ℕ → List ℕ
answer_lines first [] = []
answer_lines first (n ∷ ns) = answer_line first n ++ answer_lines (suc first) ns

abbrev pub replaced_count : List ℕ → ℕ
replaced_count numbers = total (λ (n : ℕ). unequal n 0) numbers

-- the number of the answer for each whole packet of some bytes
abbrev pub answers_of : List ℕ → List ℕ
answers_of bytes = map sent_number (chunks_of 188 bytes)

-- what is told of bytes while they are sent; and at their end: how many whole packets they have, how many of these were replaced, and how many bytes come after
-- the last of them
abbrev pub told_of : List ℕ → List ℕ
told_of bytes = answer_lines 0 (answers_of bytes)

abbrev pub counts_of : List ℕ → List ℕ
counts_of bytes = counts_line (length (chunks_of 188 bytes)) (replaced_count (answers_of bytes)) (length bytes % 188)
