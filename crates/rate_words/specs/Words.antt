-- The words of a command line that name a mode of the inner code: the number of each of the six, and of QPSK also the rate.
-- Assumes nothing.
use Rattle.std.specs.Prelude.{List, [], ◌∷◌, ℕ}
use Rattle.common.specs.Choice.{pick}
use Rattle.program_io.specs.Words.{same_bytes}

-- a word, in ASCII, and the mode that it names
pub record WordRow : Type 0 where
  pub word : List ℕ
  pub mode : ℕ

-- 0, 1/2; 1, 2/3; 2, 3/4; 3, 5/6; 4, 7/8; 5
abbrev pub rows : List WordRow
rows =
    record { word = 0x30 ∷ []; mode = 0 }
    ∷ record { word = 0x31 ∷ 0x2F ∷ 0x32 ∷ []; mode = 0 }
    ∷ record { word = 0x31 ∷ []; mode = 1 }
    ∷ record { word = 0x32 ∷ 0x2F ∷ 0x33 ∷ []; mode = 1 }
    ∷ record { word = 0x32 ∷ []; mode = 2 }
    ∷ record { word = 0x33 ∷ 0x2F ∷ 0x34 ∷ []; mode = 2 }
    ∷ record { word = 0x33 ∷ []; mode = 3 }
    ∷ record { word = 0x35 ∷ 0x2F ∷ 0x36 ∷ []; mode = 3 }
    ∷ record { word = 0x34 ∷ []; mode = 4 }
    ∷ record { word = 0x37 ∷ 0x2F ∷ 0x38 ∷ []; mode = 4 }
    ∷ record { word = 0x35 ∷ []; mode = 5 }
    ∷ []

-- the mode of the row that has this word, or 6, which is none
abbrev pub named_in : List WordRow → List ℕ → ℕ
named_in [] word = 6
named_in (r ∷ rs) word = pick (same_bytes word r.word) r.mode (named_in rs word)

abbrev pub mode_named : List ℕ → ℕ
mode_named word = named_in rows word
