-- The text of a pass report in both forms, and what the writer gives: document 01, "Receiver", and document 02, P7.
-- Assumes nothing.
use Rattle.std.specs.Prelude.{◌≡◌, List, [], ◌∷◌, ◌++◌, ℕ, zero, suc, ◌+◌, min, Bool, true, false, leb, ltb, eqb, length, get_or}
use Rattle.common.specs.Choice.{pick}
use Rattle.common.specs.Refusal.{Test, unless, when, first_due}
use Rattle.common.specs.Lists.{placed}
use Rattle.report_lines.specs.Line.{line_text}
use Rattle.report.specs.declared.Bits.{Bits}
use Rattle.report.specs.declared.Bits.TheVariants.{Absent, Dash, Number}
use Rattle.report.specs.declared.Report.{Report}

-- a row of the table: a key with its equals sign, in ASCII, and the largest number that its line may have
pub record ReportRow : Type 0 where
  pub key : List ℕ
  pub limit : ℕ

-- form= taken= filling= delivered= lost= waiting= outofstep= changed= bits= rest=
abbrev pub rows : List ReportRow
rows =
    record { key = 0x66 ∷ 0x6F ∷ 0x72 ∷ 0x6D ∷ 0x3D ∷ []; limit = 2 }
    ∷ record { key = 0x74 ∷ 0x61 ∷ 0x6B ∷ 0x65 ∷ 0x6E ∷ 0x3D ∷ []; limit = 4294967295 }
    ∷ record { key = 0x66 ∷ 0x69 ∷ 0x6C ∷ 0x6C ∷ 0x69 ∷ 0x6E ∷ 0x67 ∷ 0x3D ∷ []; limit = 4294967295 }
    ∷ record { key = 0x64 ∷ 0x65 ∷ 0x6C ∷ 0x69 ∷ 0x76 ∷ 0x65 ∷ 0x72 ∷ 0x65 ∷ 0x64 ∷ 0x3D ∷ []; limit = 4294967295 }
    ∷ record { key = 0x6C ∷ 0x6F ∷ 0x73 ∷ 0x74 ∷ 0x3D ∷ []; limit = 4294967295 }
    ∷ record { key = 0x77 ∷ 0x61 ∷ 0x69 ∷ 0x74 ∷ 0x69 ∷ 0x6E ∷ 0x67 ∷ 0x3D ∷ []; limit = 4294967295 }
    ∷ record { key = 0x6F ∷ 0x75 ∷ 0x74 ∷ 0x6F ∷ 0x66 ∷ 0x73 ∷ 0x74 ∷ 0x65 ∷ 0x70 ∷ 0x3D ∷ []; limit = 4294967295 }
    ∷ record { key = 0x63 ∷ 0x68 ∷ 0x61 ∷ 0x6E ∷ 0x67 ∷ 0x65 ∷ 0x64 ∷ 0x3D ∷ []; limit = 68719476720 }
    ∷ record { key = 0x62 ∷ 0x69 ∷ 0x74 ∷ 0x73 ∷ 0x3D ∷ []; limit = 549755813760 }
    ∷ record { key = 0x72 ∷ 0x65 ∷ 0x73 ∷ 0x74 ∷ 0x3D ∷ []; limit = 203 }
    ∷ []

unfoldable pub row : ℕ → ReportRow
row i = get_or rows i (record { key = []; limit = 0 })

-- the lines of the first n rows, with these numbers
unfoldable pub lines_text : ℕ → List ℕ → List ℕ
lines_text zero vs = []
lines_text (suc n) vs = lines_text n vs ++ line_text (row n).key (get_or vs n 0)

-- a report whose bits are absent is in form 1
abbrev pub form_of : Bits → ℕ
form_of Absent = 1
form_of Dash = 2
form_of (Number n) = 2

-- the numbers of the first eight rows, which both forms have
abbrev pub fields : Report → List ℕ
fields r =
    form_of r.bits ∷ r.taken ∷ r.filling ∷ r.delivered ∷ r.lost ∷ r.waiting ∷ r.outofstep ∷ r.changed ∷ []

-- the line of the bits, which form 2 alone has: a number, or a dash
abbrev pub bits_text : Bits → List ℕ
bits_text Absent = []
bits_text Dash = (row 8).key ++ 0x2D ∷ 0x0A ∷ []
bits_text (Number n) = line_text (row 8).key n

unfoldable pub report_text : Report → List ℕ
report_text r = lines_text 8 (fields r) ++ bits_text r.bits ++ line_text (row 9).key r.rest

-- ---- what a report may hold

-- the first n numbers are within the limits of their rows
unfoldable pub numbers_within : ℕ → List ℕ → Bool
numbers_within zero vs = true
numbers_within (suc n) vs = pick (numbers_within n vs) (leb (get_or vs n 0) (row n).limit) false

abbrev pub bits_within : Bits → Bool
bits_within Absent = true
bits_within Dash = true
bits_within (Number n) = leb n (row 8).limit

-- every number is within the limit of its row
unfoldable pub fits : Report → Bool
fits r = pick (numbers_within 8 (fields r)) (pick (bits_within r.bits) (leb r.rest (row 9).limit) false) false

-- the middle five add up to taken, and filling is the smaller of taken and 11
unfoldable pub sums : Report → Bool
sums r =
    pick (eqb (r.filling + r.delivered + r.lost + r.waiting + r.outofstep) r.taken) (eqb r.filling (min r.taken 11)) false

-- ---- writing

-- the answer to a text that is to be written into an output: 4 where there is not room for it
abbrev pub text_number : List ℕ → List ℕ → ℕ
text_number text output = pick (ltb (length output) (length text)) 4 0

-- the answer to a report that is to be written, in the order 17, 18, 4
abbrev pub write_tests : Report → List ℕ → List Test
write_tests r output = unless (fits r) 17 ∷ unless (sums r) 18 ∷ when (ltb (length output) (length (report_text r))) 4 ∷ []

abbrev pub write_number : Report → List ℕ → ℕ
write_number r output = first_due (write_tests r output)

-- What writing a text leaves, where `due` is the number of its answer: how many bytes are written, and the output after it; none, and as before, where
-- that is not 0.
pub record WritesText (due : ℕ) (text output : List ℕ) (number size : ℕ) (exit : List ℕ) : Type 0 where
  pub number_is : number ≡ due
  pub size_is : size ≡ pick (eqb due 0) (length text) 0
  pub output_is : exit ≡ pick (eqb due 0) (placed output 0 text) output
