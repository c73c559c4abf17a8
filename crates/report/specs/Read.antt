-- What reading a report gives. There is no second description of the text: reading is a relation with what the writer gives.
-- Assumes nothing.
use Rattle.std.specs.Prelude.{◌≡◌, true, false, List, ◌++◌, ℕ, ◌≤◌, length}
use Rattle.common.specs.Lists.{placed}
use Rattle.report.specs.declared.Bits.TheVariants.{Absent}
use Rattle.report.specs.declared.Report.{Report}
use Rattle.report.specs.Text.{report_text, fits, sums, write_number, WritesText}

-- what stands in an answer that has no report
abbrev pub blank : Report
blank = record { taken = 0; filling = 0; delivered = 0; lost = 0; waiting = 0; outofstep = 0; changed = 0; bits = Absent; rest = 0 }

-- The answer to a text t that is to begin with a report, and what comes after it. 0: t begins with the text of r. 18: it begins with that of a
-- report whose sums are wrong. 17: it begins with that of no report, whatever its sums are.
pub data ReadsReport (t : List ℕ) (number : ℕ) (r : Report) (rest : List ℕ) : Type 0 where
  front : number ≡ 0 → fits r ≡ true → sums r ≡ true → t ≡ report_text r ++ rest → ReadsReport t number r rest
  front_wrong : (s : Report) → number ≡ 18 → r ≡ blank → fits s ≡ true → sums s ≡ false → t ≡ report_text s ++ rest → ReadsReport t number r rest
  front_none : number ≡ 17 → r ≡ blank → ((s : Report) (x : List ℕ) → fits s ≡ true → t ≡ report_text s ++ x → ⊥) → ReadsReport t number r rest

-- the answer to a text that is to be one report and nothing else
pub data ReadsWhole (t : List ℕ) (number : ℕ) (r : Report) : Type 0 where
  whole : number ≡ 0 → fits r ≡ true → sums r ≡ true → t ≡ report_text r → ReadsWhole t number r
  whole_wrong : (s : Report) → number ≡ 18 → r ≡ blank → fits s ≡ true → sums s ≡ false → t ≡ report_text s → ReadsWhole t number r
  whole_none : number ≡ 17 → r ≡ blank → ((s : Report) → fits s ≡ true → t ≡ report_text s → ⊥) → ReadsWhole t number r

-- the writer gives this text for a report: into every output that is long enough it writes the text
pub record WrittenFor (r : Report) (t : List ℕ) : Type 0 where
  pub writes : (output : List ℕ) → length t ≤ length output → WritesText (write_number r output) (report_text r) output 0 (length t) (placed output 0 t)

-- The statement of document 02, P7, for both forms: a text is read as a report exactly when the writer gives it for that report.
pub record ReadAsWritten (t : List ℕ) (number : ℕ) (r : Report) : Type 0 where
  pub read : number ≡ 0 → WrittenFor r t
  pub written : (s : Report) → WrittenFor s t → (number ≡ 0) × (r ≡ s)
