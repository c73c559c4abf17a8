-- What the steps of the reader find. The contracts of the public functions do not rest on these.
-- Assumes nothing.
use Rattle.std.specs.Prelude.{◌≡◌, Bool, true, false, List, ◌++◌, ℕ, ◌≤◌, length, drop}
use Rattle.report.specs.declared.Bits.{Bits}
use Rattle.report.specs.declared.Report.{Report}
use Rattle.report.specs.Text.{lines_text, numbers_within, bits_text, bits_within, form_of, report_text, fits}

-- the first eight lines at a place of a text, with their numbers
pub record RowsRead (text : List ℕ) (at : ℕ) (found : Bool) (values : List ℕ) (end : ℕ) : Type 0 where
  pub small : found ≡ true → numbers_within 8 values ≡ true
  pub place : found ≡ true → end ≤ length text
  pub is : found ≡ true → drop at text ≡ lines_text 8 values ++ drop end text
  pub none : found ≡ false → (vs rest : List ℕ) → numbers_within 8 vs ≡ true → drop at text ≡ lines_text 8 vs ++ rest → ⊥

-- the line of the bits in this form: none in form 1
pub record BitsIs (text : List ℕ) (at form : ℕ) (found : Bool) (bits : Bits) (end : ℕ) : Type 0 where
  pub fitting : found ≡ true → form_of bits ≡ form
  pub small : found ≡ true → bits_within bits ≡ true
  pub place : found ≡ true → end ≤ length text
  pub is : found ≡ true → drop at text ≡ bits_text bits ++ drop end text
  pub none : found ≡ false → (b : Bits) (rest : List ℕ) → form_of b ≡ form → bits_within b ≡ true → drop at text ≡ bits_text b ++ rest → ⊥

-- a report at a place of a text, whatever its sums are, and the place after it
pub record Front (text : List ℕ) (at : ℕ) (found : Bool) (r : Report) (end : ℕ) : Type 0 where
  pub small : found ≡ true → fits r ≡ true
  pub place : found ≡ true → end ≤ length text
  pub is : found ≡ true → drop at text ≡ report_text r ++ drop end text
  pub none : found ≡ false → (s : Report) (x : List ℕ) → fits s ≡ true → drop at text ≡ report_text s ++ x → ⊥
