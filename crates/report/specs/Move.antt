-- A report moved from one form to the other: document 02, P7.
-- Assumes nothing.
use Rattle.std.specs.Prelude.{◌≡◌, Bool, true, false, List, ◌∷◌, ℕ, ◌-◌, eqb}
use Rattle.common.specs.Refusal.{unless, first_due}
use Rattle.report.specs.declared.Bits.{Bits}
use Rattle.report.specs.declared.Bits.TheVariants.{Absent, Dash, Number}
use Rattle.report.specs.declared.Report.{Report}
use Rattle.report.specs.Text.{report_text, write_tests, WritesText}
use Rattle.report.specs.Read.{ReadsWhole}

-- Bits are absent and form 2 is wanted, or a dash and form 1 is. To any other number than 1 and 2 no report can be moved.
abbrev pub movable : Bits → ℕ → Bool
movable Absent form = eqb form 2
movable Dash form = eqb form 1
movable (Number n) form = false

-- a report that is moved has a dash where it had no bits, and none where it had a dash
abbrev pub moved_bits : Bits → Bits
moved_bits Absent = Dash
moved_bits Dash = Absent
moved_bits (Number n) = Number n

abbrev pub moved : Report → Report
moved r = record {
  taken = r.taken;
  filling = r.filling;
  delivered = r.delivered;
  lost = r.lost;
  waiting = r.waiting;
  outofstep = r.outofstep;
  changed = r.changed;
  bits = moved_bits r.bits;
  rest = r.rest;
}

-- what moving answers where reading gives this number and report, in the order 17, 18, 19, 4
abbrev pub move_number : ℕ → Report → ℕ → List ℕ → ℕ
move_number read r form output = first_due (unless (eqb read 0) read ∷ unless (movable r.bits form) 19 ∷ write_tests (moved r) output)

-- what moving the report of a text to a form promises
pub record Moves (t : List ℕ) (form : ℕ) (output : List ℕ) (number size : ℕ) (exit : List ℕ) : Type 0 where
  pub answer : ℕ
  pub report : Report
  pub read : ReadsWhole t answer report
  pub writes : WritesText (move_number answer report form output) (report_text (moved report)) output number size exit

-- A text is that of a report which may be moved to a form, and this is its text there.
pub record MovedText (t : List ℕ) (form : ℕ) (text : List ℕ) : Type 0 where
  pub report : Report
  pub read : ReadsWhole t 0 report
  pub may : movable report.bits form ≡ true
  pub text_is : text ≡ report_text (moved report)

-- the form that is not this one: 2 for 1, and 1 for 2
abbrev pub other_form : ℕ → ℕ
other_form form = 3 - form
