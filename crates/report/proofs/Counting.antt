-- The numbers of a report that fits take at most forty bits, so that no sum of them wraps; lines written one after the other.
-- Assumes nothing.
use mathlib.Core.Path.{◌≡◌, refl, sym}
use mathlib.Core.Bool.{true}
use mathlib.Core.List.{List, [], append-nil}
use Prim.Native.Nat.{ℕ, suc, ◌+◌, ◌*◌, ◌≤◌, ◌<◌}
use native.Mathlib.Nat.{add-zero}
use native.Mathlib.Numerals.{add-one}
use native.Mathlib.Omega.{arith}
use borrow.Author.Tests.{le-leb}
use lib.ListN.{get_or, take}
use Rattle.report_lines.specs.Line.{line_text, Appended}
use Rattle.report_lines.proofs.Lines.{joined_appended, restated}
use Rattle.report.specs.declared.Bits.TheVariants.{Number}
use Rattle.report.specs.declared.Report.{Report}
use Rattle.report.specs.Text.{row, form_of, fields, lines_text, numbers_within, fits}
use Rattle.report.proofs.LineRuns.{forty_bits, within_at}
use Rattle.report.proofs.Fronts.{fitting, fitted}

pub record Small (r : Report) : Type 0 where
  pub taken : r.taken < 1099511627776
  pub filling : r.filling < 1099511627776
  pub delivered : r.delivered < 1099511627776
  pub lost : r.lost < 1099511627776
  pub waiting : r.waiting < 1099511627776
  pub outofstep : r.outofstep < 1099511627776
  pub changed : r.changed < 1099511627776

pub fits_small : (r : Report) → fits r ≡ true → Small r
fits_small r f =
    let w : (i : ℕ) → i < 8 → get_or (fields r) i 0 < 1099511627776
    = λ i h. forty_bits i _ (omega arith) (within_at 8 (fields r) (fitting r f).counts i h) in
    record {
      taken = w 1 (omega arith);
      filling = w 2 (omega arith);
      delivered = w 3 (omega arith);
      lost = w 4 (omega arith);
      waiting = w 5 (omega arith);
      outofstep = w 6 (omega arith);
      changed = w 7 (omega arith);
    }

-- a report of form 2 with its bits told: what its numbers must be for the writer not to answer 17
pub told_fits : (r : Report) (b : ℕ) → r.bits ≡ Number b → r.taken ≤ (row 1).limit → r.filling ≤ (row 2).limit → r.delivered ≤ (row 3).limit
    → r.lost ≤ (row 4).limit → r.waiting ≤ (row 5).limit → r.outofstep ≤ (row 6).limit → r.changed ≤ (row 7).limit → b ≤ (row 8).limit
    → r.rest ≤ (row 9).limit → fits r ≡ true
unfolding row numbers_within
told_fits r b e p1 p2 p3 p4 p5 p6 p7 p8 p9 =
    fitted r (record { counts = counts; bits = rw e (le-leb _ _ p8); rest = p9 })
  where
    form : form_of r.bits ≤ (row 0).limit
    form = rw e (omega arith)

    counts : numbers_within 8 (fields r) ≡ true
    counts = simp (le-leb _ _ form, le-leb _ _ p1, le-leb _ _ p2, le-leb _ _ p3, le-leb _ _ p4, le-leb _ _ p5, le-leb _ _ p6, le-leb _ _ p7)

-- ---- lines written

pub appended_none : (output : List ℕ) (at most : ℕ) → at ≤ most → Appended [] output output at at most
appended_none output at most h = record { place = sym (add-zero at); bound = h; same = refl; text = sym (append-nil (take at output)) }

pub no_lines : (values output : List ℕ) → Appended (lines_text 0 values) output output 0 0 0
unfolding lines_text
no_lines values output = appended_none output 0 0 (omega arith)

pub line_more : (values output next last : List ℕ) (i at r : ℕ) → Appended (lines_text i values) output next 0 at (31 * i)
    → Appended (line_text (row i).key (get_or values i 0)) next last at r (at + 31) → Appended (lines_text (i + 1) values) output last 0 r (31 * (i + 1))
unfolding lines_text
line_more values output next last i at r a b =
    let p = a.bound in
    let q = b.bound in
    rw (add-one i)
    (restated (31 * suc i) (joined_appended (lines_text i values) (line_text (row i).key (get_or values i 0)) output next last 0 at r (31 * i) (at + 31) a b) refl (omega arith))
