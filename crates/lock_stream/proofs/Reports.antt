-- The report of a lock, written into a text.
-- Assumes nothing.
use mathlib.Core.Path.{◌≡◌, refl, sym, ap, subst, ◌∙◌}
use mathlib.Core.Bool.{true}
use mathlib.Core.List.{List, ◌++◌}
use Prim.Native.Nat.{ℕ, ◌+◌, ◌≤◌, ◌<◌}
use native.Mathlib.Omega.{arith}
use lib.ListN.{length, take, drop}
use lib.Seq.{take_at}
use Rattle.reception_counts.specs.Counts.{counts_in_range}
use Rattle.reception_counts.specs.declared.Counts.{Counts}
use Rattle.reception_counts.proofs.Ranges.{counts_range}
use Rattle.report.specs.Text.{report_text, write_number, WritesText}
use Rattle.report.specs.declared.Report.{Report}
use Rattle.report.proofs.AsWritten.{Gives, write_done, written_size, written_output}
use Rattle.report.proofs.Fronts.{report_short}
use Rattle.report_lines.specs.Line.{Appended}
use Rattle.report_lines.proofs.Lines.{put_appended, restated}
use Rattle.receiver_stream.specs.Reporting.{report_of}
use Rattle.receiver_stream.proofs.Reporting.{counts_fit, counts_add}

-- the writer gives the text of the report, and does not refuse it
pub record ReportWritten (text exit : List ℕ) (size : ℕ) : Type 0 where
  pub size_is : size ≡ length text
  pub text_is : take size exit ≡ text
  pub short : size ≤ 310

pub report_written : (n : Counts) (rest : ℕ) → counts_in_range n ≡ true → rest < 204 → (output : List ℕ) → 320 ≤ length output → {r : Report} → r ≡ report_of n rest → {number size : ℕ} {exit : List ℕ}
    → WritesText (write_number r output) (report_text r) output number size exit → ReportWritten (report_text (report_of n rest)) exit size
report_written n rest e h output room {r} q {number} {size} {exit} v =
    let w : WritesText (write_number (report_of n rest) output) (report_text (report_of n rest)) output number size exit
    = subst (λ (x : Report). WritesText (write_number x output) (report_text x) output number size exit) q v in
    let c = counts_range n e in
    let t : List ℕ = report_text (report_of n rest) in
    let g : Gives (report_of n rest) t = record { fit = counts_fit n rest c h; add = counts_add n rest c; text = refl } in
    let k : length t ≤ 310 = report_short (report_of n rest) in
    let d = write_done (report_of n rest) t g output (omega (arith, k)) in
    let s = written_size w d in
    record {
      size_is = s;
      text_is = ap (take size) (written_output w d) ∙ take_at t (drop (0 + length t) output) size (sym s);
      short = omega (arith, s, k);
    }

pub report_appended : {text own entry exit : List ℕ} {at n : ℕ} → ReportWritten text own n → length (take n own) ≡ n → at + 320 ≤ length entry
    → exit ≡ take at entry ++ take n own ++ drop (at + length (take n own)) entry → Appended text entry exit at (at + n) (at + 320)
report_appended {text} {own} {entry} {exit} {at} {n} w l room x =
    let s = w.short in
    let placed : List ℕ = take at entry ++ take n own ++ drop (at + length (take n own)) entry in
    let p : Appended text entry placed at (at + length (take n own)) (at + 320)
    = restated (at + 320) (put_appended entry (take n own) at (at + 320) (omega (arith, l)) (omega (arith, l))) w.text_is (omega (arith, l)) in
    subst (λ (y : List ℕ). Appended text entry y at (at + n) (at + 320)) (sym x) (subst (λ (k : ℕ). Appended text entry placed at (at + k) (at + 320)) l p)
