-- A text is read as a report exactly when the writer gives it for that report.
-- Assumes nothing.
use mathlib.Core.Path.{◌≡◌, refl, sym, ap, ◌∙◌}
use mathlib.Core.Bool.{Bool, true, false}
use mathlib.Core.List.{List, [], ◌++◌, append-nil}
use Prim.Native.Nat.{ℕ, ◌≤◌}
use native.Mathlib.Nat.{zero-add, le_refl}
use native.Mathlib.Decide.{ℕ_discrete}
use native.Mathlib.Omega.{arith}
use borrow.Author.Tests.{ne_eqb, le-ltb, ltb-false}
use lib.Dec.{eqb, ltb}
use lib.ListN.{length, drop, drop_of_length-le}
use Rattle.std.specs.Prelude.{Result, Ok, Err}
use Rattle.std.specs.Result.{result_unwrap_or}
use Rattle.answer.specs.Number.{given_or}
use Rattle.answer.specs.declared.Refusal.{Refusal}
use Rattle.common.specs.Choice.{pick}
use Rattle.common.specs.Lists.{placed}
use Rattle.common.proofs.Choice.{false_true}
use Rattle.report.specs.declared.Report.{Report}
use Rattle.report.specs.Text.{report_text, fits, sums, write_number, WritesText}
use Rattle.report.specs.Read.{ReadsWhole, WrittenFor, ReadAsWritten, whole, whole_wrong, whole_none}
use Rattle.report.proofs.Fronts.{report_unique}

-- a text is that of a report which the writer does not refuse
pub record Gives (r : Report) (t : List ℕ) : Type 0 where
  pub fit : fits r ≡ true
  pub add : sums r ≡ true
  pub text : t ≡ report_text r

-- ---- what is written, where the answer's number is given

module _ {due : ℕ} {text output : List ℕ} {number size : ℕ} {exit : List ℕ} (w : WritesText due text output number size exit) where
  pub written_size : due ≡ 0 → size ≡ length text
  written_size e = w.size_is ∙ ap (λ (k : ℕ). pick (eqb k 0) (length text) 0) e

  pub written_output : due ≡ 0 → exit ≡ placed output 0 text
  written_output e = w.output_is ∙ ap (λ (k : ℕ). pick (eqb k 0) (placed output 0 text) output) e

  -- no more than there is room for
  pub written_within : (due ≡ 0 → length text ≤ length output) → size ≤ length output
  written_within h = by (ℕ_discrete due 0)
    where
      by : Dec (due ≡ 0) → size ≤ length output
      by (yes e) = omega (arith, h e, written_size e)
      by (no e) = let n : size ≡ 0 = w.size_is ∙ simp (ne_eqb due 0 e) refl in omega arith

-- how many bytes were written, as a number that is 0 where the answer is a refusal
pub size_given : (r : Result ℕ Refusal) → result_unwrap_or r 0 ≡ given_or 0 (λ (n : ℕ). n) r
size_given (Ok n) = refl
size_given (Err e) = refl

-- none of the three tests refuses
pub record Passed (r : Report) (output : List ℕ) : Type 0 where
  pub fit : fits r ≡ true
  pub add : sums r ≡ true
  pub room : length (report_text r) ≤ length output

pub write_passed : (r : Report) (output : List ℕ) → write_number r output ≡ 0 → Passed r output
write_passed r output e = by (fits r) refl (sums r) refl (ltb (length output) (length (report_text r))) refl
  where
    by : (a : Bool) → fits r ≡ a → (b : Bool) → sums r ≡ b → (c : Bool) → ltb (length output) (length (report_text r)) ≡ c → Passed r output
    by true f true s false l = record { fit = f; add = s; room = ltb-false _ _ l }
    by true f true s true l = let z : ◌≡◌ {A = ℕ} 4 0 = sym (simp (f, s, l) refl) ∙ e in absurd (omega arith)
    by true f false s c l = let z : ◌≡◌ {A = ℕ} 18 0 = sym (simp (f, s) refl) ∙ e in absurd (omega arith)
    by false f b s c l = let z : ◌≡◌ {A = ℕ} 17 0 = sym (simp f refl) ∙ e in absurd (omega arith)

pub write_done : (r : Report) (t : List ℕ) → Gives r t → (output : List ℕ) → length t ≤ length output → write_number r output ≡ 0
write_done r t g output h =
    let l : length t ≡ length (report_text r) = ap length g.text in
    simp (g.fit, g.add, le-ltb (length output) (length (report_text r)) (omega arith)) refl

given_written : (r : Report) (t : List ℕ) → Gives r t → WrittenFor r t
given_written r t g = record {
  writes = λ output h.
      let n = write_done r t g output h in record {
        number_is = sym n;
        size_is = ap length g.text ∙ sym (ap (λ (k : ℕ). pick (eqb k 0) (length (report_text r)) 0) n);
        output_is = ap (placed output 0) g.text ∙ sym (ap (λ (k : ℕ). pick (eqb k 0) (placed output 0 (report_text r)) output) n);
      };
}

-- a list placed at the front of one that is not longer
placed_all : (output l : List ℕ) → length output ≤ length l → placed output 0 l ≡ l
placed_all output l h =
    ap (λ (k : ℕ). l ++ drop k output) (zero-add (length l)) ∙ ap (λ (x : List ℕ). l ++ x) (drop_of_length-le output {i = length l} h) ∙ append-nil l

written_given : (r : Report) (t : List ℕ) → WrittenFor r t → Gives r t
written_given r t w =
    let h : length t ≤ length t = le_refl (length t) in
    let v = w.writes t h in
    let n : write_number r t ≡ 0 = sym v.number_is in
    let p = write_passed r t n in
    record {
      fit = p.fit;
      add = p.add;
      text = sym (placed_all t t h) ∙ written_output v n ∙ placed_all t (report_text r) (omega (arith, written_size v n));
    }

same_text : (r s : Report) → fits r ≡ true → fits s ≡ true → report_text r ≡ report_text s → r ≡ s
same_text r s f g q = (report_unique r s [] [] f g (ap (λ (l : List ℕ). l ++ []) q)).0

pub read_given : (t : List ℕ) (n : ℕ) (r : Report) → ReadsWhole t n r → n ≡ 0 → Gives r t
read_given t n r (whole z f s q) e = record { fit = f; add = s; text = q }
read_given t n r (whole_wrong u z b f s q) e = absurd (omega arith)
read_given t n r (whole_none z b g) e = absurd (omega arith)

pub given_read : (t : List ℕ) (n : ℕ) (r s : Report) → ReadsWhole t n r → Gives s t → (n ≡ 0) × (r ≡ s)
given_read t n r s (whole z f a q) g = (z, same_text r s f g.fit (sym q ∙ g.text))
given_read t n r s (whole_wrong u z b f a q) g =
    let e : u ≡ s = same_text u s f g.fit (sym q ∙ g.text) in
    false_true (sym a ∙ ap sums e ∙ g.add)
given_read t n r s (whole_none z b f) g = absurd (f s g.fit g.text)

-- the statement of document 02, P7, of every text
pub read_as_written : (t : List ℕ) (n : ℕ) (r : Report) → ReadsWhole t n r → ReadAsWritten t n r
read_as_written t n r w = record {
  read = λ e. given_written r t (read_given t n r w e);
  written = λ s v. given_read t n r s w (written_given s t v);
}

-- the answer and the report are decided by the text
pub read_unique : (t : List ℕ) (n m : ℕ) (r s : Report) → ReadsWhole t n r → ReadsWhole t m s → (n ≡ m) × (r ≡ s)
read_unique t n m r s (whole z f a q) v = let g = given_read t m s r v (record { fit = f; add = a; text = q }) in (z ∙ sym g.0, sym g.1)
read_unique t n m r s (whole_wrong u z b f a q) (whole y g c p) =
    let h = given_read t n r s (whole_wrong u z b f a q) (record { fit = g; add = c; text = p }) in
    (h.0 ∙ sym y, h.1)
read_unique t n m r s (whole_wrong u z b f a q) (whole_wrong v y d g c p) = (z ∙ sym y, b ∙ sym d)
read_unique t n m r s (whole_wrong u z b f a q) (whole_none y d g) = absurd (g u f q)
read_unique t n m r s (whole_none z b f) (whole y g c p) = absurd (f s g p)
read_unique t n m r s (whole_none z b f) (whole_wrong v y d g c p) = absurd (f v g p)
read_unique t n m r s (whole_none z b f) (whole_none y d g) = (z ∙ sym y, b ∙ sym d)
