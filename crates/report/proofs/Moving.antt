-- A report moved from one form to the other: what is answered, and that there and back gives the same bytes.
-- Assumes nothing.
use mathlib.Core.Path.{◌≡◌, refl, sym, ap, ap₂, subst, ◌∙◌}
use mathlib.Core.Bool.{Bool, true, false}
use mathlib.Core.List.{List}
use Prim.Native.Nat.{ℕ, ◌+◌, ◌-◌, ◌≤◌}
use native.Mathlib.Omega.{arith}
use borrow.Author.Tests.{eqb-true, eq-eqb, ne_eqb}
use lib.Dec.{eqb}
use lib.ListN.{length, take, drop}
use lib.Seq.{take_at}
use Rattle.common.specs.Lists.{placed}
use Rattle.common.proofs.Choice.{false_true}
use Rattle.report.specs.declared.Bits.{Bits}
use Rattle.report.specs.declared.Bits.TheVariants.{Absent, Dash, Number}
use Rattle.report.specs.declared.Report.{Report}
use Rattle.report.specs.Text.{report_text, write_number}
use Rattle.report.specs.Read.{ReadsWhole}
use Rattle.report.specs.Move.{movable, moved_bits, moved, move_number, Moves, MovedText, other_form}
use Rattle.report.proofs.AsWritten.{written_size, written_output, written_within, read_given, given_read, write_passed, write_done}

-- ---- moving

abbrev pub with_bits : Report → Bits → Report
with_bits r b = record {
  taken = r.taken;
  filling = r.filling;
  delivered = r.delivered;
  lost = r.lost;
  waiting = r.waiting;
  outofstep = r.outofstep;
  changed = r.changed;
  bits = b;
  rest = r.rest;
}

module _ (t : List ℕ) (form : ℕ) (output : List ℕ) (n : ℕ) (r : Report) (w : ReadsWhole t n r) where
  pub move_unread : (n ≡ 0 → ⊥) → Moves t form output n 0 output
  move_unread e = record {
    answer = n;
    report = r;
    read = w;
    writes = record { number_is = simp (ne_eqb n 0 e); size_is = simp (ne_eqb n 0 e); output_is = simp (ne_eqb n 0 e) };
  }

-- ---- there and back

back_bits : (b : Bits) (form : ℕ) → movable b form ≡ true → (moved_bits (moved_bits b) ≡ b) × (movable (moved_bits b) (other_form form) ≡ true)
back_bits Absent form e = (refl, ap (λ (k : ℕ). eqb (3 - k) 1) (eqb-true form 2 e))
back_bits Dash form e = (refl, ap (λ (k : ℕ). eqb (3 - k) 2) (eqb-true form 1 e))
back_bits (Number n) form e = false_true e

-- moved twice, a report is as it was
back : (r : Report) (form : ℕ) → movable r.bits form ≡ true → (moved (moved r) ≡ r) × (movable (moved r).bits (other_form form) ≡ true)
back r form e = let b = back_bits r.bits form e in (ap (with_bits r) b.0, b.1)

-- what is moved was read, may be moved, and is written
record Done (read : ℕ) (r : Report) (form : ℕ) (output : List ℕ) : Type 0 where
  whole : read ≡ 0
  may : movable r.bits form ≡ true
  gone : write_number (moved r) output ≡ 0

move_passed : (read : ℕ) (r : Report) (form : ℕ) (output : List ℕ) → 0 ≡ move_number read r form output → Done read r form output
move_passed read r form output e = by (eqb read 0) refl (movable r.bits form) refl
  where
    by : (a : Bool) → eqb read 0 ≡ a → (b : Bool) → movable r.bits form ≡ b → Done read r form output
    by true p true q = record { whole = eqb-true _ _ p; may = q; gone = sym (e ∙ simp (p, q) refl) }
    by true p false q = let z : ◌≡◌ {A = ℕ} 0 19 = e ∙ simp (p, q) refl in absurd (omega arith)
    by false p b q = let z : 0 ≡ read = e ∙ simp p refl in false_true (sym p ∙ eq-eqb read 0 (sym z))

-- no more is written than there is room for
pub move_within : {t output exit : List ℕ} {form number size : ℕ} → Moves t form output number size exit → size ≤ length output
move_within {t} {output} {exit} {form} {number} {size} a =
    written_within a.writes (λ e. (write_passed (moved a.report) output (move_passed a.answer a.report form output (sym e)).gone).room)

-- a text placed at the front of an output stands there
front : (output l : List ℕ) → take (length l) (placed output 0 l) ≡ l
front output l = take_at l (drop (0 + length l) output) (length l) refl

-- the text that was written
pub moved_text : {t output exit : List ℕ} {form number size : ℕ} → Moves t form output number size exit → number ≡ 0 → MovedText t form (take size exit)
moved_text {t} {output} {exit} {form} {number} {size} a z =
    let r = a.report in
    let k : move_number a.answer r form output ≡ 0 = sym a.writes.number_is ∙ z in
    let d = move_passed a.answer r form output (sym k) in
    record {
      report = r;
      read = subst (λ (n : ℕ). ReadsWhole t n r) d.whole a.read;
      may = d.may;
      text_is = ap₂ take (written_size a.writes k) (written_output a.writes k) ∙ front output (report_text (moved r));
    }

-- A text that is moved to a form and then back to the other is the same text, byte for byte, where there is room for it.
pub there_and_back : (t output exit back last : List ℕ) (form n number m : ℕ)
    → Moves t form output 0 n exit → length t ≤ length back → Moves (take n exit) (other_form form) back number m last
    → (number ≡ 0) × (take m last ≡ t)
there_and_back t output exit hall last form n number m a h b =
    let r = a.report in
    let d = move_passed a.answer r form output a.writes.number_is in
    let g = read_given t a.answer r a.read d.whole in
    let p = write_passed (moved r) output d.gone in
    let k : move_number a.answer r form output ≡ 0 = sym a.writes.number_is in
    let o : take n exit ≡ report_text (moved r) = ap₂ take (written_size a.writes k) (written_output a.writes k) ∙ front output (report_text (moved r)) in
    let q = given_read (take n exit) b.answer b.report (moved r) b.read (record { fit = p.fit; add = p.add; text = o }) in
    let w = back r form d.may in
    let e : moved b.report ≡ r = ap moved q.1 ∙ w.0 in
    let f : movable b.report.bits (other_form form) ≡ true = ap (λ (s : Report). movable s.bits (other_form form)) q.1 ∙ w.1 in
    let i : move_number b.answer b.report (other_form form) hall ≡ 0
    = simp (q.0, f) (ap (λ (s : Report). write_number s hall) e ∙ write_done r t g hall h) in (
      b.writes.number_is ∙ i,
      ap₂ take (written_size b.writes i) (written_output b.writes i) ∙ front hall (report_text (moved b.report)) ∙ ap report_text e ∙ sym g.text,
    )
