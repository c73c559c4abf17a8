-- The ends of a run: what was read, and what was answered to it; and the words of a call.
-- Assumes nothing.
use mathlib.Core.Path.{◌≡◌, refl, sym, ap, subst, ◌∙◌}
use mathlib.Core.Bool.{Bool, true, false}
use mathlib.Core.List.{List, [], ◌∷◌, ◌++◌, append-nil}
use Prim.Native.Nat.{ℕ, ◌<◌}
use native.Mathlib.Decide.{dec_lt}
use native.Mathlib.Omega.{arith}
use borrow.Author.Tests.{eq-eqb, ne_eqb}
use lib.Dec.{eqb}
use lib.IntN.{pos}
use lib.ListN.{length, take, length-append}
use lib.Seq.{length-take-le}
use Rattle.common.specs.Choice.{pick}
use Rattle.report_lines.specs.Line.{line_text}
use Rattle.report.specs.Read.{blank, ReadsWhole, whole_none}
use Rattle.report.specs.Move.{Moves, MovedText, move_number}
use Rattle.report.proofs.Fronts.{report_short}
use Rattle.report.proofs.AsWritten.{read_given, read_unique}
use Rattle.report.proofs.Moving.{move_unread, moved_text}
use Rattle.program_io.specs.Checksum.{no_bytes, traced}
use Rattle.program_io.specs.Words.{same_bytes}
use Rattle.program_io.specs.Files.{input_origin, origin_file, input_trace, input_ended, input_failed, input_over, output_failed, StandardInput, FreshOutput, Fills, Writes, Closes}
use Rattle.program_io.specs.declared.trace.Trace.{Trace}
use Rattle.program_io.specs.declared.input.Input.{Input}
use Rattle.program_io.specs.declared.input.Filled.{Filled}
use Rattle.program_io.specs.declared.output.Output.{Output}
use Rattle.report_form.specs.Ends.{lent, input_failed_lem, output_failed_lem, whole, refused, part, Ends, form_of}

-- ---- a text that is longer than any report

no_report : (t : List ℕ) → 310 < length t → ReadsWhole t 17 blank
no_report t h = whole_none refl refl (λ s f k. let l = report_short s in let m = ap length k in omega (arith, h, l, m))

-- where nothing is refused before it, moving answers 17 to a text that is none, whatever follows
module _ {t exit : List ℕ} {form number size : ℕ} (a : Moves t form lent number size exit) where
  still_refused : 310 < length t → (more : List ℕ) → Moves (t ++ more) form lent number 0 lent
  still_refused h more =
      let e : a.answer ≡ 17 = (read_unique t a.answer 17 a.report blank a.read (no_report t h)).0 in
      let n : number ≡ 17 = a.writes.number_is ∙ simp (e) in
      subst (λ (k : ℕ). Moves (t ++ more) form lent k 0 lent) (sym n)
      (move_unread (t ++ more) form lent 17 blank (no_report (t ++ more) (omega (arith, h, length-append t more))) (λ z. omega (arith, z)))

  as_refused : (number ≡ 0 → ⊥) → Moves t form lent number 0 lent
  as_refused z =
      let due : eqb (move_number a.answer a.report form lent) 0 ≡ false = ap (λ (k : ℕ). eqb k 0) (sym a.writes.number_is) ∙ ne_eqb number 0 z in
      record {
        answer = a.answer;
        report = a.report;
        read = a.read;
        writes = record { number_is = a.writes.number_is; size_is = simp due; output_is = simp due };
      }

-- ---- the ends

module _ {input : Input} {buffer : List ℕ} {f : Filled} {output errors : Output} (form : ℕ) (i : StandardInput input) (h : Fills input buffer f)
    (o : FreshOutput (pos 1) output) (e : FreshOutput (pos 2) errors) (size_is : length buffer ≡ 512) where
  abbrev bytes : List ℕ
  bytes = take f.length buffer

  bytes_length : length bytes ≡ f.length
  bytes_length = length-take-le f.length buffer h.within

  file : origin_file (input_origin f.input) ≡ pos 0
  file = ap origin_file h.origin ∙ i.file

  read : input_trace f.input ≡ traced no_bytes bytes
  read = h.trace ∙ ap (λ (t : Trace). traced t bytes) i.trace

  pub ends_input : input_failed f.input ≡ true → Ends form (record { status = pos 1; input = f.input; output = output; errors = errors })
  ends_input z = record { input_is = file; output_is = o.file; errors_is = e.file; status = part refl (input_failed_lem z o.trace e.trace) }

  module _ (u : input_failed f.input ≡ false) {number size : ℕ} {exit : List ℕ} (m : Moves bytes form lent number size exit) where
    -- a text that does not fill the buffer is all of the input
    ended : f.length < 512 → input_ended f.input ≡ true
    ended l = ap (λ (b : Bool). pick b false (input_over f.input)) u ∙ h.short (omega arith)

    pub ends_refused : (number ≡ 0 → ⊥) → {told : Output} → Writes errors (line_text [] number) told
        → Ends form (record { status = pos 1; input = f.input; output = output; errors = told })
    ends_refused z w = record {
      input_is = file;
      output_is = o.file;
      errors_is = w.file ∙ e.file;
      status =
          refused number refl
          (record {
            bytes = bytes;
            read = read;
            unfailed = u;
            refused = λ more n. by more n (dec_lt f.length 512);
            some = z;
            told = λ v. w.whole v ∙ ap (λ (t : Trace). traced t (line_text [] number)) e.trace;
            unwritten = o.trace;
          });
    }
      where
        by : (more : List ℕ) → (input_ended f.input ≡ true → more ≡ []) → Dec (f.length < 512) → Moves (bytes ++ more) form lent number 0 lent
        by more n (yes l) =
            subst (λ (t : List ℕ). Moves t form lent number 0 lent) (sym (ap (λ (t : List ℕ). bytes ++ t) (n (ended l)) ∙ append-nil bytes)) (as_refused m z)
        by more n (no l) = still_refused m (omega (arith, l, bytes_length)) more

    module _ (z : number ≡ 0) {w k : Output} (p : Writes output (take size exit) w) (q : Closes w k) where
      pub ends_output : output_failed k ≡ true → Ends form (record { status = pos 1; input = f.input; output = k; errors = errors })
      ends_output v = record { input_is = file; output_is = q.file ∙ p.file ∙ o.file; errors_is = e.file; status = part refl (output_failed_lem v e.trace) }

      pub ends_whole : output_failed k ≡ false → Ends form (record { status = pos 0; input = f.input; output = k; errors = errors })
      ends_whole v = record {
        input_is = file;
        output_is = q.file ∙ p.file ∙ o.file;
        errors_is = e.file;
        status =
            whole refl
            (record {
              bytes = bytes;
              read = read;
              ended = ended (omega (arith, bytes_length, ap length (read_given bytes 0 t.report t.read refl).text, report_short t.report));
              text = take size exit;
              moved = t;
              written = q.trace ∙ p.whole (q.started v) ∙ ap (λ (x : Trace). traced x (take size exit)) o.trace;
              written_whole = v;
              closed = q.closed v;
            });
      }
        where
          t : MovedText bytes form (take size exit)
          t = moved_text m z

-- ---- the words

module _ (count : ℕ) (first : List ℕ) where
  picked : (a b c : Bool) → eqb count 1 ≡ a → same_bytes first (0x31 ∷ []) ≡ b → same_bytes first (0x32 ∷ []) ≡ c → pick a (pick b 1 (pick c 2 0)) 0 ≡ form_of count first
  picked a b c p q r = simp (p, q, r)

  pub no_word : (count ≡ 1 → ⊥) → 0 ≡ form_of count first
  no_word z = picked false (same_bytes first (0x31 ∷ [])) (same_bytes first (0x32 ∷ [])) (ne_eqb count 1 z) refl refl

  module _ (o : count ≡ 1) where
    pub word_1 : true ≡ same_bytes first (0x31 ∷ []) → 1 ≡ form_of count first
    word_1 a = picked true true (same_bytes first (0x32 ∷ [])) (eq-eqb count 1 o) (sym a) refl

    pub word_2 : false ≡ same_bytes first (0x31 ∷ []) → true ≡ same_bytes first (0x32 ∷ []) → 2 ≡ form_of count first
    word_2 a b = picked true false true (eq-eqb count 1 o) (sym a) (sym b)

    pub other_word : false ≡ same_bytes first (0x31 ∷ []) → false ≡ same_bytes first (0x32 ∷ []) → 0 ≡ form_of count first
    other_word a b = picked true false false (eq-eqb count 1 o) (sym a) (sym b)
