-- How a pass ended, and what the program leaves then.
-- Assumes nothing.
use mathlib.Core.Path.{◌≡◌, refl, ap, subst, ◌∙◌}
use mathlib.Core.Bool.{Bool, true, false}
use Prim.Native.Nat.{ℕ}
use native.Mathlib.Omega.{arith}
use lib.IntN.{ℤ, pos}
use Rattle.answer_lines.specs.Lines.{refusal_text}
use Rattle.program_io.specs.Checksum.{no_bytes, traced}
use Rattle.program_io.specs.Files.{origin_file, input_trace, output_trace, output_failed, StandardInput, FreshOutput, Writes}
use Rattle.program_io.specs.declared.trace.Trace.{Trace}
use Rattle.program_io.specs.declared.input.Input.{Input}
use Rattle.program_io.specs.declared.output.Output.{Output}
use Rattle.receiver_stream.specs.History.{ReceiverCame}
use Rattle.receiver_stream.specs.declared.ReceiverStream.{ReceiverStream}
use Rattle.pass.specs.Pass.{PassCame, BadMark, Passes, whole, input_failed_lem, marks_failed, output_failed_lem, refused}
use Rattle.pass.specs.Pass as pass
use Rattle.pass.specs.declared.Ending.TheVariants.{Whole, Failed, Refused}
use Rattle.pass.specs.declared.Pass.{Pass}
use Rattle.program_io.specs.Calls.{NamedInput, without, named}
use Rattle.dvbs_receive.specs.Ends as own
use Rattle.dvbs_receive.specs.Ends.{Tells, told, lost, untold, Ends}
use Rattle.dvbs_receive.specs.declared.PassTold.{PassTold}

-- the same with another output of the same bytes
same_came : {start input marks : Input} {output o : Output} {stream : ReceiverStream} → PassCame true start input marks output stream → output_trace o ≡ output_trace output
    → output_failed o ≡ false → PassCame true start input marks o stream
same_came g t u = record {
  bytes = g.bytes;
  came = g.came;
  packets = g.packets;
  reception = g.reception;
  read = g.read;
  marks_read = g.marks_read;
  marks_fit_lem = g.marks_fit_lem;
  marks_all = g.marks_all;
  marks_unfailed = g.marks_unfailed;
  unmarked = g.unmarked;
  unfailed = u;
  written = t ∙ g.written;
}

pub stream_came : {start : Input} {p : Pass} → pass.Ends true start p → p.ending ≡ Whole → ReceiverCame p.stream × (output_failed p.output ≡ false)
stream_came (whole e g n) w = (record { bytes = g.bytes; marks = _; written = g.packets; reception = g.reception }, g.unfailed)
stream_came (input_failed_lem e f) w = let z : ◌≡◌ {A = ℕ} 0 1 = cc in absurd (omega arith)
stream_came (marks_failed e f q) w = let z : ◌≡◌ {A = ℕ} 0 1 = cc in absurd (omega arith)
stream_came (output_failed_lem e f q) w = let z : ◌≡◌ {A = ℕ} 0 1 = cc in absurd (omega arith)
stream_came (refused b e f q) w = let z : ◌≡◌ {A = ℕ} 0 1 = cc in absurd (omega arith)

module _ {start input : Input} {output errors : Output} {p : Pass} (k : Passes input start output true p) (i : StandardInput input) (o : FreshOutput (pos 1) output)
    (f : FreshOutput (pos 2) errors) where
  -- all was read and written
  pub ends_told : p.ending ≡ Whole → {t : PassTold} → Tells p.stream p.output t → {status : ℤ} → status ≡ t.status
      → Ends start (record { status = status; input = p.input; marks = p.marks; output = t.output; errors = t.errors })
  ends_told w {t} (told s a b u c d v r) {status} q = by k.ends
    where
      by : pass.Ends true start p → Ends start (record { status = status; input = p.input; marks = p.marks; output = t.output; errors = t.errors })
      by (whole e g n) = record {
        input_is = ap origin_file k.input_origin_lem ∙ i.file;
        marks_are = k.marks_origin;
        output_is = a ∙ k.file ∙ o.file;
        errors_are = d;
        status = own.whole (q ∙ s) (record { stream = p.stream; all = same_came g b u; ended = n; closed = c; told_whole = v; told = r });
      }
      by (input_failed_lem e x) = let z : ◌≡◌ {A = ℕ} 0 1 = cc in absurd (omega arith)
      by (marks_failed e x y) = let z : ◌≡◌ {A = ℕ} 0 1 = cc in absurd (omega arith)
      by (output_failed_lem e x y) = let z : ◌≡◌ {A = ℕ} 0 1 = cc in absurd (omega arith)
      by (refused b e x y) = let z : ◌≡◌ {A = ℕ} 0 1 = cc in absurd (omega arith)
  ends_told w (lost s a u d r) q = record {
    input_is = ap origin_file k.input_origin_lem ∙ i.file;
    marks_are = k.marks_origin;
    output_is = a ∙ k.file ∙ o.file;
    errors_are = d;
    status = own.part (q ∙ s) (own.output_failed_lem u r);
  }
  ends_told w (untold s a d u) q = record {
    input_is = ap origin_file k.input_origin_lem ∙ i.file;
    marks_are = k.marks_origin;
    output_is = a ∙ k.file ∙ o.file;
    errors_are = d;
    status = own.part (q ∙ s) (own.errors_failed u);
  }

  -- something failed
  pub ends_failed : p.ending ≡ Failed → Ends start (record { status = pos 1; input = p.input; marks = p.marks; output = p.output; errors = errors })
  ends_failed w = record {
    input_is = ap origin_file k.input_origin_lem ∙ i.file;
    marks_are = k.marks_origin;
    output_is = k.file ∙ o.file;
    errors_are = f.file;
    status = own.part refl (by k.ends);
  }
    where
      by : pass.Ends true start p → own.Failed (record { status = pos 1; input = p.input; marks = p.marks; output = p.output; errors = errors })
      by (whole e g n) = let z : ◌≡◌ {A = ℕ} 0 1 = cc in absurd (omega arith)
      by (input_failed_lem e x) = own.input_failed_lem x f.trace
      by (marks_failed e x y) = own.marks_failed x f.trace
      by (output_failed_lem e x y) = own.output_failed_lem x f.trace
      by (refused b e x y) = let z : ◌≡◌ {A = ℕ} 0 1 = cc in absurd (omega arith)

  -- a mark above 1
  pub ends_refused : (block : ℕ) → p.ending ≡ Refused block → {r : Output} → Writes errors (refusal_text block 20) r
      → Ends start (record { status = pos 1; input = p.input; marks = p.marks; output = p.output; errors = r })
  ends_refused block w {r} h = record {
    input_is = ap origin_file k.input_origin_lem ∙ i.file;
    marks_are = k.marks_origin;
    output_is = k.file ∙ o.file;
    errors_are = h.file ∙ f.file;
    status = own.part refl (by (output_failed r) refl k.ends);
  }
    where
      by : (b : Bool) → output_failed r ≡ b → pass.Ends true start p → own.Failed (record { status = pos 1; input = p.input; marks = p.marks; output = p.output; errors = r })
      by true u e = own.errors_failed u
      by false u (refused b e x y) =
          let same : b ≡ block = cc in
          own.mark_refused block (subst (BadMark p.marks) same x) (h.whole u ∙ ap (λ (t : Trace). traced t (refusal_text block 20)) f.trace)
      by false u (whole e g n) = let z : ◌≡◌ {A = ℕ} 0 1 = cc in absurd (omega arith)
      by false u (input_failed_lem e x) = let z : ◌≡◌ {A = ℕ} 0 1 = cc in absurd (omega arith)
      by false u (marks_failed e x y) = let z : ◌≡◌ {A = ℕ} 0 1 = cc in absurd (omega arith)
      by false u (output_failed_lem e x y) = let z : ◌≡◌ {A = ℕ} 0 1 = cc in absurd (omega arith)

-- before anything is read of the marks
pub made_fresh : {count : ℕ} {marks : Input} → NamedInput count marks → input_trace marks ≡ no_bytes
made_fresh (without e n) = n.trace
made_fresh (named e n) = n.trace
