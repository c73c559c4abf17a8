-- `recording_block::finish` meets its contract.
-- Assumes nothing.
use mathlib.Core.Path.{refl, sym, ap, subst, ◌∙◌}
use Prim.Native.Nat.{ℕ}
use native.Mathlib.Omega.{arith}
use Rattle.answer_lines.specs.Lines.{block_text}
use Rattle.program_io.specs.Checksum.{no_bytes, traced}
use Rattle.program_io.specs.declared.trace.Trace.{Trace}
use Rattle.recording_block.specs.Ends.{BlockAnswered, output_failed_lem, errors_failed, given, none, part}
use Rattle.recording_block.proofs.Answers.{same-answered}
use Rattle.recording_block.proofs.finish.Goals as goal

pub returns-then-failed : goal.returns-then-failed
returns-then-failed c =
    let e = c.requires.2 in
    record {
      output_is = c.close-output.ensures.file ∙ c.requires.1;
      errors_are = e.file;
      status = part refl (output_failed_lem (sym c.failed.ensures ∙ c.if-failed.true) e.trace);
    }

pub returns-then-failed-2 : goal.returns-then-failed-2
returns-then-failed-2 c =
    let t = c.tell-errors.ensures in
    record {
      output_is = c.close-output.ensures.file ∙ c.requires.1;
      errors_are = t.file ∙ c.requires.2.file;
      status = part refl (errors_failed (sym c.failed-2.ensures ∙ c.if-failed-2.true));
    }

pub returns-then-number-eq0 : goal.returns-then-number-eq0
returns-then-number-eq0 c =
    let k = c.close-output.ensures in
    let t = c.tell-errors.ensures in
    let e = c.requires.2 in
    let u = sym c.failed.ensures ∙ c.if-failed.false in
    let v = sym c.failed-2.ensures ∙ c.if-failed-2.false in
    let z = c.if-number-eq0.true in
    let x = c.args.changed in
    record {
      output_is = k.file ∙ c.requires.1;
      errors_are = t.file ∙ e.file;
      status =
          given x refl (subst (λ (n : ℕ). BlockAnswered c.args.p n x c.args.input c.close-output.result) z (same-answered c.requires.0 k.trace u))
          (record {
            closed = k.closed u;
            unfailed = v;
            text =
                t.whole v ∙ ap (λ (y : Trace). traced y (block_text c.args.number x.bytes x.bits)) e.trace
                ∙ ap (λ (n : ℕ). traced no_bytes (block_text n x.bytes x.bits)) z;
          });
    }

pub returns-else-number-eq0 : goal.returns-else-number-eq0
returns-else-number-eq0 c =
    let k = c.close-output.ensures in
    let t = c.tell-errors.ensures in
    let e = c.requires.2 in
    let u = sym c.failed.ensures ∙ c.if-failed.false in
    let v = sym c.failed-2.ensures ∙ c.if-failed-2.false in
    let z = c.if-number-eq0.false in
    let x = c.args.changed in
    record {
      output_is = k.file ∙ c.requires.1;
      errors_are = t.file ∙ e.file;
      status =
          none c.args.number x refl (omega (arith, z)) (same-answered c.requires.0 k.trace u)
          (record {
            closed = k.closed u;
            unfailed = v;
            text = t.whole v ∙ ap (λ (y : Trace). traced y (block_text c.args.number x.bytes x.bits)) e.trace;
          });
    }
