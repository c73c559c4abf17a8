-- `reader_program::finish` meets its contract.
-- Assumes nothing.
use mathlib.Core.Path.{refl, sym, ◌∙◌}
use Prim.Native.Nat.{◌≤◌}
use native.Mathlib.Omega.{arith}
use lib.ListN.{length}
use lib.Seq.{length-take-le}
use Rattle.bit_packing.proofs.Packing.{packs_fit}
use Rattle.reader_program.specs.Ends.{input_failed_lem, output_failed_lem, errors_failed, whole, part}
use Rattle.received_symbols.proofs.Pieces.{taken_ready}
use Rattle.reader_program.proofs.Going.{files_written, files_told}
use Rattle.reader_program.proofs.Ending.{whole_run}
use Rattle.reader_program.proofs.finish.Goals as goal

pub returns-then-failed : goal.returns-then-failed
returns-then-failed c =
    record { files = c.requires.0; status = part refl (input_failed_lem c.args.pass c.args.came c.requires.1 (sym c.failed.ensures ∙ c.if-failed.true) c.requires.2.trace) }

pub finish-finished-requires : goal.finish-finished-requires
finish-finished-requires c = (taken_ready c.requires.1.taken, c.requires.4, c.requires.5)

pub slice_bounds-write-end-2 : goal.slice_bounds-write-end-2
slice_bounds-write-end-2 c =
    let left_fits : c.finish-finished.result.count ≤ length c.finish-finished.new.output = packs_fit c.finish-finished.ensures.packed in
    left_fits

pub slice_bounds-write-end-3 : goal.slice_bounds-write-end-3
slice_bounds-write-end-3 c =
    let left_fits : c.finish-finished.result.count ≤ length c.finish-finished.new.output = packs_fit c.finish-finished.ensures.packed in
    sym (length-take-le _ _ left_fits)

pub returns-then-failed-2 : goal.returns-then-failed-2
returns-then-failed-2 c =
    record {
      files = files_written c.requires.0 (c.close-output.ensures.file ∙ c.write-output.ensures.file);
      status = part refl (output_failed_lem (sym c.failed-2.ensures ∙ c.if-failed-2.true) c.requires.2.trace);
    }

pub slice_bounds-text-end : goal.slice_bounds-text-end
slice_bounds-text-end c =
    let text_fits : c.closing_lines-n.result ≤ length c.closing_lines-n.new.text = let r = c.closing_lines-n in omega (arith, r.ensures.bound, r.auto.text) in
    text_fits

pub shape_of-bits-then-failed-3 : goal.shape_of-bits-then-failed-3
shape_of-bits-then-failed-3 c = c.finish-finished.auto.bits

pub returns-then-failed-3 : goal.returns-then-failed-3
returns-then-failed-3 c =
    record {
      files = files_told (files_written c.requires.0 (c.close-output.ensures.file ∙ c.write-output.ensures.file)) c.write_text-errors.ensures.file;
      status = part refl (errors_failed (sym c.failed-3.ensures ∙ c.if-failed-3.true));
    }

pub shape_of-bits-else-failed-3 : goal.shape_of-bits-else-failed-3
shape_of-bits-else-failed-3 c = c.finish-finished.auto.bits

pub returns-else-failed-3 : goal.returns-else-failed-3
returns-else-failed-3 c =
    let k = c.close-output.ensures in
    let v = c.write-output.ensures in
    let t = c.write_text-errors.ensures in
    record {
      files = files_told (files_written c.requires.0 (k.file ∙ v.file)) t.file;
      status =
          whole refl
          (whole_run c.requires.1 c.requires.2 c.requires.3 (sym c.failed.ensures ∙ c.if-failed.false) c.finish-finished.ensures v k
          (sym c.failed-2.ensures ∙ c.if-failed-2.false) c.closing_lines-n.ensures.text t (sym c.failed-3.ensures ∙ c.if-failed-3.false) refl refl refl);
    }
