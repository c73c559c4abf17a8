-- `recording_block::give_block` meets its contract.
-- Assumes nothing.
use mathlib.Core.Path.{refl, sym, ap, subst, ◌∙◌}
use lib.Seq.{length-take-le}
use Rattle.program_io.specs.Checksum.{traced}
use Rattle.program_io.specs.declared.trace.Trace.{Trace}
use Rattle.reed_solomon.specs.declared.Changed.{Changed}
use Rattle.recording_block.specs.Ends.{BlockAnswered, input_failed_lem, output_failed_lem, part}
use Rattle.recording_block.proofs.Answers.{answered, told_changes, nothing_written, block_written}
use Rattle.recording_block.proofs.give_block.Goals as goal

pub returns-then-failed : goal.returns-then-failed
returns-then-failed c =
    let e = c.errors-errors.ensures in
    record {
      output_is = c.standard-output.ensures.file;
      errors_are = e.file;
      status = part refl (input_failed_lem (sym c.failed.ensures ∙ c.if-failed.true) e.trace);
    }

pub slice_bounds-whole_blocks-end : goal.slice_bounds-whole_blocks-end
slice_bounds-whole_blocks-end c =
    let f = c.fill-filled in
    sym (length-take-le f.result.length f.new.buffer f.ensures.within)

pub slice_bounds-decoded_block-end : goal.slice_bounds-decoded_block-end
slice_bounds-decoded_block-end c =
    let f = c.fill-filled in
    sym (length-take-le f.result.length f.new.buffer f.ensures.within)

pub finish-requires : goal.finish-requires
finish-requires c =
    let f = c.fill-filled in
    let d = c.decoded_block-decoded in
    let n = c.answered-number in
    let o = c.standard-output.ensures in
    let u = sym c.failed.ensures ∙ c.if-failed.false in (
      subst (λ (x : Changed). BlockAnswered c.args.p n.result x f.result.input c.standard-output.result) (sym (c.unwrap_or-changed.ensures ∙ told_changes d.result))
          (answered c.args.p c.requires f.ensures f.auto.buffer u d.result d.new.output c.whole_blocks-blocks.result n.result c.standard-output.result
          c.whole_blocks-blocks.ensures d.ensures n.ensures o.failed (nothing_written n.result d.new.output c.standard-output.result o c.if-refused.true)),
      o.file,
      c.errors-errors.ensures,
    )

pub returns-then-failed-2 : goal.returns-then-failed-2
returns-then-failed-2 c =
    let e = c.errors-errors.ensures in
    record {
      output_is = c.write-output.ensures.file ∙ c.standard-output.ensures.file;
      errors_are = e.file;
      status = part refl (output_failed_lem (sym c.failed-2.ensures ∙ c.if-failed-2.true) e.trace);
    }

pub finish-requires-2 : goal.finish-requires-2
finish-requires-2 c =
    let f = c.fill-filled in
    let d = c.decoded_block-decoded in
    let n = c.answered-number in
    let o = c.standard-output.ensures in
    let u = sym c.failed.ensures ∙ c.if-failed.false in
    let w = c.write-output.ensures in
    let v = sym c.failed-2.ensures ∙ c.if-failed-2.false in (
      subst (λ (x : Changed). BlockAnswered c.args.p n.result x f.result.input c.write-output.result) (sym (c.unwrap_or-changed.ensures ∙ told_changes d.result))
          (answered c.args.p c.requires f.ensures f.auto.buffer u d.result d.new.output c.whole_blocks-blocks.result n.result c.write-output.result
          c.whole_blocks-blocks.ensures d.ensures n.ensures v
          (block_written n.result d.new.output _ (w.whole v ∙ ap (λ (x : Trace). traced x d.new.output) o.trace) c.if-refused.false)),
      w.file ∙ o.file,
      c.errors-errors.ensures,
    )
