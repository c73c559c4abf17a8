-- `recording_block::refuse` meets its contract.
-- Assumes nothing.
use mathlib.Core.Path.{refl, ap, ◌∙◌}
use Rattle.answer_lines.specs.Lines.{block_text}
use Rattle.program_io.specs.Checksum.{traced}
use Rattle.program_io.specs.declared.trace.Trace.{Trace}
use Rattle.recording_block.proofs.refuse.Goals as goal

pub returns : goal.returns
returns c =
    let t = c.tell-output.ensures in
    let e = c.errors.ensures in
    record { status = refl; file = t.file ∙ e.file; text = λ u. t.whole u ∙ ap (λ (x : Trace). traced x (block_text 16 0 0)) e.trace }
