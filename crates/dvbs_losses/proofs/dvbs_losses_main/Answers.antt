-- `dvbs_losses::dvbs_losses_main` meets its contract.
-- Assumes nothing.
use mathlib.Core.Path.{◌≡◌, sym, ◌∙◌}
use mir.Syntax.{w32}
use mir.Val.{to_z, of_z}
use Rattle.program_io.specs.Checksum.{no_bytes}
use Rattle.program_io.specs.Files.{input_trace}
use Rattle.program_io.specs.declared.input.Input.{Input}
use Rattle.program_io.specs.Calls.{NamedInput, without, named}
use Rattle.dvbs_losses.specs.Ends.{answered, ran}
use borrow.Author.Rules.{rules}
use Rattle.program_io.proofs.Answering.{help_answered, version_answered, wrong_answered}
use Rattle.dvbs_losses.proofs.dvbs_losses_main.Goals as goal

-- nothing of the marks is read yet
made_fresh : {count : _} {marks : Input} → NamedInput count marks → input_trace marks ≡ no_bytes
made_fresh (without e n) = n.trace
made_fresh (named e o) = o.trace

pub run-ended-requires : goal.run-ended-requires
run-ended-requires c = made_fresh c.named_input-marks.ensures

pub returns-then-is_right : goal.returns-then-is_right
returns-then-is_right c =
    let z = c.run-ended.result.status in
    let e : to_z w32 (of_z w32 z) ≡ z = search rules in
    ran c.new-arguments.result c.new-first.result c.named_input-marks.result c.run-ended.result c.new-first.ensures (sym c.asked_for-asked.ensures ∙ c.in-Work.is) (sym c.is_right.ensures ∙ c.if-is_right.true) c.named_input-marks.ensures c.run-ended.ensures e

pub returns-in-Help : goal.returns-in-Help
returns-in-Help c =
    let z = c.help-answered.result.status in
    let e : to_z w32 (of_z w32 z) ≡ z = search rules in
    answered (help_answered c.new-arguments.result c.new-first.result c.help-answered.result c.new-first.ensures (sym c.asked_for-asked.ensures ∙ c.in-Help.is) c.help-answered.ensures e)

pub returns-in-Version : goal.returns-in-Version
returns-in-Version c =
    let z = c.version-answered.result.status in
    let e : to_z w32 (of_z w32 z) ≡ z = search rules in
    answered (version_answered c.new-arguments.result c.new-first.result c.version-answered.result c.new-first.ensures (sym c.asked_for-asked.ensures ∙ c.in-Version.is) c.version-answered.ensures e)

pub returns-else-is_right : goal.returns-else-is_right
returns-else-is_right c =
    let z = c.wrong-answered.result.status in
    let e : to_z w32 (of_z w32 z) ≡ z = search rules in
    answered (wrong_answered c.new-arguments.result c.new-first.result c.wrong-answered.result c.new-first.ensures (sym c.asked_for-asked.ensures ∙ c.in-Work.is) (sym c.is_right.ensures ∙ c.if-is_right.false) c.wrong-answered.ensures e)
