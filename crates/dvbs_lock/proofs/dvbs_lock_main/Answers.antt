-- `dvbs_lock::dvbs_lock_main` meets its contract.
-- Assumes nothing.
use mathlib.Core.Path.{◌≡◌, sym, ◌∙◌}
use mir.Syntax.{w32}
use mir.Val.{to_z, of_z}
use Rattle.program_io.proofs.Answering.{help_answered, version_answered}
use Rattle.dvbs_lock.specs.Ends.{answered}
use borrow.Author.Rules.{rules}
use Rattle.dvbs_lock.proofs.dvbs_lock_main.Goals as goal

pub work-requires : goal.work-requires
work-requires c = (c.new-word.ensures, sym c.asked_for-asked.ensures ∙ c.in-Work.is)

pub returns-in-Help : goal.returns-in-Help
returns-in-Help c =
    let z = c.help-answered.result.status in
    let e : to_z w32 (of_z w32 z) ≡ z = search rules in
    answered (help_answered c.new-arguments.result c.new-word.result c.help-answered.result c.new-word.ensures (sym c.asked_for-asked.ensures ∙ c.in-Help.is) c.help-answered.ensures e)

pub returns-in-Version : goal.returns-in-Version
returns-in-Version c =
    let z = c.version-answered.result.status in
    let e : to_z w32 (of_z w32 z) ≡ z = search rules in
    answered (version_answered c.new-arguments.result c.new-word.result c.version-answered.result c.new-word.ensures (sym c.asked_for-asked.ensures ∙ c.in-Version.is) c.version-answered.ensures e)
