-- `season::season_main` meets its contract.
-- Assumes nothing.
use mathlib.Core.Path.{◌≡◌, sym, ◌∙◌}
use mir.Syntax.{w32}
use mir.Val.{to_z, of_z}
use Rattle.season.specs.Ends.{answered}
use borrow.Author.Rules.{rules}
use Rattle.program_io.proofs.Answering.{help_answered, version_answered}
use Rattle.season.proofs.season_main.Goals as goal

pub work-requires : goal.work-requires
work-requires c = record { first_is = c.new-first.ensures; work = sym c.asked_for-asked.ensures ∙ c.in-Work.is }

pub returns-in-Help : goal.returns-in-Help
returns-in-Help c =
    let r = c.help-answered in
    let z = r.result.status in
    let e : to_z w32 (of_z w32 z) ≡ z = search rules in
    answered (help_answered c.new-arguments.result c.new-first.result r.result c.new-first.ensures (sym c.asked_for-asked.ensures ∙ c.in-Help.is) r.ensures e)

pub returns-in-Version : goal.returns-in-Version
returns-in-Version c =
    let r = c.version-answered in
    let z = r.result.status in
    let e : to_z w32 (of_z w32 z) ≡ z = search rules in
    answered (version_answered c.new-arguments.result c.new-first.result r.result c.new-first.ensures (sym c.asked_for-asked.ensures ∙ c.in-Version.is) r.ensures e)
