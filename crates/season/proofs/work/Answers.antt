-- `season::work` meets its contract.
-- Assumes nothing.
use mathlib.Core.Path.{◌≡◌, sym, ◌∙◌}
use mir.Syntax.{w32}
use mir.Val.{to_z, of_z}
use Rattle.season.specs.Ends.{answered, ran}
use borrow.Author.Rules.{rules}
use Rattle.program_io.proofs.Answering.{wrong_answered}
use Rattle.season.proofs.work.Goals as goal

pub returns-then-count-ne0 : goal.returns-then-count-ne0
returns-then-count-ne0 c =
    let r = c.wrong-answered in
    let z = r.result.status in
    let e : to_z w32 (of_z w32 z) ≡ z = search rules in
    answered
    (wrong_answered c.args.arguments c.args.first r.result c.requires.first_is c.requires.work
    (λ n. c.if-count-ne0.true (c.count.ensures ∙ n)) r.ensures e)

pub returns : goal.returns
returns c =
    let r = c.write_season-ended in
    let z = r.result.status in
    let e : to_z w32 (of_z w32 z) ≡ z = search rules in
    ran c.args.arguments c.args.first r.result c.requires (sym c.count.ensures ∙ c.if-count-ne0.false) r.ensures e
