-- `pass_report::run` meets its contract.
-- Assumes nothing.
use mathlib.Core.Path.{sym, ◌∙◌}
use Rattle.pass_report.proofs.Endings.{ended_unfailed, all_whole, came_of_lem, fresh, ends_printed, ends_failed}
use borrow.Author.Rules.{rules}
use Rattle.pass_report.proofs.run.Goals as goal

pub receive_all-pass-requires : goal.receive_all-pass-requires
receive_all-pass-requires c = (search rules, search rules, search rules, search rules, search rules, search rules, search rules, ended_unfailed c.none-marks.result c.none-marks.ensures.ended)

pub print-requires : goal.print-requires
print-requires c =
    let w = all_whole _ (sym c.is_whole.ensures ∙ c.if-is_whole.true) in
    let k = c.receive_all-pass.ensures in
    let i = c.standard-input.ensures in
    let n = c.none-marks.ensures in
    let o = c.standard-output.ensures in
    (came_of_lem k i n o w, fresh k i n o)

pub returns-then-is_whole : goal.returns-then-is_whole
returns-then-is_whole c =
    let w = all_whole _ (sym c.is_whole.ensures ∙ c.if-is_whole.true) in
    ends_printed c.receive_all-pass.ensures c.standard-input.ensures c.none-marks.ensures c.standard-output.ensures w c.print.ensures

pub returns : goal.returns
returns c = ends_failed c.receive_all-pass.ensures c.standard-input.ensures c.none-marks.ensures c.standard-output.ensures (sym c.is_whole.ensures ∙ c.if-is_whole.false)
