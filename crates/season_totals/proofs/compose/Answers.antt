-- `season_totals::compose` meets its contract.
-- Assumes nothing.
use mathlib.Core.Path.{refl, ap, ◌∙◌}
use mathlib.Core.List.{[]}
use native.Mathlib.Omega.{arith}
use lib.ListN.{get_or}
use Rattle.report_lines.specs.Line.{line_text}
use Rattle.report_lines.proofs.Lines.{joined_appended, restated}
use Rattle.season_totals.specs.Season.{taken_key, lost_key, changed_key, worst_key}
use Rattle.season_totals.proofs.compose.Goals as goal

pub returns-in-Ok : goal.returns-in-Ok
returns-in-Ok c =
    let t = c.in-Ok.totals in
    let two = joined_appended _ (line_text taken_key (get_or t 1 0)) _ _ _ 0 _ _ _ _ c.put_line-at.ensures c.put_line-at-in-Ok.ensures in
    let three = joined_appended _ (line_text lost_key (get_or t 2 0)) _ _ _ 0 _ _ _ _ two c.put_line-at-in-Ok-2.ensures in
    let four = joined_appended _ (line_text changed_key (get_or t 3 0)) _ _ _ 0 _ _ _ _ three c.put_line-at-in-Ok-3.ensures in
    let five = joined_appended _ (line_text worst_key (get_or t 4 0)) _ _ _ 0 _ _ _ _ four c.put_line.ensures in
    rw c.in-Ok.is (restated 160 five refl (omega (arith, five.bound)))

pub returns-in-Err : goal.returns-in-Err
returns-in-Err c = rw c.in-Err.is (restated 160 c.put_line-in-Err.ensures (ap (line_text []) (c.from.ensures ∙ c.number.ensures)) (omega (arith, c.put_line-in-Err.ensures.bound)))
