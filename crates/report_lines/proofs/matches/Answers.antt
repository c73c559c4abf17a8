-- `report_lines::matches` meets its contract.
-- Assumes nothing.
use Rattle.report_lines.proofs.Numbers.{word_is}
use Rattle.report_lines.proofs.matches.Goals as goal

pub returns : goal.returns
returns c =
    let a = c.args in
    word_is a.word.now a.text.now a.at c.starts_with.result c.requires c.starts_with.ensures.value
