-- `report_lines::put_line` meets its contract.
-- Assumes nothing.
use Rattle.report_lines.specs.Line.{field_text, line_text}
use Rattle.report_lines.proofs.put_line.Goals as goal

pub returns : goal.returns
unfolding field_text line_text
returns c = c.put_field.ensures
