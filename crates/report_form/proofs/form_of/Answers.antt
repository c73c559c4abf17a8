-- `report_form::form_of` meets its contract.
-- Assumes nothing.
use mathlib.Core.Path.{sym, ◌∙◌}
use Rattle.program_io.specs.Words.{word_bytes}
use Rattle.report_form.proofs.Ending.{no_word, word_1, word_2, other_word}
use Rattle.report_form.proofs.form_of.Goals as goal

pub returns-then-count-ne1 : goal.returns-then-count-ne1
returns-then-count-ne1 c = no_word c.args.count (word_bytes c.args.first) c.if-count-ne1.true

pub returns-then-is : goal.returns-then-is
returns-then-is c = word_1 c.args.count (word_bytes c.args.first) c.if-count-ne1.false (sym c.if-is.true ∙ c.is.ensures)

pub returns-then-is-2 : goal.returns-then-is-2
returns-then-is-2 c = word_2 c.args.count (word_bytes c.args.first) c.if-count-ne1.false (sym c.if-is.false ∙ c.is.ensures) (sym c.if-is-2.true ∙ c.is-2.ensures)

pub returns : goal.returns
returns c = other_word c.args.count (word_bytes c.args.first) c.if-count-ne1.false (sym c.if-is.false ∙ c.is.ensures) (sym c.if-is-2.false ∙ c.is-2.ensures)
