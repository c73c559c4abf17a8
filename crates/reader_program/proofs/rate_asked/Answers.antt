-- `reader_program::rate_asked` meets its contract.
-- Assumes nothing.
use mathlib.Core.Path.{sym, ap, ◌∙◌}
use mathlib.Core.Bool.{Bool}
use borrow.Author.Tests.{eq-eqb, ne_eqb}
use Rattle.common.specs.Choice.{pick}
use Rattle.program_io.specs.Words.{word_bytes}
use Rattle.rate_words.specs.Words.{mode_named}
use Rattle.reader_program.proofs.rate_asked.Goals as goal

pub returns-then-count-ne1 : goal.returns-then-count-ne1
returns-then-count-ne1 c =
    let a = c.args in
    let n = c.count.ensures in
    sym (ap (λ (t : Bool). pick t (mode_named (word_bytes a.word)) 6) (ne_eqb _ 1 (λ e. c.if-count-ne1.true (n ∙ e))))

pub returns : goal.returns
returns c =
    let a = c.args in
    let n = c.count.ensures in
    (c.unwrap_or.ensures ∙ c.mode_of.ensures.names) ∙ sym (ap (λ (t : Bool). pick t (mode_named (word_bytes a.word)) 6) (eq-eqb _ 1 (sym n ∙ c.if-count-ne1.false)))
