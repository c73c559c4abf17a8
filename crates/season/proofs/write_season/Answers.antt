-- `season::write_season` meets its contract.
-- Assumes nothing.
use mathlib.Core.Path.{sym, ap, ◌∙◌}
use mathlib.Core.Bool.{not}
use Rattle.answer.proofs.Positive.{given_at_zero}
use Rattle.common.proofs.Choice.{false_true}
use Rattle.season_totals.proofs.Histories.{ok_answered, text_printed}
use Rattle.season.proofs.Going.{comes_some, ends_input, ends_output, ends_refused, ends_whole}
use Rattle.season.proofs.write_season.Goals as goal

pub returns-then-failed : goal.returns-then-failed
returns-then-failed c = ends_input c.requires.0 c.requires.1 (sym c.failed.ensures ∙ c.if-failed.true)

pub finish-read-requires : goal.finish-read-requires
finish-read-requires c = comes_some c.requires.0

pub returns-then-failed-2 : goal.returns-then-failed-2
returns-then-failed-2 c = ends_output c.requires.0 c.requires.1 c.write_text-output.ensures c.close-output.ensures (sym c.failed-2.ensures ∙ c.if-failed-2.true)

pub returns-then-is_err : goal.returns-then-is_err
returns-then-is_err c =
    ends_refused c.requires.0 c.requires.1 c.write_text-output.ensures c.close-output.ensures c.finish-read.ensures (sym c.failed.ensures ∙ c.if-failed.false)
    (sym c.failed-2.ensures ∙ c.if-failed-2.false) (c.compose-n.ensures.text ∙ text_printed c.finish-read.result) (λ z. false_true (sym (c.is_err.ensures.negation ∙ ap not c.if-is_err.true) ∙ given_at_zero c.finish-read.result z))

pub returns : goal.returns
returns c =
    ends_whole c.requires.0 c.requires.1 c.write_text-output.ensures c.close-output.ensures c.finish-read.ensures (sym c.failed.ensures ∙ c.if-failed.false)
    (sym c.failed-2.ensures ∙ c.if-failed-2.false) (c.compose-n.ensures.text ∙ text_printed c.finish-read.result) (ok_answered c.finish-read.result (c.is_err.ensures.negation ∙ ap not c.if-is_err.false))
