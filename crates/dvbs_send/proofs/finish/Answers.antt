-- `dvbs_send::finish` meets its contract.
-- Assumes nothing.
use mathlib.Core.Path.{sym, ◌∙◌}
use Rattle.dvbs_send.proofs.Going.{some_sent, ends_input, ends_output, ends_errors, ends_whole}
use Rattle.dvbs_send.proofs.finish.Goals as goal

pub returns-then-failed : goal.returns-then-failed
returns-then-failed c = ends_input c.requires.0 c.args.flush (sym c.failed.ensures ∙ c.if-failed.true)

pub send_end-output-requires : goal.send_end-output-requires
send_end-output-requires c = some_sent c.requires.0

pub returns-then-failed-2 : goal.returns-then-failed-2
returns-then-failed-2 c = ends_output c.requires.0 c.args.flush c.send_end-output.ensures (sym c.failed-2.ensures ∙ c.if-failed-2.true)

pub returns-then-failed-3 : goal.returns-then-failed-3
returns-then-failed-3 c =
    ends_errors c.requires.0 c.args.flush c.send_end-output.ensures c.tell_counts-errors.ensures (sym c.failed-3.ensures ∙ c.if-failed-3.true)

pub returns : goal.returns
returns c =
    ends_whole c.requires.0 c.args.flush c.send_end-output.ensures c.tell_counts-errors.ensures c.requires.1 (sym c.failed.ensures ∙ c.if-failed.false)
    (sym c.failed-2.ensures ∙ c.if-failed-2.false) (sym c.failed-3.ensures ∙ c.if-failed-3.false)
