-- `recording_block::request_for` meets its contract.
-- Assumes nothing.
use mathlib.Core.Path.{sym, ap, ◌∙◌}
use mathlib.Core.Bool.{Bool}
use borrow.Author.Tests.{eq-eqb, ne_eqb}
use Rattle.common.specs.Choice.{pick}
use Rattle.program_io.specs.Words.{argument_count, word_bytes, word_is_option}
use Rattle.program_io.specs.declared.calls.Asked.{Asked}
use Rattle.recording_block.specs.Ends.{block_in, request_of}
use Rattle.recording_block.specs.declared.BlockRequest.TheVariants.{Other}
use Rattle.recording_block.proofs.request_for.Goals as goal

pub returns-then-count-ne2 : goal.returns-then-count-ne2
returns-then-count-ne2 c =
    let a = c.args in
    sym (ap (λ (x : Asked). request_of x (argument_count a.arguments) (word_is_option a.first) (word_bytes a.second)) c.in-Work.is
    ∙ ap (λ (t : Bool). pick t (pick (word_is_option a.first) Other (block_in (word_bytes a.second))) Other) (ne_eqb _ _ (λ e. c.if-count-ne2.true (c.count.ensures ∙ e))))

pub returns-then-is_option : goal.returns-then-is_option
returns-then-is_option c =
    let a = c.args in
    sym (ap (λ (x : Asked). request_of x (argument_count a.arguments) (word_is_option a.first) (word_bytes a.second)) c.in-Work.is
    ∙ ap (λ (t : Bool). pick t (pick (word_is_option a.first) Other (block_in (word_bytes a.second))) Other) (eq-eqb _ _ (sym c.count.ensures ∙ c.if-count-ne2.false))
    ∙ ap (λ (t : Bool). pick t Other (block_in (word_bytes a.second))) (sym c.is_option.ensures ∙ c.if-is_option.true))

pub returns-else-is_option : goal.returns-else-is_option
returns-else-is_option c =
    let a = c.args in
    c.block_in.ensures
    ∙ sym (ap (λ (x : Asked). request_of x (argument_count a.arguments) (word_is_option a.first) (word_bytes a.second)) c.in-Work.is
    ∙ ap (λ (t : Bool). pick t (pick (word_is_option a.first) Other (block_in (word_bytes a.second))) Other) (eq-eqb _ _ (sym c.count.ensures ∙ c.if-count-ne2.false))
    ∙ ap (λ (t : Bool). pick t Other (block_in (word_bytes a.second))) (sym c.is_option.ensures ∙ c.if-is_option.false))
