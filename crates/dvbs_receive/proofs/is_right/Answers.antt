-- `dvbs_receive::is_right` meets its contract.
-- Assumes nothing.
use mathlib.Core.Path.{◌≡◌, sym, ap, ap₂, ◌∙◌}
use mathlib.Core.Bool.{Bool, true, false, not}
use borrow.Author.Tests.{lt-ltb, le-ltb}
use lib.Dec.{ltb}
use Rattle.common.specs.Choice.{pick}
use Rattle.program_io.specs.Words.{argument_count, word_is_option}
use Rattle.program_io.specs.declared.calls.Asked.{Asked}
use Rattle.dvbs_receive.specs.Ends.{right_call}
use Rattle.dvbs_receive.proofs.is_right.Goals as goal

pub returns-then-count-gt1 : goal.returns-then-count-gt1
returns-then-count-gt1 c =
    let a = c.args in
    let n : ltb 1 (argument_count a.arguments) ≡ true = ap (ltb 1) (sym c.count.ensures) ∙ lt-ltb _ _ c.if-count-gt1.true in
    sym (ap (λ (x : Asked). right_call x (argument_count a.arguments) (word_is_option a.first)) c.in-Work.is
    ∙ ap (λ (t : Bool). pick t false (not (word_is_option a.first))) n)

pub returns-else-count-gt1 : goal.returns-else-count-gt1
returns-else-count-gt1 c =
    let a = c.args in
    let n : ltb 1 (argument_count a.arguments) ≡ false = ap (ltb 1) (sym c.count.ensures) ∙ le-ltb _ _ c.if-count-gt1.false in
    sym (ap (λ (x : Asked). right_call x (argument_count a.arguments) (word_is_option a.first)) c.in-Work.is
    ∙ ap₂ (λ (t o : Bool). pick t false (not o)) n (sym c.is_option.ensures))
