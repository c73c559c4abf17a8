-- `pass_report::pass_report_main` meets its contract.
-- Assumes nothing.
use mathlib.Core.Path.{◌≡◌, sym, ap, subst, ◌∙◌}
use mathlib.Core.Bool.{true, false}
use mir.Syntax.{w32}
use mir.Val.{to_z, of_z}
use Rattle.program_io.specs.Calls.{asked_of, Answers, told}
use Rattle.program_io.specs.Words.{argument_count, word_bytes}
use Rattle.program_io.specs.declared.calls.Asked.{Asked}
use Rattle.pass_report.specs.Ends.{program_name, usage_text, right_call, answered, ran}
use borrow.Author.Rules.{rules}
use Rattle.pass_report.proofs.pass_report_main.Goals as goal

pub returns-then-is_right : goal.returns-then-is_right
returns-then-is_right c =
    let a = c.new-arguments.result in
    let w = c.new-first.result in
    let r = c.run-ended in
    let q : to_z w32 (of_z w32 r.result.status) ≡ r.result.status = search rules in
    let right : right_call (asked_of (argument_count a) (word_bytes w)) (argument_count a) ≡ true
    = ap (λ (x : Asked). right_call x (argument_count a)) (sym c.asked_for-asked.ensures) ∙ sym c.is_right.ensures ∙ c.if-is_right.true in
    ran a w r.result c.new-first.ensures right r.ensures q

pub returns : goal.returns
returns c =
    let a = c.new-arguments.result in
    let w = c.new-first.result in
    let r = c.answer-answered in
    let q : to_z w32 (of_z w32 r.result.status) ≡ r.result.status = search rules in
    let wrong : right_call (asked_of (argument_count a) (word_bytes w)) (argument_count a) ≡ false
    = ap (λ (x : Asked). right_call x (argument_count a)) (sym c.asked_for-asked.ensures) ∙ sym c.is_right.ensures ∙ c.if-is_right.false in
    answered
    (told a w r.result c.new-first.ensures (λ k. wrong)
    (subst (λ (x : Asked). Answers x program_name usage_text r.result) c.asked_for-asked.ensures r.ensures) q)
