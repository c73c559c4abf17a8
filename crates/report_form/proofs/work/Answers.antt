-- `report_form::work` meets its contract.
-- Assumes nothing.
use mathlib.Core.Path.{◌≡◌, sym, ap, subst, ◌∙◌}
use Prim.Native.Nat.{ℕ}
use native.Mathlib.Omega.{arith}
use mir.Syntax.{w32}
use mir.Val.{to_z, of_z}
use Rattle.program_io.specs.Words.{argument_count, word_bytes}
use Rattle.report_form.specs.Ends.{form_of, Ends, answered, ran}
use borrow.Author.Rules.{rules}
use Rattle.program_io.proofs.Answering.{wrong_answered}
use Rattle.report_form.proofs.work.Goals as goal

pub returns-then-form-eq0 : goal.returns-then-form-eq0
returns-then-form-eq0 c =
    let asked : let a = c.args in
    c.form_of-form.result ≡ form_of (argument_count a.arguments) (word_bytes a.first) = c.form_of-form.ensures ∙ ap (λ (n : ℕ). form_of n (word_bytes c.args.first)) c.count.ensures in
    let r = c.wrong-answered in
    let z = r.result.status in
    let e : to_z w32 (of_z w32 z) ≡ z = search rules in
    answered
    (wrong_answered c.args.arguments c.args.first r.result c.requires.first_is c.requires.work
    (sym (asked) ∙ c.if-form-eq0.true) r.ensures e)

pub returns : goal.returns
returns c =
    let asked : let a = c.args in
    c.form_of-form.result ≡ form_of (argument_count a.arguments) (word_bytes a.first) = c.form_of-form.ensures ∙ ap (λ (n : ℕ). form_of n (word_bytes c.args.first)) c.count.ensures in
    let r = c.move_input-ended in
    let z = r.result.status in
    let e : to_z w32 (of_z w32 z) ≡ z = search rules in
    ran c.args.arguments c.args.first r.result c.requires (omega (arith, asked, c.if-form-eq0.false)) (subst (λ (n : ℕ). Ends n r.result) (asked) r.ensures) e
