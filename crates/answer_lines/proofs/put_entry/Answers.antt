-- `answer_lines::put_entry` meets its contract.
-- Assumes nothing.
use mathlib.Core.Path.{sym, subst}
use mathlib.Core.Bool.{Bool}
use mathlib.Core.List.{◌++◌}
use Prim.Native.Nat.{◌+◌, ◌/◌, ◌%◌}
use native.Mathlib.Omega.{arith}
use borrow.Author.Tests.{eq-eqb, ne_eqb}
use Rattle.common.specs.Choice.{pick}
use Rattle.report_lines.specs.Line.{field_text, line_text, Appended}
use Rattle.answer_lines.specs.Lines.{block_key, doubt_key, answer_key}
use Rattle.answer_lines.proofs.Lists.{appended_both}
use Rattle.answer_lines.proofs.put_entry.Goals as goal

pub put_line-requires : goal.put_line-requires
put_line-requires c = omega (arith, c.put_field-middle.ensures.bound, c.put_field-middle.ensures.same, c.requires)

pub returns-then-answer-eq0 : goal.returns-then-answer-eq0
returns-then-answer-eq0 c =
    let a = c.args in
    let f = c.put_field-middle.ensures in
    let l = c.put_line in
    subst (λ (t : Bool). Appended (field_text block_key (a.line / 16) 0x20 ++ pick t (line_text doubt_key 1) (line_text answer_key (a.line % 16))) a.text.now l.new.output a.at l.result (a.at + 64))
    (sym (eq-eqb _ _ c.if-answer-eq0.true)) (appended_both f l.ensures (a.at + 64) (omega (arith, f.bound)))

pub put_line-requires-2 : goal.put_line-requires-2
put_line-requires-2 c = omega (arith, c.put_field-middle.ensures.bound, c.put_field-middle.ensures.same, c.requires)

pub returns : goal.returns
returns c =
    let a = c.args in
    let f = c.put_field-middle.ensures in
    let l = c.put_line-2 in
    subst (λ (t : Bool). Appended (field_text block_key (a.line / 16) 0x20 ++ pick t (line_text doubt_key 1) (line_text answer_key (a.line % 16))) a.text.now l.new.output a.at l.result (a.at + 64))
    (sym (ne_eqb _ _ c.if-answer-eq0.false)) (appended_both f l.ensures (a.at + 64) (omega (arith, f.bound)))
