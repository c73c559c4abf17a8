-- `reader_program::lines::closing_lines` meets its contract.
-- Assumes nothing.
use mathlib.Core.Path.{sym, ap, ◌∙◌}
use mathlib.Core.Bool.{Bool}
use mathlib.Core.List.{List, [], ◌∷◌, ◌++◌, append-nil}
use native.Mathlib.Omega.{arith}
use Rattle.common.specs.Choice.{pick}
use Rattle.report_lines.specs.Line.{line_text}
use Rattle.report_lines.proofs.Lines.{joined_appended, restated}
use Rattle.reader_program.specs.Lines.{closing_lines}
use Rattle.reader_program.proofs.lines.closing_lines.Goals as goal

pub returns-then-soft : goal.returns-then-soft
unfolding closing_lines
returns-then-soft c =
    let a = c.args in
    let f = c.put_line-at in
    let g = c.put_line-end in
    let h = c.put_line in
    let p = joined_appended _ _ a.text.now f.new.output g.new.output 0 f.result g.result _ _ f.ensures g.ensures in
    restated 96 (joined_appended _ _ a.text.now g.new.output h.new.output 0 g.result h.result _ _ p h.ensures)
    (ap (λ (t : Bool). line_text (0x72 ∷ 0x65 ∷ 0x73 ∷ 0x74 ∷ 0x3D ∷ []) a.rest ++ line_text (0x62 ∷ 0x69 ∷ 0x74 ∷ 0x73 ∷ 0x3D ∷ []) a.bits ++ pick t (line_text (0x62 ∷ 0x79 ∷ 0x74 ∷ 0x65 ∷ 0x73 ∷ 0x3D ∷ []) a.bytes) []) (sym c.if-soft.true))
    (omega (arith, f.ensures.bound, g.ensures.bound, h.ensures.bound))

pub returns : goal.returns
unfolding closing_lines
returns c =
    let a = c.args in
    let f = c.put_line-at in
    let g = c.put_line-end in
    let two : List _ = line_text (0x72 ∷ 0x65 ∷ 0x73 ∷ 0x74 ∷ 0x3D ∷ []) a.rest ++ line_text (0x62 ∷ 0x69 ∷ 0x74 ∷ 0x73 ∷ 0x3D ∷ []) a.bits in
    restated 96 (joined_appended _ _ a.text.now f.new.output g.new.output 0 f.result g.result _ _ f.ensures g.ensures)
    (sym (append-nil two) ∙ ap (λ (t : Bool). two ++ pick t (line_text (0x62 ∷ 0x79 ∷ 0x74 ∷ 0x65 ∷ 0x73 ∷ 0x3D ∷ []) a.bytes) []) (sym c.if-soft.false))
    (omega (arith, f.ensures.bound, g.ensures.bound))
