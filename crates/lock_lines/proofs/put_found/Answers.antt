-- `lock_lines::put_found` meets its contract.
-- Assumes nothing.
use mathlib.Core.Path.{sym, ap}
use mathlib.Core.Bool.{Bool}
use Prim.Native.Nat.{◌+◌}
use native.Mathlib.Omega.{arith}
use Rattle.report_lines.proofs.Lines.{joined_appended, restated}
use Rattle.lock_lines.specs.Lines.{found_text}
use Rattle.lock_lines.proofs.put_found.Goals as goal

-- src/lib.rt:47:9
pub returns-then-bits : goal.returns-then-bits
returns-then-bits c =
    let a = c.args in
    let f = c.put_line.ensures in
    restated (a.at + 80) f (ap (λ (t : Bool). found_text t a.rate a.turn a.offset) (sym c.if-bits.true)) (omega (arith, f.bound))

-- src/lib.rt:35:1
pub returns : goal.returns
returns c =
    let a = c.args in
    let f = c.put_field-middle in
    let g = c.put_field-last in
    let h = c.put_line-2 in
    let p = joined_appended _ _ a.text.now f.new.output g.new.output a.at f.result g.result _ _ f.ensures g.ensures in
    restated (a.at + 80) (joined_appended _ _ a.text.now g.new.output h.new.output a.at g.result h.result _ _ p h.ensures)
    (ap (λ (t : Bool). found_text t a.rate a.turn a.offset) (sym c.if-bits.false)) (omega (arith, f.ensures.bound, g.ensures.bound, h.ensures.bound))
