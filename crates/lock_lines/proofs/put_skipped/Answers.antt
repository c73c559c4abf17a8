-- `lock_lines::put_skipped` meets its contract.
-- Assumes nothing.
use mathlib.Core.Path.{sym, ap}
use mathlib.Core.Bool.{Bool}
use Prim.Native.Nat.{◌+◌}
use native.Mathlib.Omega.{arith}
use Rattle.report_lines.proofs.Lines.{joined_appended, restated}
use Rattle.lock_lines.specs.Lines.{skipped_text}
use Rattle.lock_lines.proofs.put_skipped.Goals as goal

-- src/lib.rt:97:9
pub returns-then-bits : goal.returns-then-bits
returns-then-bits c =
    let a = c.args in
    let f = c.put_line.ensures in
    restated (a.at + 56) f (ap (λ (t : Bool). skipped_text t a.skipped a.bytes) (sym c.if-bits.true)) (omega (arith, f.bound))

-- src/lib.rt:92:1
pub returns : goal.returns
returns c =
    let a = c.args in
    let f = c.put_field-middle in
    let g = c.put_line-2 in
    restated (a.at + 56) (joined_appended _ _ a.text.now f.new.output g.new.output a.at f.result g.result _ _ f.ensures g.ensures)
    (ap (λ (t : Bool). skipped_text t a.skipped a.bytes) (sym c.if-bits.false)) (omega (arith, f.ensures.bound, g.ensures.bound))
