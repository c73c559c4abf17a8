-- `lock_lines::put_place` meets its contract.
-- Assumes nothing.
use mathlib.Core.Path.{sym, ap}
use mathlib.Core.Bool.{Bool}
use Prim.Native.Nat.{◌+◌}
use native.Mathlib.Omega.{arith}
use Rattle.common.specs.Choice.{pick}
use Rattle.report_lines.specs.Line.{field_text}
use Rattle.report_lines.proofs.Lines.{restated}
use Rattle.lock_lines.specs.Lines.{bit_key, symbol_key}
use Rattle.lock_lines.proofs.put_place.Goals as goal

-- src/lib.rt:19:9
pub returns-then-bits : goal.returns-then-bits
returns-then-bits c =
    let a = c.args in
    let f = c.put_field.ensures in
    restated (a.at + 28) f (ap (λ (t : Bool). pick t (field_text bit_key a.place 0x20) (field_text symbol_key a.place 0x20)) (sym c.if-bits.true)) (omega (arith, f.bound))

-- src/lib.rt:14:1
pub returns : goal.returns
returns c =
    let a = c.args in
    let f = c.put_field-2.ensures in
    restated (a.at + 28) f (ap (λ (t : Bool). pick t (field_text bit_key a.place 0x20) (field_text symbol_key a.place 0x20)) (sym c.if-bits.false)) (omega (arith, f.bound))
