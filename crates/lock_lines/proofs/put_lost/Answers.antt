-- `lock_lines::put_lost` meets its contract.
-- Assumes nothing.
use mathlib.Core.Path.{refl}
use Prim.Native.Nat.{◌+◌}
use native.Mathlib.Omega.{arith}
use Rattle.report_lines.proofs.Lines.{joined_appended, restated}
use Rattle.lock_lines.proofs.put_lost.Goals as goal

-- src/lib.rt:72:1
pub returns : goal.returns
returns c =
    let a = c.args in
    let f = c.put_start-middle in
    let g = c.put_line in
    restated (a.at + 62) (joined_appended _ _ a.text.now f.new.text g.new.output a.at f.result g.result _ _ f.ensures g.ensures) refl
    (omega (arith, f.ensures.bound, g.ensures.bound))
