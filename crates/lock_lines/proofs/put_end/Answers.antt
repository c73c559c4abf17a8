-- `lock_lines::put_end` meets its contract.
-- Assumes nothing.
use mathlib.Core.Path.{refl}
use Prim.Native.Nat.{◌+◌}
use native.Mathlib.Omega.{arith}
use Rattle.report_lines.proofs.Lines.{joined_appended, restated}
use Rattle.lock_lines.proofs.put_end.Goals as goal

-- src/lib.rt:104:1
pub returns : goal.returns
returns c =
    let a = c.args in
    let f = c.put_came-middle in
    let g = c.put_skipped in
    restated (a.at + 92) (joined_appended _ _ a.text.now f.new.text g.new.text a.at f.result g.result _ _ f.ensures g.ensures) refl
    (omega (arith, f.ensures.bound, g.ensures.bound))
