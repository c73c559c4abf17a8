-- `lock_lines::put_came` meets its contract.
-- Assumes nothing.
use mathlib.Core.Path.{sym, ap}
use mathlib.Core.Bool.{Bool}
use mathlib.Core.List.{◌++◌}
use Prim.Native.Nat.{◌+◌}
use native.Mathlib.Omega.{arith}
use Rattle.report_lines.proofs.Lines.{restated}
use Rattle.lock_lines.specs.Lines.{place_text, closing_word}
use Rattle.lock_lines.proofs.put_came.Goals as goal

-- src/lib.rt:86:9
pub returns-then-found : goal.returns-then-found
returns-then-found c =
    let a = c.args in
    let f = c.put_start.ensures in
    restated (a.at + 36) f (ap (λ (t : Bool). closing_word t ++ place_text a.bits a.came) (sym c.if-found.true)) (omega (arith, f.bound))

-- src/lib.rt:81:1
pub returns : goal.returns
returns c =
    let a = c.args in
    let f = c.put_start-2.ensures in
    restated (a.at + 36) f (ap (λ (t : Bool). closing_word t ++ place_text a.bits a.came) (sym c.if-found.false)) (omega (arith, f.bound))
