-- `lock_lines::put_start` meets its contract.
-- Assumes nothing.
use mathlib.Core.Path.{refl, sym, subst}
use mathlib.Core.List.{List}
use Prim.Native.Nat.{ℕ, ◌+◌}
use native.Mathlib.Omega.{arith}
use lib.ListN.{length}
use Rattle.report_lines.specs.Line.{Appended}
use Rattle.report_lines.proofs.Lines.{put_appended, joined_appended, restated}
use Rattle.lock_lines.proofs.put_start.Goals as goal

-- src/lib.rt:25:1
pub returns : goal.returns
returns c =
    let a = c.args in
    let p = c.put in
    let g = c.put_place in
    let n : ℕ = a.at + length a.word.now in
    let w : Appended a.word.now a.text.now p.new.output a.at n n
    = subst (λ (x : List ℕ). Appended a.word.now a.text.now x a.at n n) (sym p.ensures)
    (put_appended a.text.now a.word.now a.at n (omega (arith, c.requires)) (omega arith)) in
    restated (n + 28) (joined_appended _ _ a.text.now p.new.output g.new.text a.at n g.result _ _ w g.ensures) refl (omega (arith, g.ensures.bound))
