-- `losses::put_doubts` meets its contract.
-- Assumes nothing.
use mathlib.Core.Path.{◌≡◌, sym, ap, ◌∙◌}
use mathlib.Core.List.{◌++◌}
use Prim.Native.Nat.{ℕ}
use native.Mathlib.Nat.{zero-add}
use native.Mathlib.Omega.{arith}
use lib.ListN.{drop}
use Rattle.common.proofs.Written.{written_none, written_next, written_all}
use Rattle.losses.specs.List.{doubts}
use Rattle.losses.proofs.Lines.{length_doubts, doubts_at}
use Rattle.losses.proofs.put_doubts.Goals as goal

pub loop-i-init : goal.loop-i-init
loop-i-init c = written_none (omega (arith, length_doubts c.args.block c.args.count, c.requires.1))

pub loop-i-preserved : goal.loop-i-preserved
loop-i-preserved c = let a = c.args in let l = c.loop-i in let n = length_doubts a.block a.count in written_next l.invariant _ (omega (arith, n, c.loop-i-test.true)) (c.line.ensures ∙ sym (doubts_at a.block a.count l.i c.loop-i-test.true))

pub returns : goal.returns
returns c = let a = c.args in let l = c.loop-i in let n = length_doubts a.block a.count in let e : l.i ≡ a.count = omega (arith, l.invariant.within, n, c.loop-i-test.false) in written_all (rw e at l.invariant) n ∙ ap (λ (m : ℕ). doubts a.block a.count ++ drop m a.lines.now) (zero-add a.count)
