-- `reed_solomon::division::divide` meets its contract: after i coefficients what is left has their values.
-- Assumes nothing.
use mathlib.Core.Path.{◌≡◌}
use Prim.Native.Nat.{◌+◌, ◌*◌}
use native.Mathlib.Omega.{arith}
use Rattle.reed_solomon.proofs.GroupDivision.{horner_none, horner_more}
use borrow.Author.Rules.{rules}
use Rattle.reed_solomon.proofs.division.divide.Goals as goal

pub loop-turn-init : goal.loop-turn-init
loop-turn-init c = horner_none c.args.p.now _ (search rules) c.put.ensures

pub loop-turn-preserved : goal.loop-turn-preserved
loop-turn-preserved c =
    let l = c.loop-turn in
    let e : 4 + 16 * l.turn + 16 ≡ 4 + 16 * (l.turn + 1) = omega arith in
    rw (← e) (horner_more _ l.r _ c.array_at.result (4 + 16 * l.turn) c.array_at.type_inv.1.0.1 c.array_at.ensures c.reduced-next.ensures l.invariant)
