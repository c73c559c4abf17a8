-- `galois::lanes::evaluate` meets its contract: v has the values of the coefficients from k on.
-- Assumes nothing.
use mathlib.Core.Path.{◌≡◌, subst}
use Prim.Native.Nat.{ℕ, ◌+◌, ◌-◌}
use native.Mathlib.Omega.{arith}
use lib.ListN.{length, drop}
use Rattle.galois.specs.Lanes.{ValuesAt}
use Rattle.galois.proofs.LanePowers.{values_none, values_more}
use borrow.Author.Rules.{rules}
use Rattle.galois.proofs.lanes.evaluate.Goals as goal

pub loop-k-init : goal.loop-k-init
loop-k-init c =
    let q = c.args.q.now in
    values_none q c.args.x (length q - 1) (omega (arith, c.requires)) (c.type_inv.q (length q - 1)).fits

pub loop-k-preserved : goal.loop-k-preserved
loop-k-preserved c =
    let l = c.loop-k in
    let q = c.args.q.now in
    let m : l.k ≡ l.k - 1 + 1 = omega arith in
    values_more q c.args.x (l.k - 1) l.v _ (omega arith) (search rules) (c.type_inv.q (l.k - 1)).fits
    (subst (λ (n : ℕ). ValuesAt (drop n q) c.args.x l.v) m l.invariant) c.advance-w.ensures
