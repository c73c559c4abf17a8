-- `reed_solomon::syndromes::recur` meets its contract.
-- Assumes nothing.
use mathlib.Core.Path.{refl}
use Prim.{tt}
use lib.ListN.{length}
use Rattle.reed_solomon.proofs.Residue.{recurring}
use borrow.Author.Rules.{elem_Fits}
use mir.Syntax.{w8}
use Rattle.reed_solomon.proofs.syndromes.recur.Goals as goal

pub returns : goal.returns
returns c =
    let m = c.modified-rest in
    recurring c.args.s _ m.result (length c.args.places.now) refl m.type_inv.1.0.1
    (λ i. (elem_Fits w8 w8 m.result _ i m.type_inv.1.1 tt).fits) m.ensures c.is_zero.result c.is_zero.ensures
