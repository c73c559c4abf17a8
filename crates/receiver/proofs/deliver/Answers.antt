-- `receiver::deliver` meets its contract.
-- Assumes nothing.
use mathlib.Core.Path.{◌≡◌, sym, ◌∙◌, subst}
use native.Mathlib.Omega.{arith}
use lib.ListN.{length, take}
use lib.Seq.{length-take-le}
use Rattle.randomizer.proofs.Laws.{derandomize_done}
use Rattle.group_sync.specs.Group.{PlaceOf}
use Rattle.receiver.proofs.deliver.Goals as goal

pub slice_bounds-derandomize-end : goal.slice_bounds-derandomize-end
slice_bounds-derandomize-end c = sym (length-take-le 188 c.args.left.now (let n = c.requires.1 in omega arith))

pub returns-in-Delivered : goal.returns-in-Delivered
returns-in-Delivered c =
    let l : length (take 188 c.args.left.now) ≡ 188 = length-take-le 188 c.args.left.now (let n = c.requires.1 in omega arith) in
    simp c.in-Delivered.is
    (c.derandomize.ensures.1 ∙ (derandomize_done c.in-Delivered.place (take 188 c.args.left.now) (subst PlaceOf c.in-Delivered.is c.requires.0) l c.args.output.now c.requires.2).1)
