-- `dvbs_receiver::layout::is_vacant` meets its contract.
-- Assumes nothing.
use mathlib.Core.Path.{ap, ◌∙◌}
use Prim.Native.Nat.{ℕ, ◌-◌}
use native.Mathlib.Omega.{arith}
use lib.Dec.{eqb}
use lib.ListN.{length, drop, length-drop}
use lib.Seq.{take_all}
use Rattle.common.specs.Lists.{largest}
use Rattle.dvbs_receiver.proofs.layout.is_vacant.Goals as goal

pub returns : goal.returns
returns c =
    let a = c.args in
    let l = a.cells.now in
    ap (λ (n : ℕ). eqb n 0) (c.largest_of.ensures ∙ ap largest (take_all (length l - a.held) (drop a.held l) (omega (arith, length-drop a.held l))))
