-- `lock_state::packets_clear` meets its contract.
-- Assumes nothing.
use mathlib.Core.Path.{ap, ◌∙◌}
use Prim.Native.Nat.{ℕ, ◌-◌, ◌*◌}
use native.Mathlib.Omega.{arith}
use lib.Dec.{eqb}
use lib.ListN.{drop, length-drop}
use lib.Seq.{take_all}
use Rattle.common.specs.Lists.{largest}
use Rattle.lock_state.proofs.packets_clear.Goals as goal

pub returns : goal.returns
returns c =
    let l = c.args.receiver.packets in
    let n = c.waiting.result in
    ap (λ (k : ℕ). eqb k 0) (c.largest_of.ensures ∙ ap largest (take_all (1316 - 188 * n) (drop (188 * n) l) (omega (arith, length-drop (188 * n) l, c.requires.1)) ∙ ap (λ (k : ℕ). drop (188 * k) l) c.waiting.ensures))
