-- A call on a good state, with a block and room enough, is answered.
-- Assumes nothing.
use mathlib.Core.Path.{◌≡◌, refl}
use mathlib.Core.List.{List, ◌++◌}
use Prim.Native.Nat.{ℕ, ◌≤◌}
use borrow.Author.Tests.{eq-eqb, le-ltb}
use lib.ListN.{length, drop}
use Rattle.interleaver.specs.Block.{block_out, branches_after}
use Rattle.interleaver.specs.declared.branches.Side.{Side}
use Rattle.interleaver.specs.declared.branches.Branches.{Branches}
use Rattle.interleaver.proofs.Blocks.{Good}
use Rattle.interleaver.specs.Call.{pass_branches, pass_output}

pub pass_done : (side : Side) (s : Branches) (block output : List ℕ) → Good side s → length block ≡ 204 → 204 ≤ length output
    → (pass_branches side s block output ≡ branches_after side s block)
    × (pass_output side s block output ≡ block_out side s block ++ drop 204 output)
pass_done side s block output g n l = simp (g.range, eq-eqb _ _ n, le-ltb _ _ l) (refl, refl)
