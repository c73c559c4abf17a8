-- What one call gives: its answer, by its tests in the order of document 01, the branches and the output.
-- Clauses: document 01, "Delay branches" and "Answer numbers".
-- Assumes nothing.
use Rattle.std.specs.Prelude.{List, [], ◌∷◌, ◌++◌, ℕ, ltb, eqb, length, drop}
use Rattle.common.specs.Choice.{pick}
use Rattle.common.specs.Refusal.{unless, when, first_due}
use Rattle.interleaver.specs.Branch.{branches_in_range}
use Rattle.interleaver.specs.Block.{block_out, branches_after}
use Rattle.interleaver.specs.declared.branches.Side.{Side}
use Rattle.interleaver.specs.declared.branches.Branches.{Branches}

-- the number of the answer, by the tests in the order of document 01
abbrev pub pass_number : Side → Branches → List ℕ → List ℕ → ℕ
pass_number side s block output = first_due (unless (branches_in_range side s) 5 ∷ unless (eqb (length block) 204) 3 ∷ when (ltb (length output) 204) 4 ∷ [])

-- the state and the output after the call
abbrev pub pass_branches : Side → Branches → List ℕ → List ℕ → Branches
pass_branches side s block output = pick (eqb (pass_number side s block output) 0) (branches_after side s block) s

abbrev pub pass_output : Side → Branches → List ℕ → List ℕ → List ℕ
pass_output side s block output = pick (eqb (pass_number side s block output) 0) (block_out side s block ++ drop 204 output) output
