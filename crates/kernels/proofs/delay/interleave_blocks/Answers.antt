-- `kernels::delay::interleave_blocks` meets its contract.
-- Assumes nothing.
use mathlib.Core.Path.{◌≡◌, refl, ap, subst, ◌∙◌}
use mathlib.Core.List.{List}
use Prim.Native.Nat.{ℕ, ◌+◌, ◌*◌}
use native.Mathlib.Omega.{arith}
use Rattle.std.specs.Prelude.{Result, Ok, Err}
use Rattle.std.specs.Result.{result_unwrap_or}
use Rattle.answer.specs.Number.{given_or}
use Rattle.answer.specs.declared.Refusal.{Refusal}
use Rattle.interleaver.specs.declared.Interleaver.{Interleaver}
use Rattle.interleaver.specs.declared.branches.Branches.{Branches}
use Rattle.interleaver.specs.declared.branches.Side.TheVariants.{Sending}
use Rattle.kernels.proofs.Blocks.{block_there, blocks_over}
use Rattle.kernels.proofs.Delays.{Passing, passing_start, passing_length, passing_end, passing_more}
use Rattle.kernels.proofs.delay.interleave_blocks.Goals as goal

-- the branches that a call gives, or those before it
given_branches : (r : Result Interleaver Refusal) (s : Interleaver) → (result_unwrap_or r s).branches ≡ given_or s.branches (λ x. x.branches) r
given_branches (Ok x) s = refl
given_branches (Err e) s = refl

moved : {bytes before output : List ℕ} {s : Branches} {a b : ℕ} → a ≡ b → Passing Sending bytes before output s a → Passing Sending bytes before output s b
moved {bytes} {before} {output} {s} e p = subst (Passing Sending bytes before output s) e p

pub loop-k-init : goal.loop-k-init
loop-k-init c = passing_start Sending _ _ _ c.new-interleaver.ensures

pub loop-k-preserved : goal.loop-k-preserved
loop-k-preserved c =
    let l = c.loop-k in
    let s = c.interleave-passed in
    let e : 204 * l.k + 204 ≡ 204 * (l.k + 1) = omega arith in
    let b = ap (λ (x : Interleaver). x.branches) c.unwrap_or-interleaver.ensures ∙ given_branches s.result l.interleaver ∙ s.ensures.1 in
    moved e (passing_more c.requires l.invariant (block_there _ _ c.loop-k-test.true) b s.ensures.2)

pub shape_of-output : goal.shape_of-output
shape_of-output c =
    passing_length c.requires c.loop-k.invariant

pub returns : goal.returns
returns c =
    passing_end c.requires c.loop-k.invariant (blocks_over _ _ c.loop-k-test.false)
