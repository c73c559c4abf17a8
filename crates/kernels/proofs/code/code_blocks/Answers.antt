-- `kernels::code::code_blocks` meets its contract.
-- Assumes nothing.
use mathlib.Core.Path.{◌≡◌, refl, ap, subst, ◌∙◌}
use mathlib.Core.List.{List}
use Prim.Native.Nat.{ℕ, ◌+◌, ◌*◌}
use native.Mathlib.Omega.{arith}
use Rattle.std.specs.Prelude.{Result, Ok, Err}
use Rattle.std.specs.Result.{result_unwrap_or}
use Rattle.answer.specs.Number.{given_or}
use Rattle.answer.specs.declared.Refusal.{Refusal}
use Rattle.inner_code.specs.declared.Encoded.{Encoded}
use Rattle.inner_code.specs.declared.InnerCoder.{InnerCoder}
use Rattle.kernels.proofs.Blocks.{block_there, blocks_over}
use Rattle.kernels.proofs.Codes.{Coding, coding_start, coding_length, coding_end, coding_total, coding_more}
use Rattle.kernels.proofs.code.code_blocks.Goals as goal

-- what a call gives, or the coder before it and no symbols
given_coder : (r : Result Encoded Refusal) (c : InnerCoder) → (result_unwrap_or r (record { coder = c; count = 0 })).coder ≡ given_or c (λ e. e.coder) r
given_coder (Ok x) c = refl
given_coder (Err e) c = refl

given_count : (r : Result Encoded Refusal) (c : InnerCoder) → (result_unwrap_or r (record { coder = c; count = 0 })).count ≡ given_or 0 (λ e. e.count) r
given_count (Ok x) c = refl
given_count (Err e) c = refl

moved : {rate : ℕ} {bytes before output : List ℕ} {s : InnerCoder} {a b n : ℕ} → a ≡ b → Coding rate bytes before output s a n → Coding rate bytes before output s b n
moved {rate} {bytes} {before} {output} {s} {a} {b} {n} e p = subst (λ (at : ℕ). Coding rate bytes before output s at n) e p

pub loop-k-init : goal.loop-k-init
loop-k-init c =
    coding_start _ _ _ _ c.requires.0 c.fresh-coder.ensures

pub loop-k-preserved : goal.loop-k-preserved
loop-k-preserved c =
    let l = c.loop-k in
    let r = c.encode.result in
    let s = c.encode.ensures in
    let u = c.unwrap_or-encoded.ensures in
    let e : 204 * l.k + 204 ≡ 204 * (l.k + 1) = omega arith in
    let d = ap (λ (x : Encoded). x.coder) u ∙ given_coder r l.coder ∙ s.1 in
    let n = ap (λ (x : Encoded). x.count) u ∙ given_count r l.coder ∙ s.2 in
    moved e (coding_more c.requires.1 l.invariant (block_there _ _ c.loop-k-test.true) d n s.3)

pub overflow_add-count : goal.overflow_add-count
overflow_add-count c =
    let l = c.loop-k in
    let r = c.encode.result in
    let s = c.encode.ensures in
    let u = c.unwrap_or-encoded.ensures in
    let d = ap (λ (x : Encoded). x.coder) u ∙ given_coder r l.coder ∙ s.1 in
    let n = ap (λ (x : Encoded). x.count) u ∙ given_count r l.coder ∙ s.2 in
    omega (arith, coding_total c.requires.1 l.invariant (block_there _ _ c.loop-k-test.true) d n s.3)

pub shape_of-output : goal.shape_of-output
shape_of-output c =
    coding_length c.requires.1 c.loop-k.invariant

pub returns : goal.returns
returns c =
    coding_end c.requires.1 c.loop-k.invariant (blocks_over _ _ c.loop-k-test.false)
