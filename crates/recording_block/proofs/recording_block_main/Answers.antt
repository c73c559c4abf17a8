-- `recording_block::recording_block_main` meets its contract.
-- Assumes nothing.
use mathlib.Core.Path.{◌≡◌, sym, ap, subst, ◌∙◌}
use Prim.Native.Nat.{◌≤◌}
use native.Mathlib.Omega.{arith}
use mir.Syntax.{w32}
use mir.Val.{to_z, of_z}
use Rattle.program_io.specs.Calls.{Answers, told}
use Rattle.program_io.specs.Words.{argument_count, word_bytes, word_is_option}
use Rattle.program_io.specs.declared.calls.Asked.{Asked}
use Rattle.recording_block.specs.Ends.{program_name, usage_text, request_of, answered, beyond, ran}
use Rattle.recording_block.proofs.Answers.{request-most}
use borrow.Author.Rules.{rules}
use Rattle.recording_block.proofs.recording_block_main.Goals as goal

pub overflow_mul-p : goal.overflow_mul-p
overflow_mul-p c =
    let small : c.in-Block.p ≤ 4294967283 = request-most c.asked_for-asked.result _ _ _ c.in-Block.p (sym c.request_for-request.ensures ∙ c.in-Block.is) in
    record { fits = omega (arith, small) }

pub open-input-requires : goal.open-input-requires
open-input-requires c =
    let small : c.in-Block.p ≤ 4294967283 = request-most c.asked_for-asked.result _ _ _ c.in-Block.p (sym c.request_for-request.ensures ∙ c.in-Block.is) in
    omega (arith, small)

pub returns-in-Block : goal.returns-in-Block
returns-in-Block c =
    let a = c.new-arguments.result in
    let w = c.new-first.result in
    let v = c.new-second.result in
    let r = c.give_block-ended in
    let q : to_z w32 (of_z w32 r.result.status) ≡ r.result.status = search rules in
    ran a w v c.in-Block.p r.result c.new-first.ensures c.new-second.ensures (ap (λ (x : Asked). request_of x (argument_count a) (word_is_option w) (word_bytes v)) (sym c.asked_for-asked.ensures) ∙ sym c.request_for-request.ensures ∙ c.in-Block.is) r.ensures q

pub returns-in-Past : goal.returns-in-Past
returns-in-Past c =
    let a = c.new-arguments.result in
    let w = c.new-first.result in
    let v = c.new-second.result in
    let r = c.refuse-answered in
    let q : to_z w32 (of_z w32 r.result.status) ≡ r.result.status = search rules in
    beyond a w v r.result c.new-first.ensures c.new-second.ensures (ap (λ (x : Asked). request_of x (argument_count a) (word_is_option w) (word_bytes v)) (sym c.asked_for-asked.ensures) ∙ sym c.request_for-request.ensures ∙ c.in-Past.is) r.ensures q

pub returns-in-Other : goal.returns-in-Other
returns-in-Other c =
    let a = c.new-arguments.result in
    let w = c.new-first.result in
    let v = c.new-second.result in
    let r = c.answer-answered in
    let q : to_z w32 (of_z w32 r.result.status) ≡ r.result.status = search rules in
    answered
    (told a w r.result c.new-first.ensures (λ k. (v, c.new-second.ensures, ap (λ (x : Asked). request_of x (argument_count a) (word_is_option w) (word_bytes v)) (sym c.asked_for-asked.ensures) ∙ sym c.request_for-request.ensures ∙ c.in-Other.is))
    (subst (λ (x : Asked). Answers x program_name usage_text r.result) c.asked_for-asked.ensures r.ensures) q)
