-- `recording::block::decoded_block` meets its contract.
-- Assumes nothing.
use mathlib.Core.Path.{◌≡◌, refl, subst, ◌∙◌}
use mathlib.Core.List.{List}
use Prim.Native.Nat.{ℕ}
use native.Mathlib.Omega.{arith}
use Rattle.std.proofs.Common.{Ok, Err}
use Rattle.std.proofs.lemmas.Result.{err_from_is_err_and}
use Rattle.reed_solomon.specs.Decode.{Decodes}
use Rattle.interleaver.specs.Gathered.{gathered}
use Rattle.recording.specs.Block.{block_refusal, block_decoded}
use Rattle.recording.proofs.Blocks.{no_refusal, put_front}
use Rattle.recording.proofs.block.decoded_block.Goals as goal

pub returns-in_err-changed : goal.returns-in_err-changed
returns-in_err-changed c =
    let a = c.args in
    let refusal = c.in_err-changed.field-0.0 in
    let p = err_from_is_err_and c.from_residual.result c.from_residual.ensures.1 in
    let none : block_refusal a.bytes.now a.blocks a.p a.output.now ≡ 0
    = no_refusal a.bytes.now a.blocks a.p a.output.now (c.if-blocks-whole_blocks.false ∙ c.whole_blocks.ensures) (omega (arith, c.min-most.ensures)) c.if-output-lt204.false in
    rw (p.1, p.2)
    (block_decoded c.decode.new.block none (subst (λ (x : List ℕ). Decodes x c.decode.new.block (Err refusal)) c.gather.ensures c.in_err-changed.ensures) refl)

pub returns : goal.returns
returns c =
    let a = c.args in
    let changed = c.in_ok-changed.changed in
    let none : block_refusal a.bytes.now a.blocks a.p a.output.now ≡ 0
    = no_refusal a.bytes.now a.blocks a.p a.output.now (c.if-blocks-whole_blocks.false ∙ c.whole_blocks.ensures) (omega (arith, c.min-most.ensures)) c.if-output-lt204.false in
    let decodes : Decodes (gathered a.bytes.now a.p) c.decode.new.block (Ok changed)
    = subst (λ (x : List ℕ). Decodes x c.decode.new.block (Ok changed)) c.gather.ensures c.in_ok-changed.ensures in
    block_decoded c.decode.new.block none decodes
    (c.put.ensures ∙ put_front (gathered a.bytes.now a.p) c.decode.new.block a.output.now changed decodes)
