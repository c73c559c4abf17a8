-- `dvbs::dvbs_recording_block` meets its contract.
-- Assumes nothing.
use mathlib.Core.Path.{◌≡◌, refl, ◌∙◌}
use mathlib.Core.Bool.{Bool, true, false}
use mathlib.Core.List.{List, []}
use Prim.Native.Nat.{ℕ, ◌+◌, min}
use native.Mathlib.Omega.{arith}
use lib.Dec.{eqb, ltb}
use Rattle.common.specs.Choice.{pick}
use Rattle.answer.specs.Number.{answered}
use Rattle.recording.specs.Block.{block_count, block_refusal, GivesBlock, block_refused, block_decoded}
use Rattle.reed_solomon.specs.Decode.{Decoded}
use Rattle.dvbs.specs.RecordingBlock.{no_count, called}
use Rattle.dvbs.proofs.dvbs_recording_block.Goals as goal

-- with no room at all, some test refuses
some-refusal : (t u : Bool) → pick {A = ℕ} t (pick u 16 4) 5 ≡ 0 → ⊥
some-refusal true true e = omega arith
some-refusal true false e = omega arith
some-refusal false u e = omega arith

roomless : {bytes exit : List ℕ} {blocks p : ℕ} {r : Decoded} → GivesBlock bytes blocks p [] r exit → answered r ≡ block_refusal bytes blocks p []
roomless (block_refused s n c w) = n
roomless {bytes} {exit} {blocks} {p} (block_decoded left e d w) =
    absurd (some-refusal (eqb blocks (block_count bytes)) (ltb (min blocks 4294967295) (p + 12)) e)

pub returns-then-count-lt2 : goal.returns-then-count-lt2
returns-then-count-lt2 c = no_count c.if-count-lt2.true (c.put_decoded.ensures.0 ∙ roomless c.decoded_block-refused.ensures) refl refl

pub returns : goal.returns
returns c =
    let d = c.decoded_block in
    let p = c.put_decoded-2 in
    called c.if-count-lt2.false d.result d.ensures p.ensures.0 p.ensures.1
