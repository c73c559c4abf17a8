-- A loop over the whole blocks of a buffer: the blocks that are left, and what is written into an output behind what stands there.
-- Assumes nothing.
use mathlib.Core.Path.{◌≡◌, ap, ap₂, sym, ◌∙◌}
use mathlib.Core.List.{List, [], ◌∷◌, ◌++◌, append_assoc}
use Prim.Native.Nat.{ℕ, ◌+◌, ◌-◌, ◌*◌, ◌/◌, ◌≤◌, ◌<◌}
use native.Mathlib.Omega.{arith}
use borrow.Rule.Slice.PartMut.{put_mid, mid_of}
use lib.ListN.{length, take, drop, take-append-drop, length-drop}
use lib.Seq.{take_at, drop_at, drop-drop, drop-append-le}
use Rattle.common.specs.Lists.{chunks_of}
use Rattle.common.proofs.Chunks.{chunks_few, chunks_more}

-- block k of the whole ones is there
pub block_there : (n k : ℕ) → k < n / 204 → 204 ≤ n - 204 * k
block_there n k h = omega arith

-- behind them there are fewer bytes than a block
pub blocks_over : (n k : ℕ) → n / 204 ≤ k → n - 204 * k < 204
blocks_over n k h = omega arith

-- the whole blocks from at on
abbrev pub blocks_from : List ℕ → ℕ → List (List ℕ)
blocks_from bytes at = chunks_of 204 (drop at bytes)

pub blocks_end : (bytes : List ℕ) (at : ℕ) → length bytes - at < 204 → blocks_from bytes at ≡ []
blocks_end bytes at h = chunks_few 204 (omega arith) (drop at bytes) (omega (arith, length-drop at bytes))

pub blocks_more : (bytes : List ℕ) (at : ℕ) → 204 ≤ length bytes - at → blocks_from bytes at ≡ take 204 (drop at bytes) ∷ blocks_from bytes (at + 204)
blocks_more bytes at h =
    chunks_more 204 (omega arith) (drop at bytes) (omega (arith, length-drop at bytes))
    ∙ ap (λ (l : List ℕ). take 204 (drop at bytes) ∷ chunks_of 204 l) (drop-drop 204 at bytes)

-- a list written to the front of a part of the output, which begins behind what stands there
module _ (front output₀ output : List ℕ) (n : ℕ) (c : length front ≡ n) (w : output ≡ front ++ drop n output₀) where
  front_output : take n output ≡ front
  front_output = ap (take n) w ∙ take_at front (drop n output₀) n c

  back_output : drop n output ≡ drop n output₀
  back_output = ap (drop n) w ∙ drop_at front (drop n output₀) n c

  pub put_next : (new : List ℕ) (k : ℕ) → length new ≤ length (mid_of n k output)
      → put_mid n k output (new ++ drop (length new) (mid_of n k output)) ≡ (front ++ new) ++ drop (n + length new) output₀
  put_next new k h =
      let rest : List ℕ = drop n output in
      let behind : drop (length new) (take k rest) ++ drop k rest ≡ drop (length new) rest
      = sym (drop-append-le (length new) (take k rest) (drop k rest) h) ∙ ap (drop (length new)) (take-append-drop k rest) in
      ap₂ (λ (a b : List ℕ). a ++ b) front_output
      (append_assoc new (drop (length new) (take k rest)) (drop k rest)
      ∙ ap (λ (l : List ℕ). new ++ l) (behind ∙ ap (drop (length new)) back_output ∙ drop-drop (length new) n output₀))
      ∙ sym (append_assoc front new (drop (n + length new) output₀))
