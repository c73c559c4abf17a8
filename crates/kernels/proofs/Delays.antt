-- A loop that puts the blocks of a buffer through branches: what is in the output, and what is left to pass. For both sides.
-- Assumes nothing.
use mathlib.Core.Path.{◌≡◌, refl, ap, ap₂, sym, subst, ◌∙◌}
use mathlib.Core.List.{List, [], ◌++◌, append_assoc, append-nil, flatten}
use Prim.Native.Nat.{ℕ, ◌+◌, ◌-◌, ◌*◌, ◌/◌, ◌%◌, ◌≤◌, ◌<◌}
use native.Mathlib.Omega.{arith}
use borrow.Rule.Slice.PartMut.{put_mid, mid_of}
use lib.ListN.{length, take, drop, length-append, length-drop}
use lib.Seq.{length-take-le}
use Rattle.common.specs.Lists.{chunks_of}
use Rattle.interleaver.specs.Block.{fresh, block_out, branches_after}
use Rattle.interleaver.specs.Call.{pass_branches, pass_output}
use Rattle.interleaver.specs.Stream.{run}
use Rattle.interleaver.specs.declared.branches.Side.{Side}
use Rattle.interleaver.specs.declared.branches.Branches.{Branches}
use Rattle.interleaver.proofs.Blocks.{Good, length_out, good_after}
use Rattle.interleaver.proofs.Answered.{pass_done}
use Rattle.interleaver.proofs.Whole.{good_fresh, run_delayed}
use Rattle.kernels.specs.Delay.{delayed_bytes}
use Rattle.kernels.proofs.Blocks.{blocks_from, blocks_end, blocks_more, put_next}

-- the blocks that have left are in the output, and with those that the rest gives they are those of the whole buffer
pub record Passing (side : Side) (bytes output₀ output : List ℕ) (s : Branches) (at : ℕ) : Type 0 where
  pub within : at ≤ length bytes
  pub whole : at % 204 ≡ 0
  pub good : Good side s
  pub front : List ℕ
  pub counted : length front ≡ at
  pub written : output ≡ front ++ drop at output₀
  pub leaving : front ++ flatten (run side s (blocks_from bytes at)) ≡ delayed_bytes side bytes

pub passing_start : (side : Side) (bytes output : List ℕ) (s : Branches) → s ≡ fresh → Passing side bytes output output s 0
unfolding delayed_bytes
passing_start side bytes output s e = record {
  within = omega arith;
  whole = refl;
  good = subst (Good side) (sym e) (good_fresh side);
  front = [];
  counted = refl;
  written = refl;
  leaving = ap (λ (x : Branches). flatten (run side x (chunks_of 204 bytes))) e ∙ ap flatten (run_delayed side (chunks_of 204 bytes));
}

module _ {side : Side} {bytes output₀ output : List ℕ} {s : Branches} {at : ℕ} (fits : length bytes ≤ length output₀) (p : Passing side bytes output₀ output s at) where
  pub passing_length : length output ≡ length output₀
  passing_length =
      omega (arith, ap length p.written, length-append p.front (drop at output₀), length-drop at output₀, p.counted, p.within)

  pub passing_end : length bytes - at < 204 → output ≡ delayed_bytes side bytes ++ drop (204 * (length bytes / 204)) output₀
  unfolding run flatten
  passing_end h =
      let n : at ≡ 204 * (length bytes / 204) = omega (arith, p.whole, p.within) in
      let e : p.front ≡ delayed_bytes side bytes
      = sym (append-nil p.front) ∙ ap (λ (l : List (List ℕ)). p.front ++ flatten (run side s l)) (sym (blocks_end bytes at h)) ∙ p.leaving in
      p.written ∙ ap₂ (λ (a : List ℕ) (k : ℕ). a ++ drop k output₀) e n

  module _ (h : 204 ≤ length bytes - at) where
    is : at + 204 - at ≡ 204
    is = omega arith

    -- a call on this block and its place in the output
    module _ {next : Branches} {exit : List ℕ}
        (b : next ≡ pass_branches side s (take (at + 204 - at) (drop at bytes)) (mid_of at (at + 204 - at) output))
        (w : exit ≡ pass_output side s (take (at + 204 - at) (drop at bytes)) (mid_of at (at + 204 - at) output)) where
      block : List ℕ
      block = take (at + 204 - at) (drop at bytes)

      out : List ℕ
      out = block_out side s block

      part : length (mid_of at (at + 204 - at) output) ≡ 204
      part = length-take-le (at + 204 - at) (drop at output) (omega (arith, length-drop at output, passing_length, p.within)) ∙ is

      size : length block ≡ 204
      unfolding block
      size = length-take-le (at + 204 - at) (drop at bytes) (omega (arith, length-drop at bytes)) ∙ is

      out_size : length out ≡ 204
      unfolding out
      out_size = length_out side s block

      exit_is : exit ≡ out ++ drop (length out) (mid_of at (at + 204 - at) output)
      unfolding block out
      exit_is =
          w ∙ (pass_done side s block (mid_of at (at + 204 - at) output) p.good size (omega (arith, part))).1
          ∙ ap (λ (n : ℕ). out ++ drop n (mid_of at (at + 204 - at) output)) (sym out_size)

      next_is : next ≡ branches_after side s block
      unfolding block
      next_is = b ∙ (pass_done side s block (mid_of at (at + 204 - at) output) p.good size (omega (arith, part))).0

      pub passing_more : Passing side bytes output₀ (put_mid at (at + 204 - at) output exit) next (at + 204)
      unfolding block out run flatten
      passing_more = record {
        within = omega (arith, h, p.within);
        whole = omega (arith, p.whole);
        good = subst (Good side) (sym next_is) (good_after side s block p.good);
        front = p.front ++ out;
        counted = length-append p.front out ∙ ap₂ (λ (m n : ℕ). m + n) p.counted out_size;
        written =
            ap (put_mid at (at + 204 - at) output) exit_is
            ∙ put_next p.front output₀ output at p.counted p.written out (at + 204 - at) (omega (arith, part, out_size))
            ∙ ap (λ (n : ℕ). (p.front ++ out) ++ drop (at + n) output₀) out_size;
        leaving =
            ap (λ (x : Branches). (p.front ++ out) ++ flatten (run side x (blocks_from bytes (at + 204)))) next_is
            ∙ append_assoc p.front out _
            ∙ ap (λ (n : ℕ). p.front ++ (block_out side s (take n (drop at bytes)) ++ flatten (run side (branches_after side s (take n (drop at bytes))) (blocks_from bytes (at + 204))))) is
            ∙ ap (λ (l : List (List ℕ)). p.front ++ flatten (run side s l)) (sym (blocks_more bytes at h))
            ∙ p.leaving;
      }
