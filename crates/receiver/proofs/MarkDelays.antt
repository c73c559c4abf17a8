-- The marks in the delays: they stay 0 or 1, and where none comes and none is there, none leaves. So what decoding means without marks holds then.
-- Assumes nothing.
use mathlib.Core.Path.{◌≡◌, refl, sym, ap, ◌∙◌, subst}
use mathlib.Core.List.{List}
use Prim.Native.Nat.{ℕ, ◌≤◌, ◌<◌}
use native.Mathlib.Omega.{arith}
use lib.ListN.{length, replicate, length-replicate}
use lib.Seq.{ext_get_or}
use Rattle.common.specs.Lists.{Entries, largest}
use Rattle.common.proofs.Largest.{largest_least, largest_most}
use Rattle.common.proofs.Lists.{zeros_at}
use Rattle.reed_solomon.specs.Decode.{Decodes}
use Rattle.reed_solomon.specs.Marks.{Marks, no_marks, DecodesMarked}
use Rattle.reed_solomon.specs.Decode.{Decoded}
use Rattle.reed_solomon.proofs.MarkedDistance.{without_marks}
use Rattle.interleaver.specs.Branch.{laid}
use Rattle.interleaver.specs.Block.{block_out, branches_after}
use Rattle.interleaver.specs.declared.branches.Branches.{Branches}
use Rattle.interleaver.specs.declared.branches.Side.TheVariants.{Receiving}
use Rattle.interleaver.proofs.Blocks.{Good, good_after, length_out, entries_out, entries_after}
use Rattle.receiver.specs.Receive.{NoMarks, delayed_marks}
use Rattle.receiver.specs.declared.Receiver.{Receiver}

-- ---- none

-- a list of zeros, by its length
zeros_only : (n : ℕ) (l : List ℕ) → length l ≡ n → Entries (λ x. x ≡ 0) l → l ≡ replicate n 0
zeros_only n l e z = ext_get_or 0 l (replicate n 0) (e ∙ sym (length-replicate n 0)) (λ i h. z i ∙ sym (zeros_at n i))

module _ (positions : List ℕ) where
  abbrev none : Branches
  none = laid (replicate 1122 0) positions

  pub none_leaves : block_out Receiving none no_marks ≡ no_marks
  none_leaves = zeros_only 204 (block_out Receiving none no_marks) (length_out Receiving none no_marks) (entries_out (λ x. x ≡ 0) refl Receiving none no_marks (zeros_at 1122) (zeros_at 204))

  pub none_stays : Good Receiving none → (branches_after Receiving none no_marks).cells ≡ replicate 1122 0
  none_stays g = zeros_only 1122 (branches_after Receiving none no_marks).cells (good_after Receiving none no_marks g).cells (entries_after (λ x. x ≡ 0) refl Receiving none no_marks (zeros_at 1122) (zeros_at 204))

-- a state without a mark and a block without one: what is decoded has none, and decoding is that without marks
pub none_decodes : (s : Receiver) (came left : List ℕ) (decoded : Decoded) → NoMarks s → DecodesMarked (delayed_marks s no_marks) came left decoded → Decodes came left decoded
none_decodes s came left decoded u d =
    without_marks came left decoded
    (subst (λ (m : List ℕ). DecodesMarked m came left decoded)
    (ap (λ (c : List ℕ). block_out Receiving (laid c s.deinterleaver.branches.positions) no_marks) u ∙ none_leaves s.deinterleaver.branches.positions) d)

-- ---- marks

bits_of : (l : List ℕ) → largest l < 2 → Entries (λ x. x ≤ 1) l
bits_of l h i = omega (arith, largest_least l i)

bits_largest : (l : List ℕ) → Entries (λ x. x ≤ 1) l → largest l < 2
bits_largest l e = omega (arith, largest_most l 1 (λ i h. e i))

module _ (s : Branches) (marks : List ℕ) (h : largest s.cells < 2) (m : Marks marks) where
  bits : Entries (λ x. x ≤ 1) marks
  bits i = omega (arith, largest_least marks i, largest_most marks 1 (λ i l. m.bits i (omega (arith, m.size))))

  -- what leaves is a mark for each byte of a block, and what stays is in range
  pub leave_marks : Marks (block_out Receiving s marks)
  leave_marks = record { size = length_out Receiving s marks; bits = λ i b. entries_out (λ x. x ≤ 1) (omega arith) Receiving s marks (bits_of s.cells h) bits i }

  pub stay_marks : largest (branches_after Receiving s marks).cells < 2
  stay_marks = bits_largest (branches_after Receiving s marks).cells (entries_after (λ x. x ≤ 1) (omega arith) Receiving s marks (bits_of s.cells h) bits)
