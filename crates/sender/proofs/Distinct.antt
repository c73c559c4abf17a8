-- The interleaved bytes tell packets apart: two lists whose bytes agree in one bit of a block agree in a bit of the packet.
-- The bit is the lowest of byte 12, which the interleaver does not delay, and which every mode codes.
-- Assumes nothing.
use mathlib.Core.Path.{◌≡◌, refl, ap, sym, ◌∙◌}
use mathlib.Core.List.{List, [], ◌∷◌}
use Prim.Native.Nat.{ℕ, zero, suc, ◌+◌, ◌*◌, ◌%◌, ◌<◌}
use native.Mathlib.Omega.{arith}
use lib.Bits.{bit_xor}
use lib.ListN.{length, get_or, drop, length-drop, get_or-append}
use Rattle.common.specs.Lists.{All, Length}
use Rattle.common.proofs.Lists.{All-at}
use Rattle.common.proofs.Xor.{xor_low, xor_undo}
use Rattle.reed_solomon.specs.Encode.{check_bytes}
use Rattle.randomizer.specs.Prbs.{masks}
use Rattle.randomizer.specs.Packet.{randomized}
use Rattle.randomizer.proofs.Xors.{get_d_xors}
use Rattle.randomizer.proofs.Laws.{length_masks, length_randomized}
use Rattle.interleaver.proofs.BlockLists.{flatten_at}
use Rattle.convolutional_code.specs.Bits.{bits_of}
use Rattle.sent_blocks.specs.Blocks.{coded_blocks, sent_bytes, interleaved_blocks}
use Rattle.sent_blocks.proofs.Lengths.{coded_count, interleaved_count, interleaved_whole}
use Rattle.sent_blocks.proofs.Packets.{coded_at, not_delayed}

-- ---- bits and bytes

pub low_bit : (l : List ℕ) (i : ℕ) → get_or (bits_of l) (8 * i + 7) 0 ≡ get_or l i 0 % 2
unfolding bits_of
low_bit [] i = refl
low_bit (b ∷ bs) zero = refl
low_bit (b ∷ bs) (suc i) =
    let e : 8 * suc i + 7 ≡ suc (suc (suc (suc (suc (suc (suc (suc (8 * i + 7)))))))) = omega arith in
    ap (λ (k : ℕ). get_or (bits_of (b ∷ bs)) k 0) e ∙ low_bit bs i

-- ---- blocks and packets

-- what byte 12 of a packet is xored with
mask : ℕ → ℕ
mask b = get_or (drop (188 * (b % 8)) masks) 12 0

module _ (ps : List (List ℕ)) (g : All (Length 188) ps) (b : ℕ) (h : b < length ps) where
  size : length (get_or ps b []) ≡ 188
  size = All-at (Length 188) ps [] b g h

  coded_byte : get_or (get_or (coded_blocks ps) b []) 12 0 ≡ bit_xor (get_or (get_or ps b []) 12 0) (mask b)
  unfolding mask randomized
  coded_byte =
      let p = get_or ps b [] in
      let m = randomized (b % 8) p in
      let n : length m ≡ 188 = length_randomized (b % 8) p (omega arith) size in
      ap (λ (l : List ℕ). get_or l 12 0) (coded_at ps g b h)
      ∙ get_or-append m (check_bytes m) 0 12 (omega arith)
      ∙ get_d_xors p (drop (188 * (b % 8)) masks) 12 (omega (arith, size))
      (omega (arith, length-drop (188 * (b % 8)) masks, length_masks))

  -- the lowest bit of byte 12 of packet b, as it is sent
  sent_low : get_or (sent_bytes ps) (204 * b + 12) 0 % 2 ≡ bit_xor (get_or (get_or ps b []) 12 0) (mask b) % 2
  sent_low =
      ap (λ (x : ℕ). x % 2)
      (flatten_at (interleaved_blocks ps) (interleaved_whole ps) b 12 (omega (arith, interleaved_count ps)) (omega arith)
      ∙ not_delayed (coded_blocks ps) b 12 (omega (arith, coded_count ps)) (omega arith) refl
      ∙ coded_byte)

-- two lists that send the same bit there agree in it
pub same_low : (ps qs : List (List ℕ)) → All (Length 188) ps → All (Length 188) qs → (b : ℕ) → b < length ps → b < length qs
    → get_or (sent_bytes ps) (204 * b + 12) 0 % 2 ≡ get_or (sent_bytes qs) (204 * b + 12) 0 % 2
    → get_or (get_or ps b []) 12 0 % 2 ≡ get_or (get_or qs b []) 12 0 % 2
same_low ps qs g h b k l s =
    let x = get_or (get_or ps b []) 12 0 in
    let y = get_or (get_or qs b []) 12 0 in
    let m = mask b % 2 in
    let f : bit_xor (x % 2) m ≡ bit_xor (y % 2) m = sym (xor_low x (mask b)) ∙ sym (sent_low ps g b k) ∙ s ∙ sent_low qs h b l ∙ xor_low y (mask b) in
    sym (xor_undo (x % 2) m) ∙ ap (λ (t : ℕ). bit_xor t m) f ∙ xor_undo (y % 2) m
