-- A packet that is xored with its masks, byte by byte.
-- Assumes nothing.
use mathlib.Core.Path.{◌≡◌, sym, ap, ap₂, ◌∙◌}
use mathlib.Core.List.{List, [], ◌∷◌, ◌++◌, zip_with}
use Prim.Native.Nat.{ℕ, suc, ◌+◌, ◌*◌, ◌<◌}
use native.Mathlib.Omega.{arith}
use lib.Bits.{bit_xor}
use lib.ListN.{length, get_or, take, drop, set}
use lib.Seq.{take-suc, take-suc-set, take_all}
use Rattle.randomizer.specs.Prbs.{masks}
use Rattle.randomizer.specs.Masks.{Table, Begun}
use Rattle.randomizer.specs.Packet.{randomized}
use Rattle.randomizer.proofs.Xors.{length_xors, get_d_xors, xors_take}

module _ (place : ℕ) (packet table : List ℕ) (n : length table ≡ 188) where
  -- the packet with the masks of the table
  sent_by : Table place table → length packet ≡ 188 → randomized place packet ≡ zip_with bit_xor packet table
  unfolding randomized
  sent_by t p =
      sym (xors_take packet (drop (188 * place) masks)) ∙ ap (λ (k : ℕ). zip_with bit_xor packet (take k (drop (188 * place) masks))) p ∙ ap (zip_with bit_xor packet) (sym t.is)

  length_sent : Table place table → length packet ≡ 188 → length (randomized place packet) ≡ 188
  length_sent t p = ap length (sent_by t p) ∙ length_xors packet table (omega arith) ∙ p

  -- one byte more
  pub begun_more : (i : ℕ) (r : List ℕ) → length r ≡ 188 → i < 188 → Begun place packet table i r
      → Begun place packet table (i + 1) (set r i (bit_xor (get_or packet i 0) (get_or table i 0)))
  begun_more i r l h b = (
    b.0,
    b.1,
    ap (λ (k : ℕ). take k (set r i x)) next ∙ take-suc-set r i x (omega arith)
        ∙ ap₂ (λ (u : List ℕ) (v : ℕ). u ++ v ∷ []) b.2 (sym (ap (λ (m : List ℕ). get_or m i 0) (sent_by b.1 b.0) ∙ get_d_xors packet table i (omega (arith, b.0)) (omega arith)))
        ∙ sym (take-suc (randomized place packet) i 0 (omega (arith, length_sent b.1 b.0))) ∙ ap (λ (k : ℕ). take k (randomized place packet)) (sym next),
  )
    where
      x : ℕ
      x = bit_xor (get_or packet i 0) (get_or table i 0)

      next : i + 1 ≡ suc i
      next = omega arith

  -- all of them
  pub begun_whole : (r : List ℕ) → length r ≡ 188 → Begun place packet table 188 r → r ≡ randomized place packet
  begun_whole r l b = sym (take_all 188 r (omega arith)) ∙ b.2 ∙ take_all 188 (randomized place packet) (omega (arith, length_sent b.1 b.0))
