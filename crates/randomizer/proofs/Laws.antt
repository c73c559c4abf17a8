-- Laws of a packet that is randomized or derandomized at a place of its group.
-- Assumes nothing.
use mathlib.Core.Path.{◌≡◌, refl, ap, ap₂, ◌∙◌, sym}
use mathlib.Core.Bool.{Bool, true, false}
use mathlib.Core.List.{List, [], ◌∷◌, ◌++◌}
use Prim.Native.Nat.{ℕ, zero, suc, ◌+◌, ◌*◌, ◌%◌, ◌≤◌, ◌<◌}
use native.Mathlib.Nat.{not-suc-le-zero, add-zero, mod-lt}
use native.Mathlib.Omega.{arith}
use borrow.Author.Tests.{eq-eqb, ne_eqb, le-ltb}
use lib.Bits.{bit_xor}
use lib.Dec.{eqb}
use lib.ListN.{length, get_or, drop, set, length-drop}
use lib.Seq.{get_or-drop}
use Rattle.common.specs.Choice.{pick}
use Rattle.common.specs.Lists.{ByteEntries}
use Rattle.common.proofs.Entries.{entries_drop}
use Rattle.randomizer.specs.Prbs.{loaded, output_bit, stepped, steps, step_bits, sequence, period, enabled, masks}
use Rattle.randomizer.specs.Packet.{randomized, derandomized, randomize_number, randomize_output, derandomize_number, derandomize_output}
use Rattle.randomizer.proofs.Xors.{length_xors, get_d_xors, bytes_xors, xors_undo}

-- ---- the masks

length_enabled : (n : ℕ) (l : List ℕ) → length (enabled n l) ≡ length l
unfolding enabled
length_enabled n [] = refl
length_enabled n (b ∷ bs) = ap suc (length_enabled (n + 1) bs)

length_sequence : (n : ℕ) (register : List ℕ) → length (sequence n register) ≡ n
unfolding sequence
length_sequence zero r = refl
length_sequence (suc n) r = ap suc (length_sequence n (steps 8 r))

pub length_masks : length masks ≡ 1504
unfolding masks period
length_masks = ap suc (length_enabled 1 period ∙ length_sequence 1503 loaded)

output_bit_lt : (register : List ℕ) → output_bit register < 2
unfolding output_bit
output_bit_lt r = mod-lt (get_or r 13 0 + get_or r 14 0) (omega arith)

-- eight bits make a byte
byte_lt : (register : List ℕ) → step_bits 8 0 register < 256
unfolding step_bits
byte_lt r =
    let r1 = stepped r in
    let r2 = stepped r1 in
    let r3 = stepped r2 in
    let r4 = stepped r3 in
    let r5 = stepped r4 in
    let r6 = stepped r5 in
    let r7 = stepped r6 in
    eight (output_bit r) (output_bit r1) (output_bit r2) (output_bit r3) (output_bit r4) (output_bit r5) (output_bit r6) (output_bit r7) (output_bit_lt r) (output_bit_lt r1) (output_bit_lt r2) (output_bit_lt r3)
    (output_bit_lt r4) (output_bit_lt r5) (output_bit_lt r6) (output_bit_lt r7)
  where
    eight : (a b c d e f g h : ℕ) → a < 2 → b < 2 → c < 2 → d < 2 → e < 2 → f < 2 → g < 2 → h < 2
        → (((((((0 * 2 + a) * 2 + b) * 2 + c) * 2 + d) * 2 + e) * 2 + f) * 2 + g) * 2 + h < 256
    eight a b c d e f g h i j k l m n o p = omega arith

bytes_sequence : (n : ℕ) (register : List ℕ) → ByteEntries (sequence n register)
unfolding sequence
bytes_sequence zero r i = omega arith
bytes_sequence (suc n) r zero = byte_lt r
bytes_sequence (suc n) r (suc i) = bytes_sequence n (steps 8 r) i

bytes_enabled : (n : ℕ) (l : List ℕ) → ByteEntries l → ByteEntries (enabled n l)
unfolding enabled
bytes_enabled n [] h i = omega arith
bytes_enabled n (b ∷ bs) h zero = picked (eqb (n % 188) 0) b (h 0)
  where
    picked : (t : Bool) (b : ℕ) → b < 256 → pick t 0 b < 256
    picked true b h = omega arith
    picked false b h = h
bytes_enabled n (b ∷ bs) h (suc i) = bytes_enabled (n + 1) bs (λ k. h (suc k)) i

bytes_masks : ByteEntries masks
unfolding masks period
bytes_masks zero = omega arith
bytes_masks (suc i) = bytes_enabled 1 period (bytes_sequence 1503 loaded) i

-- the sequence is disabled at the sync bytes
disabled : (n i : ℕ) (l : List ℕ) → (n + i) % 188 ≡ 0 → get_or (enabled n l) i 0 ≡ 0
unfolding enabled
disabled n i [] e = refl
disabled n zero (b ∷ bs) e = simp (eq-eqb (n % 188) 0 (ap (λ (m : ℕ). m % 188) (sym (add-zero n)) ∙ e))
disabled n (suc i) (b ∷ bs) e = disabled (n + 1) i bs (ap (λ (m : ℕ). m % 188) (next n i) ∙ e)
  where
    next : (n i : ℕ) → n + 1 + i ≡ n + suc i
    next n i = omega arith

-- the sync byte: inverted at place 0, as it is elsewhere
sync : (place : ℕ) → bit_xor 0x47 (get_or masks (188 * place) 0) ≡ pick (eqb place 0) 0xB8 0x47
unfolding masks
sync zero = refl
sync (suc p) =
    let e : 188 * suc p ≡ suc (188 * p + 187) = omega arith in
    ap (λ (k : ℕ). bit_xor 0x47 (get_or masks k 0)) e
    ∙ ap (bit_xor 0x47) (disabled 1 (188 * p + 187) period (omega arith))
    ∙ simp (ne_eqb (suc p) 0 (λ z. omega arith))

-- ---- a packet

module _ (place : ℕ) (packet : List ℕ) (h : place ≤ 7) (n : length packet ≡ 188) where
  enough : length packet ≤ length (drop (188 * place) masks)
  enough = let m = length_masks in simp length-drop (omega arith)

  pub length_randomized : length (randomized place packet) ≡ 188
  unfolding randomized
  length_randomized = length_xors packet (drop (188 * place) masks) enough ∙ n

  -- a packet that begins 47 hex is sent with B8 first at place 0, and with 47 elsewhere
  pub first_byte : get_or packet 0 0 ≡ 0x47 → get_or (randomized place packet) 0 0 ≡ pick (eqb place 0) 0xB8 0x47
  unfolding randomized
  first_byte e =
      get_d_xors packet (drop (188 * place) masks) 0 (omega arith) (let g = enough in omega arith)
      ∙ ap₂ bit_xor e (get_or-drop (188 * place) masks 0 0 ∙ ap (λ (k : ℕ). get_or masks k 0) (add-zero (188 * place)))
      ∙ sync place

  -- bytes give bytes
  pub bytes_randomized : ByteEntries packet → ByteEntries (randomized place packet)
  unfolding randomized
  bytes_randomized b = bytes_xors packet (drop (188 * place) masks) b (entries_drop (λ x. x < 256) (188 * place) masks bytes_masks)

  -- derandomizing gives the packet back
  pub back : get_or packet 0 0 ≡ 0x47 → derandomized place (randomized place packet) ≡ packet
  unfolding randomized derandomized
  back e =
      ap (λ (l : List ℕ). 0x47 ∷ drop 1 l) (xors_undo packet (drop (188 * place) masks) enough) ∙ headed packet (omega arith) e
    where
      headed : (l : List ℕ) → 0 < length l → get_or l 0 0 ≡ 0x47 → 0x47 ∷ drop 1 l ≡ l
      headed [] k e = absurd (not-suc-le-zero k)
      headed (x ∷ xs) k e = ap (λ (a : ℕ). a ∷ xs) (sym e)

  -- a call at that place, with room enough, is answered
  module _ (output : List ℕ) (l : 188 ≤ length output) where
    pub randomize_done : get_or packet 0 0 ≡ 0x47
        → (randomize_number place packet output ≡ 0) × (randomize_output place packet output ≡ randomized place packet ++ drop 188 output)
    randomize_done e = simp (le-ltb _ _ h, eq-eqb _ _ n, eq-eqb _ _ e, le-ltb _ _ l) (refl, refl)

    pub derandomize_done : (derandomize_number place packet output ≡ 0) × (derandomize_output place packet output ≡ derandomized place packet ++ drop 188 output)
    derandomize_done = simp (le-ltb _ _ h, eq-eqb _ _ n, le-ltb _ _ l) (refl, refl)

-- the output when the sync byte is set
pub first_set : (xs ys : List ℕ) (v : ℕ) → 0 < length xs → set (xs ++ ys) 0 v ≡ (v ∷ drop 1 xs) ++ ys
first_set [] ys v h = absurd (not-suc-le-zero h)
first_set (x ∷ xs) ys v h = refl
