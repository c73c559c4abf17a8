-- The bits of the memory and of a block, as a loop unpacks them byte by byte.
-- Assumes nothing.
use mathlib.Core.Path.{◌≡◌, ap, sym, ◌∙◌}
use mathlib.Core.List.{List, [], ◌∷◌, ◌++◌, append_assoc}
use Prim.Native.Nat.{ℕ, ◌+◌, ◌*◌, ◌<◌}
use native.Mathlib.Numerals.{add-one}
use native.Mathlib.Omega.{arith}
use borrow.Rule.Slice.PartMut.{put_mid, mid_of, post_of, same_len_mid}
use lib.ListN.{length, get_or, take, length-append}
use lib.Seq.{take_at, take-suc, length-take-le}
use Rattle.convolutional_code.specs.Bits.{bits_of}
use Rattle.convolutional_code.specs.Sweep.{oldest}
use Rattle.convolutional_code.proofs.Bits.{bits_split, length_bits}

-- the memory and i bytes of the block are unpacked
pub record Unpacked (memory : ℕ) (block history : List ℕ) (i : ℕ) : Type 0 where
  pub front : take (8 * i + 6) history ≡ oldest memory ++ bits_of (take i block)
  pub size : length history ≡ 8 * length block + 6

pub unpacked_none : (memory : ℕ) (block history rest : List ℕ) → history ≡ oldest memory ++ rest → length history ≡ 8 * length block + 6
    → Unpacked memory block history 0
unfolding bits_of
unpacked_none memory block history rest e n = record { front = ap (take 6) e; size = n }

pub unpacked_more : {memory : ℕ} {block history : List ℕ} {i : ℕ} → Unpacked memory block history i → (part after : List ℕ) (k : ℕ) → i < length block
    → part ≡ bits_of (get_or block i 0 ∷ []) ++ after → length part ≡ length (mid_of (8 * i + 6) k history)
    → Unpacked memory block (put_mid (8 * i + 6) k history part) (i + 1)
unpacked_more {memory} {block} {history} {i} u part after k l p n =
    let b : ℕ = get_or block i 0 in
    let a : ℕ = 8 * i + 6 in
    let done : List ℕ = take a history ++ bits_of (b ∷ []) in
    let rest : List ℕ = after ++ post_of a k history in
    let all : put_mid a k history part ≡ done ++ rest
    = ap (λ (x : List ℕ). take a history ++ (x ++ post_of a k history)) p
    ∙ ap (λ (x : List ℕ). take a history ++ x) (append_assoc (bits_of (b ∷ [])) (after) (post_of a k history))
    ∙ sym (append_assoc (take a history) (bits_of (b ∷ [])) rest)
    in
    let count : length done ≡ 8 * (i + 1) + 6
    = length-append (take a history) (bits_of (b ∷ []))
    ∙ ap (λ (x : ℕ). x + length (bits_of (b ∷ []))) (length-take-le a history (omega (arith, u.size)))
    ∙ ap (λ (x : ℕ). a + x) (length_bits (b ∷ []))
    ∙ next i
    in
    let more : bits_of (take i block) ++ bits_of (b ∷ []) ≡ bits_of (take (i + 1) block)
    = sym (bits_split (take i block) (b ∷ []))
    ∙ ap bits_of (sym (take-suc block i 0 l) ∙ ap (λ (x : ℕ). take x block) (sym (add-one i)))
    in
    record {
      front =
          ap (take (8 * (i + 1) + 6)) all
          ∙ take_at done rest (8 * (i + 1) + 6) count
          ∙ ap (λ (x : List ℕ). x ++ bits_of (b ∷ [])) u.front
          ∙ append_assoc (oldest memory) (bits_of (take i block)) (bits_of (b ∷ []))
          ∙ ap (λ (x : List ℕ). oldest memory ++ x) more;
      size = same_len_mid a k history part n ∙ u.size;
    }
  where
    next : (i : ℕ) → 8 * i + 6 + 8 ≡ 8 * (i + 1) + 6
    next i = omega arith
