-- Bits of bytes, written byte after byte.
-- Assumes nothing.
use mathlib.Core.Path.{◌≡◌, refl, sym, ap, ap₂, ◌∙◌}
use mathlib.Core.List.{List, [], ◌∷◌, ◌++◌}
use Prim.Native.Nat.{ℕ, ◌+◌, ◌*◌, ◌≤◌, ◌<◌}
use native.Mathlib.Numerals.{add-one}
use native.Mathlib.Omega.{arith}
use lib.ListN.{length, get_or, take, drop}
use lib.Seq.{take-suc}
use Rattle.convolutional_code.specs.Bits.{bits_of}
use Rattle.convolutional_code.proofs.Bits.{length_bits, bits_split}
use Rattle.report_lines.proofs.Lines.{put_appended}

pub record BitsWritten (bytes output₀ output : List ℕ) (k : ℕ) : Type 0 where
  pub within : k ≤ length bytes
  pub size : length output ≡ length output₀
  pub bits : take (8 * k) output ≡ bits_of (take k bytes)

pub bits_none : (bytes output : List ℕ) → BitsWritten bytes output output 0
unfolding bits_of
bits_none bytes output = record { within = omega arith; size = refl; bits = refl }

pub bits_more : {bytes output₀ output next : List ℕ} {k v : ℕ} → BitsWritten bytes output₀ output k → k < length bytes → 8 * length bytes ≤ length output₀ → v ≡ get_or bytes k 0
    → next ≡ take (8 * k) output ++ bits_of (v ∷ []) ++ drop (8 * k + 8) output → BitsWritten bytes output₀ next (k + 1)
bits_more {bytes} {output₀} {output} {next} {k} {v} w h room e x =
    let l : List ℕ = bits_of (v ∷ []) in
    let n : length l ≡ 8 = length_bits (v ∷ []) in
    let z : 8 * k + 8 ≡ 8 * k + length l = omega (arith, n) in
    let s = w.size in
    let a = put_appended output l (8 * k) (8 * k + length l) (omega (arith, n)) (omega arith) in
    let y : next ≡ take (8 * k) output ++ l ++ drop (8 * k + length l) output = x ∙ ap (λ (j : ℕ). take (8 * k) output ++ l ++ drop j output) z in
    let m : 8 * (k + 1) ≡ 8 * k + length l = omega (arith, n) in
    record {
      within = omega arith;
      size = ap length y ∙ a.same ∙ w.size;
      bits =
          ap₂ take m y ∙ a.text ∙ ap (λ (t : List ℕ). t ++ l) w.bits ∙ sym (bits_split (take k bytes) (v ∷ []))
          ∙ ap bits_of (ap (λ (t : ℕ). take k bytes ++ t ∷ []) e ∙ sym (take-suc bytes k 0 h) ∙ ap (λ (j : ℕ). take j bytes) (sym (add-one k)));
    }
