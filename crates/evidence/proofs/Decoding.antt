-- A decoder that refuses every block does not fit the promise of `decode`, and neither does one that invents its counts.
-- Assumes nothing.
use mathlib.Core.Path.{◌≡◌, ap}
use mathlib.Core.List.{List}
use Prim.Native.Nat.{ℕ, ◌≤◌}
use native.Mathlib.Omega.{arith}
use Rattle.std.proofs.Common.{Err}
use Rattle.answer.specs.declared.Refusal.TheVariants.{Uncorrectable, BlockLength}
use lib.ListN.{length}
use Rattle.common.specs.Lists.{Bytes}
use Rattle.reed_solomon.specs.Encode.{encoded}
use Rattle.reed_solomon.specs.Code.{Codeword, differ, differ_bits}
use Rattle.reed_solomon.specs.Decode.{Decoded, Decodes, changed_by}
use Rattle.reed_solomon.specs.declared.Changed.{Changed}
use Rattle.reed_solomon.proofs.Distance.{differ_none}
use Rattle.reed_solomon.proofs.Laws.{decodes_near}
use Rattle.reed_solomon.proofs.LongDivision.{encoded_codeword, encoded_length}

-- what the coder makes of a message is a codeword, and not refused with 8 or with 3
module _ (message : List ℕ) (n : length message ≡ 188) (b : Bytes message) (left : List ℕ) where
  pub refusing : Decodes (encoded message) left (Err Uncorrectable) → ⊥
  refusing d = omega (arith, d.1.far (encoded message) (encoded_codeword message n b), differ_none (encoded message))

  pub refusing_length : Decodes (encoded message) left (Err BlockLength) → ⊥
  refusing_length d = d.0 (encoded_length message n b)

-- Invented counts of changed bytes and bits, whatever block is left: where some codeword is within eight bytes of the block that came, the counts told
-- are the bytes and bits in which they differ, and nothing else.
pub invented_changes : (came c left : List ℕ) (r : Decoded) → length came ≡ 204 → Codeword c → differ came c ≤ 8 → Decodes came left r
    → (((changed_by r).bytes ≡ differ came c) × ((changed_by r).bits ≡ differ_bits came c) → ⊥) → ⊥
invented_changes came c left r n w h d f =
    let e = ap changed_by (decodes_near came c left r n w h d).answer in
    f (ap (λ (k : Changed). k.bytes) e, ap (λ (k : Changed). k.bits) e)
