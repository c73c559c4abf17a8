-- What the exported decoder gives, without marks and with them: the answer's number, the block, and what was changed in two lent bytes.
-- Clauses: document 01, "Outer code"; document 02, P3 and P11.
-- Assumes nothing.
use Rattle.std.specs.Prelude.{◌≡◌, List, [], ◌∷◌, ℕ, ◌<◌, length, set, eqb, ltb, Ok, Err}
use Rattle.answer.specs.Number.{answered}
use Rattle.common.specs.Refusal.{unless, when, first_due}
use Rattle.reed_solomon.specs.Decode.{Decoded}
use Rattle.reed_solomon.specs.Marks.{are_marks}

-- the numbers of changed bytes and bits go into the first two bytes where the block is accepted; otherwise the lent bytes stay
abbrev pub count_after : Decoded → List ℕ → List ℕ
count_after (Ok changed) count = set (set count 0 changed.bytes) 1 changed.bits
count_after (Err refusal) count = count

-- the tests before the decoding: 3 for a block that is not 204 bytes, then 4 where fewer than two bytes are lent for the counts
abbrev pub decode_refusal : List ℕ → List ℕ → ℕ
decode_refusal came count = first_due (unless (eqb (length came) 204) 3 ∷ when (ltb (length count) 2) 4 ∷ [])

-- with marks: 20 after 3, where there is not a mark, 0 or 1, for each byte
abbrev pub decode_marked_refusal : List ℕ → List ℕ → List ℕ → ℕ
decode_marked_refusal marks came count = first_due (unless (eqb (length came) 204) 3 ∷ unless (are_marks marks) 20 ∷ when (ltb (length count) 2) 4 ∷ [])

-- What the call gives, where its tests give the number refusal: all as before; or what decoding leaves and answers, as `Decoding` says, with its counts.
pub data DecodeExported (Decoding : Decoded → Type 0) (refusal : ℕ) (came left count after : List ℕ) (number : ℕ) : Type 0 where
  refused : number ≡ refusal → 0 < number → left ≡ came → after ≡ count → DecodeExported Decoding refusal came left count after number
  decoded : refusal ≡ 0 → (answer : Decoded) → Decoding answer → number ≡ answered answer → after ≡ count_after answer count
      → DecodeExported Decoding refusal came left count after number
