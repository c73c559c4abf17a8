-- What decoding a block means where some of its bytes are marked as doubtful: errors and erasures decoding. A mark is 0 or 1, and a marked byte is an erasure.
-- Clause: document 02, P11.
-- Assumes nothing.
use Rattle.std.specs.Prelude.{◌≡◌, Bool, false, List, [], ◌∷◌, ℕ, ◌+◌, ◌*◌, ◌≤◌, ◌<◌, eqb, ltb, length, get_or, replicate, Ok, Err}
use Rattle.answer.specs.declared.Refusal.TheVariants.{Uncorrectable, BlockLength, MarkValue}
use Rattle.common.specs.Choice.{pick, unequal}
use Rattle.common.specs.Lists.{largest}
use Rattle.reed_solomon.specs.Code.{Codeword, changes}
use Rattle.reed_solomon.specs.declared.Changed.{Changed}
use Rattle.reed_solomon.specs.Decode.{Decoded}

-- a mark, 0 or 1, for each byte of a block
pub record Marks (marks : List ℕ) : Type 0 where
  pub size : length marks ≡ 204
  pub bits : (i : ℕ) → i < 204 → get_or marks i 0 ≤ 1

-- whether there is a mark, 0 or 1, for each byte of a block
abbrev pub are_marks : List ℕ → Bool
are_marks marks = pick (eqb (length marks) 204) (ltb (largest marks) 2) false

-- no byte is marked
abbrev pub no_marks : List ℕ
no_marks = replicate 204 0

-- f: how many bytes are marked
unfoldable pub marked : List ℕ → ℕ
marked [] = 0
marked (m ∷ ms) = pick (eqb m 0) 0 1 + marked ms

-- e: in how many bytes that are not marked two blocks differ
unfoldable pub unmarked : List ℕ → List ℕ → List ℕ → ℕ
unmarked [] a b = 0
unmarked (m ∷ ms) [] b = 0
unmarked (m ∷ ms) (x ∷ a) [] = 0
unmarked (m ∷ ms) (x ∷ a) (y ∷ b) = pick (eqb m 0) (unequal x y) 0 + unmarked ms a b

-- 2 e + f
abbrev pub cost : List ℕ → List ℕ → List ℕ → ℕ
cost marks came c = 2 * unmarked marks came c + marked marks

-- accepted: what is left is a codeword, what is told changed is in how many bytes and bits, marked or not, it differs from what came,
-- 2 e + f is at most 16, and it is above 16 for every other codeword
pub record AcceptedMarked (marks came left : List ℕ) (changed : Changed) : Type 0 where
  pub codeword : Codeword left
  pub counted : changed ≡ changes came left
  pub within : cost marks came left ≤ 16
  pub only : (c : List ℕ) → Codeword c → (c ≡ left → ⊥) → 16 < cost marks came c

-- not accepted: 2 e + f is above 16 for every codeword, and what is left is what came
pub record RejectedMarked (marks came left : List ℕ) : Type 0 where
  pub unchanged : left ≡ came
  pub far : (c : List ℕ) → Codeword c → 16 < cost marks came c

-- first the block's length, then the marks
abbrev pub DecodesMarked : List ℕ → List ℕ → List ℕ → Decoded → Type 0
DecodesMarked marks came left (Ok changed) = (length came ≡ 204) × Marks marks × AcceptedMarked marks came left changed
DecodesMarked marks came left (Err Uncorrectable) = (length came ≡ 204) × Marks marks × RejectedMarked marks came left
DecodesMarked marks came left (Err BlockLength) = (length came ≡ 204 → ⊥) × (left ≡ came)
DecodesMarked marks came left (Err MarkValue) = (length came ≡ 204) × (Marks marks → ⊥) × (left ≡ came)
DecodesMarked marks came left (Err _) = ⊥
