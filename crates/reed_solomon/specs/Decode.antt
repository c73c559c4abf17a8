-- What decoding a block means, as a relation between the bytes that came, the bytes left and the answer. Marks.antt has what it means with marks.
-- Clauses: document 01, "Outer code"; document 02, P3.
-- Assumes nothing.
use Rattle.std.specs.Prelude.{◌≡◌, List, ℕ, ◌≤◌, ◌<◌, length, Result, Ok, Err}
use Rattle.answer.specs.declared.Refusal.{Refusal}
use Rattle.answer.specs.declared.Refusal.TheVariants.{Uncorrectable, BlockLength}
use Rattle.reed_solomon.specs.Code.{Codeword, differ, changes, no_change}
use Rattle.reed_solomon.specs.declared.Changed.{Changed}

-- accepted: what is left is a codeword, what is told changed is in how many bytes and bits it differs from what came,
-- at most eight bytes, and every other codeword differs from what came in more
pub record Accepted (came left : List ℕ) (changed : Changed) : Type 0 where
  pub codeword : Codeword left
  pub counted : changed ≡ changes came left
  pub within : differ came left ≤ 8
  pub nearest : (c : List ℕ) → Codeword c → (c ≡ left → ⊥) → differ came left < differ came c

-- not accepted: no codeword is within eight bytes, and what is left is what came
pub record Rejected (came left : List ℕ) : Type 0 where
  pub unchanged : left ≡ came
  pub far : (c : List ℕ) → Codeword c → 8 < differ came c

-- what decoding answers: what was changed where the block left is the codeword, or the refusal of a block that is left as it came
abbrev pub Decoded : Type 0
Decoded = Result Changed Refusal

abbrev pub Decodes : List ℕ → List ℕ → Decoded → Type 0
Decodes came left (Ok changed) = (length came ≡ 204) × Accepted came left changed
Decodes came left (Err Uncorrectable) = (length came ≡ 204) × Rejected came left
Decodes came left (Err BlockLength) = (length came ≡ 204 → ⊥) × (left ≡ came)
Decodes came left (Err _) = ⊥

-- what decoding tells that it changed: nothing where it answers with a refusal
abbrev pub changed_by : Decoded → Changed
changed_by (Ok changed) = changed
changed_by (Err _) = no_change
