-- The list of a whole recording at once, in a buffer that is lent.
-- Assumes nothing.
use Rattle.std.specs.Prelude.{◌≡◌, List, [], ◌∷◌, ℕ, ◌*◌, ◌/◌, ◌<◌, ltb, length}
use Rattle.common.specs.Refusal.{unless, when, first_due}
use Rattle.losses.specs.Feed.{marks_of, marks_fit, WritesLines}
use Rattle.losses.specs.History.{LossList}

-- The tests before the work: 20 where the marks are none or not one for each byte, 4 where there is not room for a line for each whole block,
-- 7 where not all the blocks can be counted.
abbrev pub list_number : List ℕ → List ℕ → List ℕ → ℕ
list_number bytes marks output =
    first_due (unless (marks_fit bytes marks) 20 ∷ when (ltb (length output) (length bytes / 204)) 4 ∷ when (ltb (204 * 4294967295) (length bytes)) 7 ∷ [])

-- all as before, or the list of the recording at the front of the output
pub data ListsRecording (bytes marks output : List ℕ) (number count : ℕ) (exit : List ℕ) : Type 0 where
  refused : number ≡ list_number bytes marks output → 0 < number → count ≡ 0 → exit ≡ output → ListsRecording bytes marks output number count exit
  listed : list_number bytes marks output ≡ 0 → number ≡ 0 → (lines : List ℕ) → LossList bytes (marks_of bytes marks) lines → WritesLines lines output count exit
      → ListsRecording bytes marks output number count exit
