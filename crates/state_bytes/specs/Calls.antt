-- What a call on the bytes of a state gives, of any table: what the part's own call gives on the state for which they stand.
-- Clause: document 01, "Answer numbers".
-- Assumes nothing.
use Rattle.std.specs.Prelude.{◌≡◌, Bool, List, ℕ, ◌≤◌, ◌<◌, length, set}
use Rattle.state_bytes.specs.Table.{Field, fields_of, StandsFor}

-- Bytes that stand for a state: the part's own call, which `Own` says of the state, the number of the answer and the state after it; the bytes after it are
-- those of that state, for which they stand. Any other bytes are refused, by their length, 22, or as out of range, 5: then all is as it was, which `Nothing`
-- says of what else is lent. The number of the answer goes to the first of the bytes lent for it; where none is lent, nothing is done.
pub data CallsOn {S : Type 0} (layout : List (Field S)) (end : ℕ) (in_range : S → Bool) (Nothing : Type 0) (Own : S → ℕ → S → Type 0)
    (state answer after told : List ℕ) : Type 0 where
  no_answer : length answer < 1 → Nothing → after ≡ state → told ≡ answer → CallsOn layout end in_range Nothing Own state answer after told
  wrong_length : 1 ≤ length answer → (length state ≡ end → ⊥) → Nothing → after ≡ state → told ≡ set answer 0 22
      → CallsOn layout end in_range Nothing Own state answer after told
  no_state : 1 ≤ length answer → length state ≡ end → ((s : S) → StandsFor layout in_range state s → ⊥) → Nothing → after ≡ state → told ≡ set answer 0 5
      → CallsOn layout end in_range Nothing Own state answer after told
  as_own : 1 ≤ length answer → (s : S) → StandsFor layout in_range state s → (number : ℕ) (next : S) → Own s number next → told ≡ set answer 0 number
      → after ≡ fields_of layout next → StandsFor layout in_range after next → CallsOn layout end in_range Nothing Own state answer after told
