-- A state as bytes. The layout is a table of fields, and the bytes of a state are its fields one after the other.
-- Clause: document 02, P14.
-- Assumes nothing.
use Rattle.std.specs.Prelude.{◌≡◌, Bool, true, false, List, [], ◌∷◌, ◌++◌, ℕ, ◌+◌, eqb, length, take, drop}
use Rattle.common.specs.Choice.{pick}
use Rattle.common.specs.Lists.{All}

-- a field: its first byte, how many bytes it has, and what they are for a state
pub record Field (S : Type 0) : Type 0 where
  pub offset : ℕ
  pub size : ℕ
  pub held : S → List ℕ

abbrev pub field : {S : Type 0} → ℕ → ℕ → (S → List ℕ) → Field S
field offset size held = record { offset = offset; size = size; held = held }

-- the fields of a part of a state
abbrev pub fields_within : {S T : Type 0} → (T → S) → List (Field S) → List (Field T)
fields_within inner [] = []
fields_within inner (f ∷ fs) = field f.offset f.size (λ t. f.held (inner t)) ∷ fields_within inner fs

-- the fields of a state, one after the other
unfoldable pub fields_of : {S : Type 0} → List (Field S) → S → List ℕ
fields_of [] s = []
fields_of (f ∷ fs) s = f.held s ++ fields_of fs s

-- the bytes of a field
abbrev pub part : {S : Type 0} → Field S → List ℕ → List ℕ
part f bytes = take f.size (drop f.offset bytes)

-- from a byte on to an end, no byte is left out and none is in two fields
abbrev pub contiguous : {S : Type 0} → ℕ → List (Field S) → ℕ → Bool
contiguous at [] end = eqb at end
contiguous at (f ∷ fs) end = pick (eqb f.offset at) (contiguous (at + f.size) fs end) false

-- Which bytes stand for a state: those of its fields, where it is in range and each field is as long as the table says.
pub record StandsFor {S : Type 0} (layout : List (Field S)) (in_range : S → Bool) (bytes : List ℕ) (s : S) : Type 0 where
  pub written : bytes ≡ fields_of layout s
  pub sized : All (λ f. length (f.held s) ≡ f.size) layout
  pub range : in_range s ≡ true
