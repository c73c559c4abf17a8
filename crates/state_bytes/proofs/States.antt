-- The bytes of a state and the state that is read of them, of any table: writing what was read gives the same bytes, and reading what was written for a
-- state in range gives that state. So bytes stand for a state exactly when it is read of them and in range, and for no other.
-- Assumes nothing.
use mathlib.Core.Path.{◌≡◌, refl, sym, ap, subst, ◌∙◌}
use mathlib.Core.Bool.{Bool, true, false}
use mathlib.Core.List.{List, []}
use Prim.Native.Nat.{ℕ, ◌≤◌}
use native.Mathlib.Omega.{arith}
use lib.ListN.{length}
use Rattle.common.specs.Lists.{All, ByteEntries}
use Rattle.common.proofs.Choice.{false_true}
use Rattle.state_bytes.specs.Table.{Field, fields_of, part, contiguous, StandsFor}
use Rattle.state_bytes.proofs.Fields.{fields_joined, fields_sized, fields_found, fields_length}

-- What each table is asked for: that its fields lie one after the other, that what is read of bytes, which may have more behind, has their fields, and that
-- bytes with the fields of a state in range are read as that state.
pub record Reads {S : Type 0} (layout : List (Field S)) (end : ℕ) (in_range : S → Bool) (read : List ℕ → S) : Type 0 where
  pub joined : contiguous 0 layout end ≡ true
  pub fields : (bytes : List ℕ) → end ≤ length bytes → ByteEntries bytes → All (λ f. f.held (read bytes) ≡ part f bytes) layout
  pub again : (bytes : List ℕ) (s : S) → in_range s ≡ true → All (λ f. part f bytes ≡ f.held s) layout → read bytes ≡ s

module _ {S : Type 0} {layout : List (Field S)} {end : ℕ} {in_range : S → Bool} {read : List ℕ → S} (g : Reads layout end in_range read) where
  module _ (bytes : List ℕ) (n : length bytes ≡ end) (e : ByteEntries bytes) where
    held_read : All (λ f. f.held (read bytes) ≡ part f bytes) layout
    held_read = g.fields bytes (omega arith) e

    -- what is read and written again is as it was
    pub written_read : fields_of layout (read bytes) ≡ bytes
    written_read = fields_joined layout 0 end (read bytes) bytes g.joined n held_read

    -- bytes stand for the state that is read of them, where it is in range
    pub stands_read : in_range (read bytes) ≡ true → StandsFor layout in_range bytes (read bytes)
    stands_read r = record { written = sym written_read; sized = fields_sized layout 0 end (read bytes) bytes g.joined n held_read; range = r }

  module _ (bytes : List ℕ) (s : S) (h : StandsFor layout in_range bytes s) where
    pub stands_length : length bytes ≡ end
    stands_length = ap length h.written ∙ let k = fields_length layout 0 end s g.joined h.sized in omega arith

    -- each field of the state is that of the bytes
    pub stands_found : All (λ f. part f bytes ≡ f.held s) layout
    stands_found = subst (λ (l : List ℕ). All (λ f. part f l ≡ f.held s) layout) (sym h.written) (fields_found layout 0 end s [] g.joined refl h.sized)

    -- the state for which bytes stand is the one that is read
    pub stands_for_read : read bytes ≡ s
    stands_for_read = g.again bytes s h.range stands_found

  -- bytes that read as a state out of range stand for none
  pub none_stands : (bytes : List ℕ) → in_range (read bytes) ≡ false → (s : S) → StandsFor layout in_range bytes s → ⊥
  none_stands bytes f s h = false_true (sym f ∙ ap in_range (stands_for_read bytes s h) ∙ h.range)

  -- two different strings of bytes never stand for one state
  pub one_string : (a b : List ℕ) (s : S) → StandsFor layout in_range a s → StandsFor layout in_range b s → a ≡ b
  one_string a b s h k = h.written ∙ sym k.written

  -- one string of bytes never stands for two
  pub one_state : (bytes : List ℕ) (s t : S) → StandsFor layout in_range bytes s → StandsFor layout in_range bytes t → s ≡ t
  one_state bytes s t h k = sym (stands_for_read bytes s h) ∙ stands_for_read bytes t k
