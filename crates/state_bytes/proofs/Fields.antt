-- Laws of a table of fields in which each begins where the one before it ends.
-- Assumes nothing.
use mathlib.Core.Path.{◌≡◌, refl, sym, ap, ap₂, subst, ◌∙◌}
use mathlib.Core.Bool.{true}
use mathlib.Core.List.{List, [], ◌∷◌, ◌++◌, append_assoc}
use Prim.Native.Nat.{ℕ, ◌+◌, ◌≤◌}
use Prim.{tt}
use native.Mathlib.Omega.{arith}
use borrow.Author.Tests.{eqb-true}
use lib.Dec.{eqb}
use lib.ListN.{length, take, drop, length-append, length-drop, take-append-drop, drop_of_length-le}
use lib.Seq.{drop-drop, take_at, drop_at, length-take-le}
use Rattle.common.specs.Lists.{All}
use Rattle.common.proofs.Choice.{both_true}
use Rattle.state_bytes.specs.Table.{Field, fields_within, fields_of, part, contiguous}

-- a fact of a field, before those of the fields after it
infixr 10 ◌&◌
pub ◌&◌ : {A B : Type 0} → A → B → A × B
a & b = (a, b)

module _ {S : Type 0} where
  first_offset : (f : Field S) (fs : List (Field S)) (at end : ℕ) → contiguous at (f ∷ fs) end ≡ true → f.offset ≡ at
  first_offset f fs at end c = eqb-true f.offset at (both_true (eqb f.offset at) (contiguous (at + f.size) fs end) c).0

  others : (f : Field S) (fs : List (Field S)) (at end : ℕ) → contiguous at (f ∷ fs) end ≡ true → contiguous (at + f.size) fs end ≡ true
  others f fs at end c = (both_true (eqb f.offset at) (contiguous (at + f.size) fs end) c).1

  ends : (fs : List (Field S)) (at end : ℕ) → contiguous at fs end ≡ true → at ≤ end
  ends [] at end c = omega (arith, eqb-true at end c)
  ends (f ∷ fs) at end c = let h = ends fs (at + f.size) end (others f fs at end c) in omega arith

  -- ---- the fields of bytes are the bytes

  part_more : (f : Field S) (at : ℕ) (bytes : List ℕ) → f.offset ≡ at → part f bytes ++ drop (at + f.size) bytes ≡ drop at bytes
  part_more f at bytes e =
      ap₂ (λ (i : ℕ) (l : List ℕ). take f.size (drop i bytes) ++ l) e (sym (drop-drop f.size at bytes))
      ∙ take-append-drop f.size (drop at bytes)

  -- what the fields of a state are where each is that of the bytes
  pub fields_joined : (fs : List (Field S)) (at end : ℕ) (s : S) (bytes : List ℕ) → contiguous at fs end ≡ true → length bytes ≡ end
      → All (λ f. f.held s ≡ part f bytes) fs → fields_of fs s ≡ drop at bytes
  unfolding fields_of
  fields_joined [] at end s bytes c n e = sym (drop_of_length-le bytes {i = at} (omega (arith, eqb-true at end c)))
  fields_joined (f ∷ fs) at end s bytes c n e =
      ap₂ (λ (x y : List ℕ). x ++ y) e.0 (fields_joined fs (at + f.size) end s bytes (others f fs at end c) n e.1)
      ∙ part_more f at bytes (first_offset f fs at end c)

  -- and each is as long as the table says
  pub fields_sized : (fs : List (Field S)) (at end : ℕ) (s : S) (bytes : List ℕ) → contiguous at fs end ≡ true → length bytes ≡ end
      → All (λ f. f.held s ≡ part f bytes) fs → All (λ f. length (f.held s) ≡ f.size) fs
  fields_sized [] at end s bytes c n e = tt
  fields_sized (f ∷ fs) at end s bytes c n e =
      let o = first_offset f fs at end c in
      let h = ends fs (at + f.size) end (others f fs at end c) in
      ap length e.0 ∙ length-take-le f.size (drop f.offset bytes) (omega (arith, length-drop f.offset bytes))
      & fields_sized fs (at + f.size) end s bytes (others f fs at end c) n e.1

  -- ---- each field of a state is found again

  pub fields_found : (fs : List (Field S)) (at end : ℕ) (s : S) (front : List ℕ) → contiguous at fs end ≡ true → length front ≡ at
      → All (λ f. length (f.held s) ≡ f.size) fs → All (λ f. part f (front ++ fields_of fs s) ≡ f.held s) fs
  unfolding fields_of
  fields_found [] at end s front c n e = tt
  fields_found (f ∷ fs) at end s front c n e = (
    ap₂ (λ (i : ℕ) (l : List ℕ). take i l) (sym e.0) (ap (λ (i : ℕ). drop i (front ++ (f.held s ++ fields_of fs s))) (first_offset f fs at end c)
        ∙ drop_at front (f.held s ++ fields_of fs s) at n)
        ∙ take_at (f.held s) (fields_of fs s) (length (f.held s)) refl,
    subst (λ (l : List ℕ). All (λ g. part g l ≡ g.held s) fs) (append_assoc front (f.held s) (fields_of fs s))
        (fields_found fs (at + f.size) end s (front ++ f.held s) (others f fs at end c) (length-append front (f.held s) ∙ ap₂ (λ (i j : ℕ). i + j) n e.0) e.1),
  )

  pub fields_length : (fs : List (Field S)) (at end : ℕ) (s : S) → contiguous at fs end ≡ true → All (λ f. length (f.held s) ≡ f.size) fs
      → at + length (fields_of fs s) ≡ end
  unfolding fields_of
  fields_length [] at end s c e = omega (arith, eqb-true at end c)
  fields_length (f ∷ fs) at end s c e =
      let m = length-append (f.held s) (fields_of fs s) in
      let h = fields_length fs (at + f.size) end s (others f fs at end c) e.1 in
      let k = e.0 in
      omega arith

-- the fields of a part of a state come before those behind it
pub fields_in : {S T : Type 0} (inner : T → S) (fs : List (Field S)) (rest : List (Field T)) (t : T)
    → fields_of (fields_within inner fs ++ rest) t ≡ fields_of fs (inner t) ++ fields_of rest t
unfolding fields_of
fields_in inner [] rest t = refl
fields_in inner (f ∷ fs) rest t = ap (λ (l : List ℕ). f.held (inner t) ++ l) (fields_in inner fs rest t) ∙ sym (append_assoc (f.held (inner t)) (fields_of fs (inner t)) (fields_of rest t))
