-- The bytes of one branch: in a block, and as a loop writes them, twelve places apart.
-- Assumes nothing.
use mathlib.Core.Path.{◌≡◌, ap, ◌∙◌, sym}
use mathlib.Core.List.{List, ◌∷◌}
use Prim.Native.Nat.{ℕ, ◌+◌, ◌*◌, ◌<◌}
use native.Mathlib.Numerals.{add-one}
use native.Mathlib.Omega.{arith}
use lib.ListN.{length, get_or, drop, set, length-set}
use lib.Seq.{drop-cons, drop-length}
use Rattle.common.proofs.Lists.{length_list_of, get_d_list_of}
use Rattle.interleaver.specs.Column.{column, scattered}

pub length_column : (j : ℕ) (block : List ℕ) → length (column j block) ≡ 17
unfolding column
length_column j block = length_list_of 17 (λ k. get_or block (12 * k + j) 0)

pub get_d_column : (j : ℕ) (block : List ℕ) (k : ℕ) → k < 17 → get_or (column j block) k 0 ≡ get_or block (12 * k + j) 0
unfolding column
get_d_column j block k h = get_d_list_of 17 (λ i. get_or block (12 * i + j) 0) 0 k h

-- k of the bytes of branch j are written; r is the output now
pub record Placing (j : ℕ) (bs d : List ℕ) (r : List ℕ) (k : ℕ) : Type 0 where
  pub rest : scattered (12 * k + j) (drop k bs) r ≡ scattered j bs d
  pub same : length r ≡ length d

pub placing_more : {j : ℕ} {bs d r : List ℕ} {k : ℕ} → Placing j bs d r k → (v : ℕ) → k < length bs → v ≡ get_or bs k 0
    → Placing j bs d (set r (12 * k + j) v) (k + 1)
unfolding scattered
placing_more {j} {bs} {d} {r} {k} g v h e = record {
  rest =
      ap (λ (n : ℕ). scattered n (drop (k + 1) bs) (set r (12 * k + j) v)) next
      ∙ ap (λ (x : ℕ). scattered (12 * k + j + 12) (drop (k + 1) bs) (set r (12 * k + j) x)) e
      ∙ sym (ap (λ (l : List ℕ). scattered (12 * k + j) l r) here)
      ∙ g.rest;
  same = length-set r (12 * k + j) v ∙ g.same;
}
  where
    next : 12 * (k + 1) + j ≡ 12 * k + j + 12
    next = omega arith

    here : drop k bs ≡ get_or bs k 0 ∷ drop (k + 1) bs
    here = drop-cons bs k 0 h ∙ ap (λ (n : ℕ). get_or bs k 0 ∷ drop n bs) (sym (add-one k))

pub placing_all : {j : ℕ} {bs d r : List ℕ} {k : ℕ} → Placing j bs d r k → length bs ≡ k → r ≡ scattered j bs d
unfolding scattered
placing_all {j} {bs} {d} {r} {k} g e =
    sym (ap (λ (l : List ℕ). scattered (12 * k + j) l r) (ap (λ (n : ℕ). drop n bs) (sym e) ∙ drop-length bs)) ∙ g.rest
