-- The block with the errors taken away.
-- Assumes nothing.
use mathlib.Core.Path.{◌≡◌, sym, ap, ap₂, ◌∙◌}
use mathlib.Core.Bool.{Bool, true, false}
use mathlib.Core.List.{List, [], ◌∷◌}
use Prim.Native.Nat.{ℕ, suc, ◌+◌, ◌-◌, ◌≤◌, ◌<◌}
use native.Mathlib.Numerals.{add-one}
use native.Mathlib.Omega.{arith}
use borrow.Author.Tests.{eq-eqb, ne_eqb}
use lib.Bits.{bit_xor}
use lib.Dec.{eqb}
use lib.ListN.{length, get_or, take, drop, set, length-set, drop_of_length-le}
use lib.Seq.{drop-cons, length-take-le, get_or-take}
use Rattle.common.specs.Choice.{pick}
use Rattle.error_correction.specs.Correction.{corrected_by, changed_in}

-- what is left to do gives what the whole gives
pub record Correcting (start block degrees values : List ℕ) (count changed l : ℕ) : Type 0 where
  pub most : l ≤ count
  pub len : length block ≡ 204
  pub rest : corrected_by block (drop l (take count degrees)) (drop l (take count values)) ≡ corrected_by start (take count degrees) (take count values)
  pub total : changed + changed_in (drop l (take count values)) ≡ changed_in (take count values)

changed_le : (l : List ℕ) → changed_in l ≤ length l
unfolding changed_in
changed_le [] = omega arith
changed_le (e ∷ l) = go (eqb e 0) (changed_le l)
  where
    go : (b : Bool) → changed_in l ≤ length l → pick b 0 1 + changed_in l ≤ suc (length l)
    go true h = omega arith
    go false h = omega arith

module _ (start block degrees values : List ℕ) (count changed l : ℕ) (n : length degrees ≡ 16) (m : length values ≡ 16) (b : count ≤ 16) (h : l < count)
    (c : Correcting start block degrees values count changed l) where
  front : (k : List ℕ) → length k ≡ 16 → drop l (take count k) ≡ get_or k l 0 ∷ drop (l + 1) (take count k)
  front k e =
      drop-cons (take count k) l 0 (omega (arith, length-take-le count k (omega arith)))
      ∙ ap₂ (λ (x j : ℕ). x ∷ drop j (take count k)) (get_or-take count k l 0 h) (sym (add-one l))

  abbrev place : ℕ
  place = 203 - get_or degrees l 0

  abbrev pub fixed : List ℕ
  fixed = set block place (bit_xor (get_or block place 0) (get_or values l 0))

  rest_next : corrected_by fixed (drop (l + 1) (take count degrees)) (drop (l + 1) (take count values)) ≡ corrected_by start (take count degrees) (take count values)
  unfolding corrected_by
  rest_next = sym (ap₂ (corrected_by block) (front degrees n) (front values m)) ∙ c.rest

  counted : changed + (pick (eqb (get_or values l 0) 0) 0 1 + changed_in (drop (l + 1) (take count values))) ≡ changed_in (take count values)
  unfolding changed_in
  counted = ap (λ (k : List ℕ). changed + changed_in k) (sym (front values m)) ∙ c.total

  pub changed_fits : (get_or values l 0 ≡ 0 → ⊥) → changed + 1 ≤ 16
  changed_fits z =
      omega (arith, rw (ne_eqb (get_or values l 0) 0 z) at counted, changed_le (take count values), length-take-le count values (omega arith))

  pub correcting_same : get_or values l 0 ≡ 0 → Correcting start fixed degrees values count changed (l + 1)
  correcting_same z =
      record {
        most = omega arith;
        len = length-set block place (bit_xor (get_or block place 0) (get_or values l 0)) ∙ c.len;
        rest = rest_next;
        total = omega (arith, rw (eq-eqb (get_or values l 0) 0 z) at counted);
      }

  pub correcting_more : (get_or values l 0 ≡ 0 → ⊥) → Correcting start fixed degrees values count (changed + 1) (l + 1)
  correcting_more z =
      record {
        most = omega arith;
        len = length-set block place (bit_xor (get_or block place 0) (get_or values l 0)) ∙ c.len;
        rest = rest_next;
        total = omega (arith, rw (ne_eqb (get_or values l 0) 0 z) at counted);
      }

module _ (start block degrees values : List ℕ) (count changed l : ℕ) (n : length degrees ≡ 16) (m : length values ≡ 16) (b : count ≤ 16) (h : count ≤ l)
    (c : Correcting start block degrees values count changed l) where
  none_left : (k : List ℕ) → length k ≡ 16 → drop l (take count k) ≡ []
  none_left k e = drop_of_length-le (take count k) {i = l} (omega (arith, length-take-le count k (omega arith)))

  pub correcting_count : changed ≡ changed_in (take count values)
  unfolding changed_in
  correcting_count = omega (arith, ap (λ (k : List ℕ). changed + changed_in k) (sym (none_left values m)) ∙ c.total)

  pub correcting_block : block ≡ corrected_by start (take count degrees) (take count values)
  unfolding corrected_by
  correcting_block = sym (ap₂ (corrected_by block) (none_left degrees n) (none_left values m)) ∙ c.rest
