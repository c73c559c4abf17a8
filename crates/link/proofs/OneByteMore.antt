-- A burst on any stream: how many bytes of a block it makes wrong, and that 97 bytes can make nine of them wrong.
-- Assumes nothing.
use mathlib.Core.Path.{◌≡◌, refl, sym, ap, ap₂, ◌∙◌}
use mathlib.Core.Bool.{Bool, true, false}
use mathlib.Core.List.{List}
use Prim.Native.Nat.{ℕ, zero, suc, ◌+◌, ◌*◌, ◌≤◌, ◌<◌}
use Prim.{tt}
use native.Mathlib.Nat.{add_assoc}
use native.Mathlib.Decide.{dec_lt}
use native.Mathlib.Omega.{arith}
use borrow.Author.Tests.{eq-eqb, ne_eqb, lt-ltb, le-ltb}
use lib.Dec.{eqb, ltb}
use lib.ListN.{length, get_or}
use Rattle.common.specs.Choice.{pick}
use Rattle.common.proofs.Computed.{agree_at}
use Rattle.common.proofs.Lists.{length_list_of, get_d_list_of}
use Rattle.interleaver.specs.Gathered.{place_in}
use Rattle.link.specs.Places.{how_many, inside}
use Rattle.link.specs.Burst.{wrong_in}
use Rattle.link.specs.Table.{byte_other, harmed}
use Rattle.link.proofs.Places.{count_same, spread}
use Rattle.link.proofs.Bursts.{wrong_count}

-- ---- the bytes of a burst

other_byte : (x : ℕ) → byte_other x ≡ x → ⊥
other_byte zero e = omega arith
other_byte (suc x) e = let f : byte_other (suc x) ≡ 0 = simp (ne_eqb (suc x) 0 (λ z. omega arith)) in omega arith

module _ (start many : ℕ) (sent : List ℕ) where
  pub harmed_length : length (harmed start many sent) ≡ length sent
  unfolding harmed
  harmed_length = length_list_of (length sent) (λ i. pick (inside start many i) (byte_other (get_or sent i 0)) (get_or sent i 0))

  harmed_at : (i : ℕ) → i < length sent → get_or (harmed start many sent) i 0 ≡ pick (inside start many i) (byte_other (get_or sent i 0)) (get_or sent i 0)
  unfolding harmed
  harmed_at i h = get_d_list_of (length sent) (λ j. pick (inside start many j) (byte_other (get_or sent j 0)) (get_or sent j 0)) 0 i h

  -- its bytes are wrong, and no others
  harmed_wrong : (i : ℕ) → i < length sent → pick (eqb (get_or (harmed start many sent) i 0) (get_or sent i 0)) false true ≡ inside start many i
  harmed_wrong i h = rw (harmed_at i h) (by (inside start many i) (get_or sent i 0))
    where
      by : (t : Bool) (x : ℕ) → pick (eqb (pick t (byte_other x) x) x) false true ≡ t
      by true x = rw (ne_eqb (byte_other x) x (other_byte x)) refl
      by false x = rw (eq-eqb x x refl) refl

  -- so those of a block are the ones that lie in it
  pub wrong_inside : (p : ℕ) → 204 * p + 2448 ≤ length sent → wrong_in sent (harmed start many sent) p ≡ how_many (λ n. inside start many (place_in p n)) 204
  wrong_inside p h =
      wrong_count sent (harmed start many sent) p
      ∙ count_same (λ n. pick (eqb (get_or (harmed start many sent) (place_in p n) 0) (get_or sent (place_in p n) 0)) false true)
      (λ n. inside start many (place_in p n)) 204 (λ n l. harmed_wrong (place_in p n) (let k = ((spread p).within n l).1 in omega arith))

-- ---- 97 bytes

-- the same bytes, counted from another one
inside_from : (a start many i : ℕ) → inside (a + start) many (a + i) ≡ inside start many i
inside_from a start many i = ap₂ (λ (t u : Bool). pick t false u) (less i start) (ap (ltb (a + i)) (add_assoc a start many) ∙ less i (start + many))
  where
    less : (x y : ℕ) → ltb (a + x) (a + y) ≡ ltb x y
    less x y = by (dec_lt x y)
      where
        by : Dec (x < y) → ltb (a + x) (a + y) ≡ ltb x y
        by (yes l) = lt-ltb (a + x) (a + y) (omega arith) ∙ sym (lt-ltb x y l)
        by (no l) = le-ltb (a + x) (a + y) (omega arith) ∙ sym (le-ltb x y (omega arith))

-- Nine bytes of one block are within 97 that begin with one of them and end in the same received block.
nine_inside : (p n : ℕ) → n + 97 ≤ 204 → how_many (λ k. inside (place_in p n) 97 (place_in p k)) 204 ≡ 9
nine_inside p n h =
    count_same (λ k. inside (place_in p n) 97 (place_in p k)) (λ k. inside (place_in 0 n) 97 (place_in 0 k)) 204 (λ k l. moved k)
    ∙ agree_at (λ i. how_many (λ k. inside (place_in 0 i) 97 (place_in 0 k)) 204) (λ i. 9) 108 tt n (omega arith)
  where
    moved : (k : ℕ) → inside (place_in p n) 97 (place_in p k) ≡ inside (place_in 0 n) 97 (place_in 0 k)
    moved k =
        let e : place_in p n ≡ 204 * p + place_in 0 n = omega arith in
        let f : place_in p k ≡ 204 * p + place_in 0 k = omega arith in
        ap₂ (λ (i j : ℕ). inside i 97 j) e f ∙ inside_from (204 * p) (place_in 0 n) 97 (place_in 0 k)

-- so they make nine of its bytes wrong, on every stream
pub nine_wrong : (sent : List ℕ) (p n : ℕ) → n + 97 ≤ 204 → 204 * p + 2448 ≤ length sent → wrong_in sent (harmed (place_in p n) 97 sent) p ≡ 9
nine_wrong sent p n h l = wrong_inside (place_in p n) 97 sent p l ∙ nine_inside p n h
