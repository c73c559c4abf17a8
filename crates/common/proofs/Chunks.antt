-- A list cut into chunks of one length: how many there are, the first of them, and the chunks of two lists one after the other.
-- Assumes nothing.
use mathlib.Core.Path.{◌≡◌, refl, ap, ap₂, sym, ◌∙◌}
use mathlib.Core.List.{List, [], ◌∷◌, ◌++◌, flatten}
use Prim.Native.Nat.{ℕ, zero, suc, ◌+◌, ◌-◌, ◌*◌, ◌/◌, ◌%◌, ◌≤◌, ◌<◌}
use Prim.{tt}
use native.Mathlib.Nat.{suc-mul, div-eq_of_lt, div-eq-sub-div, div-mul-le_self, mod-le, mod-eq_of_lt, mod-eq-sub-mod}
use native.Mathlib.Decide.{dec_lt}
use native.Mathlib.Numerals.{add-one}
use native.Mathlib.Omega.{arith}
use lib.ListN.{length, take, drop, length-append, length-drop}
use lib.Seq.{take_at, drop_at, take-append-le, drop-append-le, take-append-add, drop-drop, length-take-le, take_all}
use Rattle.common.specs.Lists.{All, Length, chunks, chunks_of, rest_of}

pub length_first : (size n : ℕ) (l : List ℕ) → length (chunks size n l) ≡ n
unfolding chunks
length_first size zero l = refl
length_first size (suc n) l = ap suc (length_first size n (drop size l))

pub length-chunks : (size : ℕ) (l : List ℕ) → length (chunks_of size l) ≡ length l / size
unfolding chunks_of
length-chunks size l = length_first size (length l / size) l

first_whole : (size n : ℕ) (l : List ℕ) → n * size ≤ length l → All (Length size) (chunks size n l)
unfolding chunks
first_whole size zero l h = tt
first_whole size (suc n) l h =
    let k : n * size + size ≤ length l = rw (← suc-mul n size) h in
    (length-take-le size l (omega arith), first_whole size n (drop size l) (omega (arith, length-drop size l)))

-- each chunk has the length
pub chunks_whole : (size : ℕ) (l : List ℕ) → All (Length size) (chunks_of size l)
unfolding chunks_of
chunks_whole size l = first_whole size (length l / size) l (div-mul-le_self (length l) size)

-- numbers as they stand in the lengths: what is left is r
left_few : (n r : ℕ) → r ≡ n → n - r ≡ 0
left_few n r e = omega arith

left_more : (n s m r : ℕ) → s ≤ n → m ≡ n - s → r ≤ m → n - r ≡ s + (m - r)
left_more n s m r h e l = omega arith

left_is : (n r : ℕ) → r ≤ n → n - (n - r) ≡ r
left_is n r h = omega arith

pub length_rest : (size : ℕ) (l : List ℕ) → length (rest_of size l) ≡ length l % size
unfolding rest_of
length_rest size l = length-drop (length l - length l % size) l ∙ left_is (length l) (length l % size) (mod-le (length l) size)

module _ (size : ℕ) (some : 0 < size) where
  div_more : (n : ℕ) → size ≤ n → n / size ≡ suc ((n - size) / size)
  div_more n h = div-eq-sub-div some h ∙ add-one ((n - size) / size)

  -- no chunk is whole
  pub chunks_few : (l : List ℕ) → length l < size → chunks_of size l ≡ []
  unfolding chunks_of chunks
  chunks_few l h = ap (λ (n : ℕ). chunks size n l) (div-eq_of_lt h)

  pub rest_few : (l : List ℕ) → length l < size → rest_of size l ≡ l
  unfolding rest_of
  rest_few l h = ap (λ (k : ℕ). drop k l) (left_few (length l) (length l % size) (mod-eq_of_lt h))

  -- the first chunk, and those of what is behind it
  pub chunks_more : (l : List ℕ) → size ≤ length l → chunks_of size l ≡ take size l ∷ chunks_of size (drop size l)
  unfolding chunks_of chunks
  chunks_more l h =
      ap (λ (n : ℕ). chunks size n l) (div_more (length l) h ∙ ap (λ (n : ℕ). suc (n / size)) (sym (length-drop size l)))

  pub rest_more : (l : List ℕ) → size ≤ length l → rest_of size l ≡ rest_of size (drop size l)
  unfolding rest_of
  rest_more l h =
      let d = length-drop size l in
      let m : length l % size ≡ length (drop size l) % size = mod-eq-sub-mod h ∙ ap (λ (n : ℕ). n % size) (sym d) in
      ap (λ (k : ℕ). drop k l)
      (ap (λ (r : ℕ). length l - r) m ∙ left_more (length l) size (length (drop size l)) (length (drop size l) % size) h d (mod-le (length (drop size l)) size))
      ∙ sym (drop-drop (length (drop size l) - length (drop size l) % size) size l)

  -- ---- one list after another

  -- The whole chunks of the first, then those of its rest and the second; and the rest is that of the rest and the second.
  pub record Cut (a b : List ℕ) : Type 0 where
    pub chunks_are : chunks_of size (a ++ b) ≡ chunks_of size a ++ chunks_of size (rest_of size a ++ b)
    pub rest_is : rest_of size (a ++ b) ≡ rest_of size (rest_of size a ++ b)

  module _ (a b : List ℕ) where
    cut_few : length a < size → Cut a b
    cut_few h =
        let r = rest_few a h in
        record {
          chunks_are = sym (ap₂ (λ (x : List (List ℕ)) (y : List ℕ). x ++ chunks_of size (y ++ b)) (chunks_few a h) r);
          rest_is = ap (λ (x : List ℕ). rest_of size (x ++ b)) (sym r);
        }

    cut_more : size ≤ length a → Cut (drop size a) b → Cut a b
    cut_more h c =
        let l : size ≤ length (a ++ b) = omega (arith, length-append a b) in
        let t = take-append-le size a b h in
        let d = drop-append-le size a b h in
        let r = rest_more a h in
        record {
          chunks_are =
              chunks_more (a ++ b) l
              ∙ ap₂ (λ (x : List ℕ) (y : List (List ℕ)). x ∷ y) t (ap (chunks_of size) d ∙ c.chunks_are)
              ∙ ap₂ (λ (x : List (List ℕ)) (y : List ℕ). x ++ chunks_of size (y ++ b)) (sym (chunks_more a h)) (sym r);
          rest_is = rest_more (a ++ b) l ∙ ap (rest_of size) d ∙ c.rest_is ∙ ap (λ (x : List ℕ). rest_of size (x ++ b)) (sym r);
        }

  cut_from : (n : ℕ) (a b : List ℕ) → length a ≤ n → Cut a b
  cut_from zero a b e = cut_few a b (omega arith)
  cut_from (suc n) a b e = by (dec_lt (length a) size) (λ (h : size ≤ length a). cut_from n (drop size a) b (omega (arith, length-drop size a)))
    where
      by : Dec (length a < size) → (size ≤ length a → Cut (drop size a) b) → Cut a b
      by (yes h) r = cut_few a b h
      by (no h) r = cut_more a b (omega arith) (r (omega arith))

  pub cut : (a b : List ℕ) → Cut a b
  cut a b = cut_from (length a) a b (omega arith)

  -- where the first is whole chunks, nothing of it is left
  pub chunks-append : (a b : List ℕ) → length a % size ≡ 0 → chunks_of size (a ++ b) ≡ chunks_of size a ++ chunks_of size b
  chunks-append a b e = (cut a b).chunks_are ∙ ap (λ (l : List ℕ). chunks_of size a ++ chunks_of size (l ++ b)) (none (rest_of size a) (length_rest size a ∙ e))
    where
      none : (l : List ℕ) → length l ≡ 0 → l ≡ []
      none [] z = refl
      none (x ∷ l) z = absurd (omega arith)

  -- the first n numbers of chunks, one after the other, make those that are whole in them
  pub chunks_back : (cs : List (List ℕ)) → All (Length size) cs → (n : ℕ) → n ≤ length (flatten cs) → chunks_of size (take n (flatten cs)) ≡ take (n / size) cs
  unfolding flatten
  chunks_back [] g n h =
      let z : n ≡ 0 = omega arith in
      ap (λ (k : ℕ). chunks_of size (take k [])) z ∙ chunks_few [] some ∙ sym (take_all (n / size) [] (omega arith))
  chunks_back (c ∷ cs) g n h = by (dec_lt n size) (λ (l : n - size ≤ length (flatten cs)). chunks_back cs g.1 (n - size) l)
    where
      by : Dec (n < size) → (n - size ≤ length (flatten cs) → chunks_of size (take (n - size) (flatten cs)) ≡ take ((n - size) / size) cs)
          → chunks_of size (take n (c ++ flatten cs)) ≡ take (n / size) (c ∷ cs)
      by (yes l) r =
          chunks_few (take n (c ++ flatten cs)) (omega (arith, length-take-le n (c ++ flatten cs) h)) ∙ ap (λ (k : ℕ). take k (c ∷ cs)) (sym (div-eq_of_lt l))
      by (no l) r =
          let e : length c + (n - size) ≡ n = omega (arith, g.0) in
          let s : take n (c ++ flatten cs) ≡ c ++ take (n - size) (flatten cs)
          = ap (λ (k : ℕ). take k (c ++ flatten cs)) (sym e) ∙ take-append-add c (flatten cs) (n - size) in
          let m : n - size ≤ length (flatten cs) = omega (arith, length-append c (flatten cs)) in
          ap (chunks_of size) s
          ∙ chunks_more (c ++ take (n - size) (flatten cs)) (omega (arith, length-append c (take (n - size) (flatten cs)), g.0))
          ∙ ap₂ (λ (x : List ℕ) (y : List (List ℕ)). x ∷ y) (take_at c (take (n - size) (flatten cs)) size g.0)
          (ap (chunks_of size) (drop_at c (take (n - size) (flatten cs)) size g.0) ∙ r m)
          ∙ ap (λ (k : ℕ). take k (c ∷ cs)) (sym (div_more n (omega arith)))

  -- chunks, one after the other, are cut into these chunks
  pub chunks_joined : (cs : List (List ℕ)) → All (Length size) cs → chunks_of size (flatten cs) ≡ cs
  unfolding flatten
  chunks_joined [] g = chunks_few [] some
  chunks_joined (c ∷ cs) g =
      chunks_more (c ++ flatten cs) (omega (arith, length-append c (flatten cs), g.0))
      ∙ ap₂ (λ (x : List ℕ) (y : List (List ℕ)). x ∷ y) (take_at c (flatten cs) size g.0)
      (ap (chunks_of size) (drop_at c (flatten cs) size g.0) ∙ chunks_joined cs g.1)
