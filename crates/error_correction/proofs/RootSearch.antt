-- The values of the locator at every place, and the list of its zeros.
-- Assumes nothing.
use mathlib.Core.Path.{◌≡◌, refl, sym, ap, ap₂, ◌∙◌, subst}
use mathlib.Core.List.{List, [], ◌∷◌, ◌++◌, map, append_assoc, append-nil}
use Prim.Native.Nat.{ℕ, zero, suc, ◌+◌, ◌-◌, ◌≤◌, ◌<◌, Fin}
use Prim.{tt}
use native.Mathlib.Nat.{zero-add, add-zero}
use native.Mathlib.Numerals.{add-one}
use native.Mathlib.Decide.{ℕ_discrete}
use native.Mathlib.Omega.{arith}
use borrow.Author.Tests.{eq-eqb, ne_eqb}
use lib.Dec.{eqb, lit<}
use lib.ListN.{length, get_or, take, drop, set, replicate, length-append, length-take, length-drop, length-set, take-append-drop}
use lib.Seq.{get_or-take, get_or-drop, take-suc, take-suc-set, take_all, take-add, length-take-le, ext_get_or}
use mathlib.Core.Bool.{Bool}
use Rattle.common.specs.Choice.{pick}
use Rattle.common.proofs.Lists.{length_list_of, get_d_list_of, zeros_at}
use Rattle.algebra.specs.Field.{ops}
use Rattle.algebra.specs.Polynomial.{eval}
use Rattle.algebra.proofs.Ring.{zero_add as field-zero-add, add_zero as field-add-zero, mul_zero as field-mul-zero}
use Rattle.galois.specs.Field256.{pow}
use Rattle.galois.proofs.Instance.{bytes, byte, byte_val, byte_zero}
use Rattle.galois.specs.Lanes.{PowersFrom, ValuesAt}
use Rattle.galois.proofs.Elements.{elements, alpha}
use Rattle.galois.proofs.LanePowers.{powers_at, values_bytes}
use Rattle.error_correction.specs.Correction.{EndsAt, masked, Masked, values_of, zeros_from, NoZero, Listed, roots_of, one_polynomial, FoundRoots}

-- ---- the degree

-- coefficients that are zero from place n on
abbrev pub Zeros : List ℕ → ℕ → Type 0
Zeros p n = (k : ℕ) → n ≤ k → get_or p k 0 ≡ 0

eval_zeros : (p : List ℕ) (y : Fin 256) → Zeros p 0 → eval (ops bytes) (elements p) y ≡ bytes.𝟘
unfolding eval
eval_zeros [] y h = refl
eval_zeros (a ∷ p) y h =
    ap₂ (λ (u v : Fin 256). bytes.add u (bytes.mul y v)) (ap byte (h 0 (omega arith)) ∙ byte_zero) (eval_zeros p y (λ k l. h (suc k) (omega arith)))
    ∙ field-zero-add bytes (bytes.mul y bytes.𝟘) ∙ field-mul-zero bytes y

eval_cut : (n : ℕ) (p : List ℕ) (y : Fin 256) → Zeros p n → eval (ops bytes) (elements p) y ≡ eval (ops bytes) (elements (take n p)) y
unfolding eval
eval_cut zero p y h = eval_zeros p y h
eval_cut (suc n) [] y h = refl
eval_cut (suc n) (a ∷ p) y h = ap (λ (u : Fin 256). bytes.add (byte a) (bytes.mul y u)) (eval_cut n p y (λ k l. h (suc k) (omega arith)))

-- the coefficients up to the degree, of nine
pub ends_of : (q : List ℕ) (d : ℕ) → length q ≡ 9 → EndsAt (take 9 q) d → EndsAt q d
ends_of q d n e = subst (λ (l : List ℕ). EndsAt l d) (take_all 9 q (omega arith)) e

-- ---- sixteen values

pub length_values : (u q : List ℕ) → length (values_of u q) ≡ 204
unfolding values_of
length_values u q = length_list_of 204 (λ (i : ℕ). masked (get_or u i 0) (eval (ops bytes) (elements q) (alpha i)).0)

pub value_at_lem : (u q : List ℕ) (i : ℕ) → i < 204 → get_or (values_of u q) i 0 ≡ masked (get_or u i 0) (eval (ops bytes) (elements q) (alpha i)).0
unfolding values_of
value_at_lem u q i h = get_d_list_of 204 (λ (i : ℕ). masked (get_or u i 0) (eval (ops bytes) (elements q) (alpha i)).0) 0 i h

-- at an erasure the value is zero, elsewhere it is that of the polynomial
pub value_erased : (u q : List ℕ) (i : ℕ) → i < 204 → (get_or u i 0 ≡ 0 → ⊥) → get_or (values_of u q) i 0 ≡ 0
value_erased u q i h e = value_at_lem u q i h ∙ ap (λ b. pick b (eval (ops bytes) (elements q) (alpha i)).0 0) (ne_eqb (get_or u i 0) 0 e)

pub value_kept : (u q : List ℕ) (i : ℕ) → i < 204 → get_or u i 0 ≡ 0 → get_or (values_of u q) i 0 ≡ (eval (ops bytes) (elements q) (alpha i)).0
value_kept u q i h e = value_at_lem u q i h ∙ ap (λ b. pick b (eval (ops bytes) (elements q) (alpha i)).0 0) (eq-eqb (get_or u i 0) 0 e)

eval_one : (y : Fin 256) → eval (ops bytes) (elements one_polynomial) y ≡ byte 1
unfolding eval
eval_one y =
    ap (λ (v : Fin 256). bytes.add (byte 1) (bytes.mul y v)) (eval_zeros (replicate 8 0) y (λ k h. zeros_at 8 k))
    ∙ ap (bytes.add (byte 1)) (field-mul-zero bytes y) ∙ field-add-zero bytes (byte 1)

-- the polynomial 1 is zero at the erasures alone
pub value_one : (u : List ℕ) (i : ℕ) → i < 204 → get_or (values_of u one_polynomial) i 0 ≡ masked (get_or u i 0) 1
value_one u i h = value_at_lem u one_polynomial i h ∙ ap (λ (v : Fin 256). masked (get_or u i 0) v.0) (eval_one (alpha i)) ∙ ap (masked (get_or u i 0)) (byte_val 1 (lit< tt))

module _ (u q x v w : List ℕ) (i d : ℕ) (h : i ≤ 204) (p : PowersFrom i x) (g : ValuesAt (take (d + 1) q) x v) (z : EndsAt q d)
    (k : Masked (take 16 (drop i u)) v w) (lw : length w ≡ 16) where
  lane_value : (j : ℕ) → j < 16 → get_or v j 0 ≡ (eval (ops bytes) (elements q) (alpha (i + j))).0
  lane_value j l =
      sym (byte_val (get_or v j 0) (g.small j l))
      ∙ ap (λ (u : Fin 256). u.0)
      (values_bytes g j l ∙ sym (eval_cut (d + 1) q (byte (get_or x j 0)) (λ k b. z.zeros k (omega arith))) ∙ ap (eval (ops bytes) (elements q)) (powers_at i x p j l))

  lane_mark : (j : ℕ) → j < 16 → get_or (take 16 (drop i u)) j 0 ≡ get_or u (i + j) 0
  lane_mark j l = get_or-take 16 (drop i u) j 0 l ∙ get_or-drop i u j 0

  -- the lanes below degree 204 are the next of the values
  pub lanes_next : take (204 - i) w ≡ take 16 (drop i (values_of u q))
  lanes_next = ext_get_or 0 (take (204 - i) w) (take 16 (drop i (values_of u q))) size each
    where
      size : length (take (204 - i) w) ≡ length (take 16 (drop i (values_of u q)))
      size = omega (arith, length-take (204 - i) w, length-take 16 (drop i (values_of u q)), length-drop i (values_of u q), length_values u q)

      each : (j : ℕ) → j < length (take (204 - i) w) → get_or (take (204 - i) w) j 0 ≡ get_or (take 16 (drop i (values_of u q))) j 0
      each j l =
          let a : j < 204 - i = omega (arith, length-take (204 - i) w) in
          let b : j < 16 = omega (arith, length-take (204 - i) w) in
          get_or-take (204 - i) w j 0 a ∙ k.each j b ∙ ap₂ masked (lane_mark j b) (lane_value j b)
          ∙ sym (get_or-take 16 (drop i (values_of u q)) j 0 b ∙ get_or-drop i (values_of u q) j 0 ∙ value_at_lem u q (i + j) (omega arith))

-- ---- the zeros of a list

pub map_join : {A B : Type 0} (f : A → B) (a b : List A) → map f (a ++ b) ≡ map f a ++ map f b
map_join f [] b = refl
map_join {B = B} f (x ∷ a) b = ap (λ (l : List B). f x ∷ l) (map_join f a b)

zeros_append : (n : ℕ) (a b : List ℕ) → zeros_from n (a ++ b) ≡ zeros_from n a ++ zeros_from (n + length a) b
unfolding zeros_from
zeros_append n [] b = ap (λ (k : ℕ). zeros_from k b) (sym (add-zero n))
zeros_append n (x ∷ a) b =
    ap (λ (l : List ℕ). pick (eqb x 0) (n ∷ []) [] ++ l) (zeros_append (n + 1) a b)
    ∙ sym (append_assoc (pick (eqb x 0) (n ∷ []) []) (zeros_from (n + 1) a) (zeros_from (n + 1 + length a) b))
    ∙ ap (λ (k : ℕ). (pick (eqb x 0) (n ∷ []) [] ++ zeros_from (n + 1) a) ++ zeros_from k b) shift
  where
    shift : n + 1 + length a ≡ n + suc (length a)
    shift = omega arith

-- one element more
zeros_more : (n : ℕ) (v : List ℕ) (l : ℕ) → l < length v → zeros_from n (take (l + 1) v) ≡ zeros_from n (take l v) ++ pick (eqb (get_or v l 0) 0) ((n + l) ∷ []) []
unfolding zeros_from
zeros_more n v l h =
    ap (λ (k : ℕ). zeros_from n (take k v)) (add-one l) ∙ ap (zeros_from n) (take-suc v l 0 h) ∙ zeros_append n (take l v) (get_or v l 0 ∷ [])
    ∙ ap (λ (k : ℕ). zeros_from n (take l v) ++ (pick (eqb (get_or v l 0) 0) ((n + k) ∷ []) [] ++ [])) (length-take-le l v (omega arith))
    ∙ ap (λ (m : List ℕ). zeros_from n (take l v) ++ m) (append-nil (pick (eqb (get_or v l 0) 0) ((n + l) ∷ []) []))

-- a front has no more
zeros_front : (n i : ℕ) (v : List ℕ) → length (zeros_from n (take i v)) ≤ length (zeros_from n v)
zeros_front n i v =
    omega (
      arith,
      ap (λ (l : List ℕ). length (zeros_from n l)) (sym (take-append-drop i v)),
      ap length (zeros_append n (take i v) (drop i v)),
      length-append (zeros_from n (take i v)) (zeros_from (n + length (take i v)) (drop i v)),
    )

-- two functions that agree at the places agree at the zeros
zeros_map : (f g : ℕ → ℕ) (n : ℕ) (v : List ℕ) → ((j : ℕ) → j < length v → f (n + j) ≡ g (n + j)) → map f (zeros_from n v) ≡ map g (zeros_from n v)
unfolding zeros_from
zeros_map f g n [] h = refl
zeros_map f g n (x ∷ v) h = go (ℕ_discrete x 0) (zeros_map f g (n + 1) v (λ j l. ap f (shift j) ∙ h (suc j) (omega arith) ∙ ap g (sym (shift j))))
  where
    shift : (j : ℕ) → n + 1 + j ≡ n + suc j
    shift j = omega arith

    go : Dec (x ≡ 0) → map f (zeros_from (n + 1) v) ≡ map g (zeros_from (n + 1) v) → map f (pick (eqb x 0) (n ∷ []) [] ++ zeros_from (n + 1) v) ≡ map g (pick (eqb x 0) (n ∷ []) [] ++ zeros_from (n + 1) v)
    go (yes e) r = rw (eq-eqb x 0 e) (ap₂ ◌∷◌ (ap f (sym (add-zero n)) ∙ h 0 (omega arith) ∙ ap g (add-zero n)) r)
    go (no e) r = rw (ne_eqb x 0 e) r

-- ---- the loop over sixteen values

-- the zeros among the first l of the values v are listed
pub record ListedTo (degrees places : List ℕ) (count : ℕ) (v x : List ℕ) (i : ℕ) (degrees' places' : List ℕ) (count' l : ℕ) : Type 0 where
  pub degrees_len : length degrees' ≡ 16
  pub places_len : length places' ≡ 16
  pub all : Listed degrees places count (take l v) x i degrees' places' count'

pub listed_none : (degrees places : List ℕ) (count : ℕ) (v x : List ℕ) (i : ℕ) → length degrees ≡ 16 → length places ≡ 16 → ListedTo degrees places count v x i degrees places count 0
unfolding zeros_from
listed_none degrees places count v x i a b =
    record { degrees_len = a; places_len = b; all = record { number = omega arith; listed = sym (append-nil (take count degrees)); placed = sym (append-nil (take count places)) } }

module _ (degrees places : List ℕ) (count : ℕ) (v x : List ℕ) (i : ℕ) (degrees' places' : List ℕ) (count' l : ℕ) (s : ListedTo degrees places count v x i degrees' places' count' l) where
  -- the same list of zeros
  same : zeros_from i (take l v) ≡ zeros_from i (take (l + 1) v) → ListedTo degrees places count v x i degrees' places' count' (l + 1)
  same e =
      record {
        degrees_len = s.degrees_len;
        places_len = s.places_len;
        all =
            record {
              number = s.all.number ∙ ap (λ (m : List ℕ). count + length m) e;
              listed = s.all.listed ∙ ap (λ (m : List ℕ). take count degrees ++ m) e;
              placed = s.all.placed ∙ ap (λ (m : List ℕ). take count places ++ map (λ d. get_or x (d - i) 0) m) e;
            };
      }

  pub listed_past : length v ≤ l → ListedTo degrees places count v x i degrees' places' count' (l + 1)
  listed_past h = same (ap (zeros_from i) (take_all l v h ∙ sym (take_all (l + 1) v (omega arith))))

  pub listed_skip : l < length v → (get_or v l 0 ≡ 0 → ⊥) → ListedTo degrees places count v x i degrees' places' count' (l + 1)
  listed_skip h z = same (sym (append-nil (zeros_from i (take l v))) ∙ sym (zeros_more i v l h ∙ ap (λ b. zeros_from i (take l v) ++ pick b ((i + l) ∷ []) []) (ne_eqb _ _ z)))

  module _ (h : l < length v) (z : get_or v l 0 ≡ 0) where
    one_more : zeros_from i (take l v) ++ (i + l) ∷ [] ≡ zeros_from i (take (l + 1) v)
    one_more = sym (zeros_more i v l h ∙ ap (λ b. zeros_from i (take l v) ++ pick b ((i + l) ∷ []) []) (eq-eqb _ _ z))

    pub listed_fits : count + length (zeros_from i v) ≤ 16 → count' < 16
    listed_fits r =
        omega (arith, s.all.number, ap length one_more, length-append (zeros_from i (take l v)) ((i + l) ∷ []), zeros_front i (l + 1) v)

    pub listed_more : count + length (zeros_from i v) ≤ 16 → ListedTo degrees places count v x i (set degrees' count' (i + l)) (set places' count' (get_or x l 0)) (count' + 1) (l + 1)
    listed_more r =
        record {
          degrees_len = length-set degrees' count' (i + l) ∙ s.degrees_len;
          places_len = length-set places' count' (get_or x l 0) ∙ s.places_len;
          all =
              record {
                number = omega (arith, s.all.number, ap length one_more, length-append (zeros_from i (take l v)) ((i + l) ∷ []));
                listed =
                    ap (λ (k : ℕ). take k (set degrees' count' (i + l))) (add-one count') ∙ take-suc-set degrees' count' (i + l) (omega (arith, s.degrees_len, listed_fits r))
                    ∙ ap (λ (m : List ℕ). m ++ (i + l) ∷ []) s.all.listed ∙ append_assoc (take count degrees) (zeros_from i (take l v)) ((i + l) ∷ [])
                    ∙ ap (λ (m : List ℕ). take count degrees ++ m) one_more;
                placed =
                    ap (λ (k : ℕ). take k (set places' count' (get_or x l 0))) (add-one count') ∙ take-suc-set places' count' (get_or x l 0) (omega (arith, s.places_len, listed_fits r))
                    ∙ ap (λ (m : List ℕ). m ++ get_or x l 0 ∷ []) s.all.placed
                    ∙ append_assoc (take count places) (map (λ d. get_or x (d - i) 0) (zeros_from i (take l v))) (get_or x l 0 ∷ [])
                    ∙ ap (λ (m : List ℕ). take count places ++ m)
                    (ap (λ (k : ℕ). map (λ d. get_or x (d - i) 0) (zeros_from i (take l v)) ++ get_or x k 0 ∷ []) place
                    ∙ sym (map_join (λ d. get_or x (d - i) 0) (zeros_from i (take l v)) ((i + l) ∷ [])) ∙ ap (map (λ d. get_or x (d - i) 0)) one_more);
              };
        }
      where
        place : l ≡ i + l - i
        place = omega arith

-- ---- the loop over all places

empty : (l : List ℕ) → length l ≡ 0 → l ≡ []
empty [] h = refl
empty (a ∷ l) h = absurd (omega arith)

-- the roots among the first i degrees are listed, and x has the next places
pub record Searched (u q degrees places : List ℕ) (count i : ℕ) : Type 0 where
  pub number : count ≡ length (zeros_from 0 (take i (values_of u q)))
  pub listed : take count degrees ≡ zeros_from 0 (take i (values_of u q))
  pub placed : take count places ≡ map (pow 2) (zeros_from 0 (take i (values_of u q)))

pub searched_none : (u q : List ℕ) → Searched u q (replicate 16 0) (replicate 16 0) 0 0
unfolding zeros_from
searched_none u q = record { number = refl; listed = refl; placed = refl }

module _ (u q degrees places : List ℕ) (count i : ℕ) (s : Searched u q degrees places count i) where
  module _ (v x : List ℕ) (h : i < 204) (p : PowersFrom i x) (e : v ≡ take 16 (drop i (values_of u q))) where
    more : zeros_from 0 (take (i + 16) (values_of u q)) ≡ zeros_from 0 (take i (values_of u q)) ++ zeros_from i v
    more =
        ap (zeros_from 0) (take-add i 16 (values_of u q)) ∙ zeros_append 0 (take i (values_of u q)) (take 16 (drop i (values_of u q)))
        ∙ ap₂ (λ (k : ℕ) (l : List ℕ). zeros_from 0 (take i (values_of u q)) ++ zeros_from k l)
        (zero-add (length (take i (values_of u q))) ∙ length-take-le i (values_of u q) (omega (arith, length_values u q))) (sym e)

    pub searched_fits : length (roots_of u q) ≤ 16 → count + length (zeros_from i v) ≤ 16
    searched_fits r =
        omega (arith, s.number, ap length more, length-append (zeros_from 0 (take i (values_of u q))) (zeros_from i v), zeros_front 0 (i + 16) (values_of u q))

    pub searched_more : (degrees' places' : List ℕ) (count' : ℕ) → Listed degrees places count v x i degrees' places' count' → Searched u q degrees' places' count' (i + 16)
    searched_more degrees' places' count' l =
        record {
          number = omega (arith, l.number, s.number, ap length more, length-append (zeros_from 0 (take i (values_of u q))) (zeros_from i v));
          listed = l.listed ∙ ap (λ (m : List ℕ). m ++ zeros_from i v) s.listed ∙ sym more;
          placed =
              l.placed ∙ ap₂ ◌++◌ s.placed (zeros_map (λ d. get_or x (d - i) 0) (pow 2) i v power_at)
              ∙ sym (map_join (pow 2) (zeros_from 0 (take i (values_of u q))) (zeros_from i v)) ∙ ap (map (pow 2)) (sym more);
        }
      where
        power_at : (j : ℕ) → j < length v → get_or x (i + j - i) 0 ≡ pow 2 (i + j)
        power_at j b =
            let k : i + j - i ≡ j = omega arith in
            ap (λ (m : ℕ). get_or x m 0) k ∙ p.each j (omega (arith, ap length e, length-take 16 (drop i (values_of u q))))

  pub searched_all : 204 ≤ i → FoundRoots u q degrees places count
  searched_all h =
      let e : take i (values_of u q) ≡ values_of u q = take_all i (values_of u q) (omega (arith, length_values u q)) in
      record {
        number = s.number ∙ ap (λ (l : List ℕ). length (zeros_from 0 l)) e;
        listed = s.listed ∙ ap (zeros_from 0) e;
        placed = s.placed ∙ ap (λ (l : List ℕ). map (pow 2) (zeros_from 0 l)) e;
      }

  -- as many as there can be: the rest has none
  pub searched_stop : length (roots_of u q) ≤ count → FoundRoots u q degrees places count
  searched_stop h = record { number = s.number ∙ ap length e; listed = s.listed ∙ e; placed = s.placed ∙ ap (map (pow 2)) e }
    where
      rest : List ℕ
      rest = zeros_from (0 + length (take i (values_of u q))) (drop i (values_of u q))

      whole : roots_of u q ≡ zeros_from 0 (take i (values_of u q)) ++ rest
      whole = ap (zeros_from 0) (sym (take-append-drop i (values_of u q))) ∙ zeros_append 0 (take i (values_of u q)) (drop i (values_of u q))

      none : rest ≡ []
      none = empty rest (omega (arith, s.number, ap length whole, length-append (zeros_from 0 (take i (values_of u q))) rest))

      e : zeros_from 0 (take i (values_of u q)) ≡ roots_of u q
      e = sym (append-nil (zeros_from 0 (take i (values_of u q)))) ∙ ap (λ (l : List ℕ). zeros_from 0 (take i (values_of u q)) ++ l) (sym none) ∙ sym whole

-- ---- sixteen lanes none of which is zero

zeros_none : (i : ℕ) (l : List ℕ) → ((j : ℕ) → j < length l → get_or l j 0 ≡ 0 → ⊥) → zeros_from i l ≡ []
unfolding zeros_from
zeros_none i [] h = refl
zeros_none i (x ∷ l) h =
    ap (λ (b : Bool). pick b (i ∷ []) [] ++ zeros_from (i + 1) l) (ne_eqb x 0 (h 0 (omega arith)))
    ∙ zeros_none (i + 1) l (λ j k. h (suc j) (omega arith))

pub listed_nothing : (degrees places : List ℕ) (count : ℕ) (v x : List ℕ) (i : ℕ) → length v ≡ 16 → NoZero v → Listed degrees places count (take (204 - i) v) x i degrees places count
listed_nothing degrees places count v x i n z =
    let e : zeros_from i (take (204 - i) v) ≡ [] = zeros_none i (take (204 - i) v) (λ j k q. z.each j (omega (arith, length-take (204 - i) v)) (sym (get_or-take (204 - i) v j 0 (omega (arith, length-take (204 - i) v))) ∙ q)) in
    record {
      number = rw e (sym (add-zero count));
      listed = rw e (sym (append-nil (take count degrees)));
      placed = rw e (sym (append-nil (take count places)));
    }

-- the zeros among the first j lanes, counted
pub record Counted (v : List ℕ) (n j : ℕ) : Type 0 where
  pub most : j ≤ 16
  pub few : n ≤ j
  pub none : n ≡ 0 → (k : ℕ) → k < j → get_or v k 0 ≡ 0 → ⊥
