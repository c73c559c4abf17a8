-- Where 2 e + f is at most sixteen for a codeword, the decoder finds its error: the sixteen syndromes obey the recurrence of the roots found.
-- Assumes nothing.
use mathlib.Core.Path.{◌≡◌, refl, sym, ap, ap₂, ◌∙◌, subst}
use mathlib.Core.List.{List, [], ◌∷◌, map, reverse}
use Prim.Native.Nat.{ℕ, suc, ◌+◌, ◌-◌, ◌*◌, ◌≤◌, ◌<◌, Fin}
use Prim.{tt}
use native.Mathlib.Decide.{dec_lt, ℕ_discrete}
use native.Mathlib.Nat.{zero-add, add-zero as add-zero-ℕ}
use native.Mathlib.Numerals.{add-one}
use native.Mathlib.Omega.{arith}
use borrow.Author.Tests.{eq-eqb}
use lib.ListN.{length, get_or, take, length-map, length-take, length-reverse, get_or-map}
use Rattle.common.specs.Choice.{pick}
use Rattle.common.specs.Lists.{All, Bytes}
use Rattle.common.proofs.Lists.{All-at, All-of}
use Rattle.algebra.specs.Field.{ops}
use Rattle.algebra.specs.Polynomial.{power, eval}
use Rattle.algebra.proofs.Lists.{Away}
use Rattle.algebra.proofs.Ring.{add_zero, one_mul, mul_comm, mul_zero, zero_mul}
use Rattle.algebra.proofs.Polynomial.{from_roots, length_from_roots, from_roots_roots, from_roots_ne}
use Rattle.algebra.proofs.Syndromes.{Term, weight, weighted, dot, dot_ext, dot_take, syndrome, key_marked}
use Rattle.algebra.proofs.Recurrence.{recurrence}
use Rattle.algebra.proofs.Terms.{length_terms, place_at, value_at_lem}
use Rattle.galois.specs.Field256.{pow}
use Rattle.galois.proofs.Instance.{bytes, byte, byte_power, powers_differ}
use Rattle.reed_solomon.specs.Code.{Codeword}
use Rattle.reed_solomon.specs.Marks.{marked, cost}
use Rattle.reed_solomon.specs.Steps.{Recurs}
use Rattle.galois.proofs.Elements.{elements, alpha}
use Rattle.error_locator.specs.Locator.{Located, Modified}
use Rattle.error_correction.specs.Correction.{ByDegree, values_of, roots_of, one_polynomial}
use Rattle.error_correction.proofs.RootSearch.{value_erased, value_kept, value_one}
use Rattle.error_correction.proofs.RootCount.{roots_each, roots_member, All-points, short_value, roots_most}
use Rattle.reed_solomon.proofs.Codewords.{block_syndrome, codeword_length, codeword_bytes, codeword_syndromes}
use Rattle.reed_solomon.proofs.Distance.{difference, difference_length, errors, errors_distinct, errors_syndrome}
use Rattle.reed_solomon.proofs.MarkedDistance.{Covered, weight_unmarked, unmarked_reverse}
use Rattle.reed_solomon.proofs.Residue.{reverse_at}
use Rattle.reed_solomon.proofs.Erasures.{erasures_count}

-- with the erasures the roots of the locator are at most sixteen
pub roots_sixteen : (ts u q marks : List ℕ) (size : ℕ) → length marks ≡ 204 → ByDegree marks u → Located ts size q → 2 * size + marked marks ≤ 16 → length (roots_of u q) ≤ 16
roots_sixteen ts u q marks size lm by loc most = omega (arith, roots_most q size loc.nonzero loc.zeros u, erasures_count marks u lm by)

-- ---- lists

All-unmap : {A B : Type 0} (f : A → B) (P : B → Type 0) (l : List A) → All P (map f l) → All (λ a. P (f a)) l
All-unmap f P [] h = tt
All-unmap f P (x ∷ l) h = (h.0, All-unmap f P l h.1)

-- the places of the roots, as elements of the field
pub places_point : (l : List ℕ) → elements (map (pow 2) l) ≡ map alpha l
places_point [] = refl
places_point (d ∷ l) = ap₂ ◌∷◌ (byte_power 2 d) (places_point l)

point_differs : (i d : ℕ) → i < 204 → d < 204 → (i ≡ d → ⊥) → alpha i ≡ alpha d → ⊥
point_differs i d a b n e = go (dec_lt i d)
  where
    go : Dec (i < d) → ⊥
    go (yes h) = powers_differ i d h (omega arith) (sym e)
    go (no h) = powers_differ d i (omega arith) (omega arith) e

-- ---- marks by degree

point_next : (n : ℕ) → alpha (n + 1) ≡ bytes.mul (alpha n) (byte 2)
unfolding power
point_next n = ap alpha (add-one n) ∙ mul_comm bytes (byte 2) (alpha n)

-- g vanishes at the marked places, counted from degree k on
covered_of : (g : List (Fin 256)) (k : ℕ) (ms : List ℕ) → ((i : ℕ) → i < length ms → (get_or ms i 0 ≡ 0 → ⊥) → eval (ops bytes) g (alpha (k + i)) ≡ bytes.𝟘) → Covered g (alpha k) ms
covered_of g k [] h = tt
covered_of g k (m ∷ ms) h = (
  (λ n. ap (λ (i : ℕ). eval (ops bytes) g (alpha i)) (sym (add-zero-ℕ k)) ∙ h 0 (omega arith) n),
  subst (λ (x : Fin 256). Covered g x ms) (point_next k) (covered_of g (k + 1) ms (λ i l n. ap (λ (j : ℕ). eval (ops bytes) g (alpha j)) (next i) ∙ h (suc i) (omega arith) n)),
)
  where
    next : (i : ℕ) → k + 1 + i ≡ k + suc i
    next i = omega arith

-- ---- the error to a codeword with 2 e + f at most sixteen

module _ (came c : List ℕ) (n : length came ≡ 204) (b : Bytes came) (cw : Codeword c)
    (marks : List ℕ) (lm : length marks ≡ 204) (near : cost marks came c ≤ 16)
    (s : List ℕ) (syndromes : (j : ℕ) → j < 16 → byte (get_or s j 0) ≡ block_syndrome came j)
    (u : List ℕ) (by : ByDegree marks u) (ts : List ℕ) (md : Modified s (map (pow 2) (roots_of u one_polynomial)) ts)
    (size : ℕ) (most : 2 * size + marked marks ≤ 16) (least : 15 ≤ 2 * size + marked marks)
    (q : List ℕ) (loc : Located ts size q) where
  abbrev E : List (Term bytes)
  E = errors came c n (codeword_length c cw) b (codeword_bytes c cw)

  abbrev e : List (Fin 256)
  e = difference came c n (codeword_length c cw) b (codeword_bytes c cw)

  abbrev none : Term bytes
  none = (bytes.𝟘, bytes.𝟘)

  -- the error at degree d
  abbrev g : ℕ → Fin 256
  g d = get_or e d bytes.𝟘

  e_length : length e ≡ 204
  e_length = difference_length came c n (codeword_length c cw) b (codeword_bytes c cw)

  E-length : length E ≡ 204
  E-length = length_terms bytes (byte 2) bytes.𝟙 e ∙ e_length

  E-place : (d : ℕ) → d < 204 → (get_or E d none).0 ≡ alpha d
  E-place d h =
      sym (get_or-map (λ (t : Term bytes). t.0) E d none) ∙ place_at bytes (byte 2) bytes.𝟙 e bytes.𝟘 d (omega (arith, e_length)) ∙ one_mul bytes (alpha d)

  E-value : (d : ℕ) → d < 204 → (get_or E d none).1 ≡ g d
  E-value d h = value_at_lem bytes (byte 2) bytes.𝟙 e none d (omega (arith, e_length))

  E-syndrome : (j : ℕ) → j < 16 → byte (get_or s j 0) ≡ syndrome bytes E j
  E-syndrome j h =
      syndromes j h
      ∙ sym (errors_syndrome came c n (codeword_length c cw) b (codeword_bytes c cw) j ∙ ap (λ (u : Fin 256). bytes.add (block_syndrome came j) u) (codeword_syndromes c cw j h) ∙ add_zero bytes (block_syndrome came j))

  -- ---- the erasures

  abbrev erased_places : List ℕ
  erased_places = map (pow 2) (roots_of u one_polynomial)

  abbrev G : List (Fin 256)
  G = from_roots bytes (elements erased_places)

  erased_points : elements erased_places ≡ map alpha (roots_of u one_polynomial)
  erased_points = places_point (roots_of u one_polynomial)

  erased_number : length erased_places ≡ marked marks
  erased_number = length-map (roots_of u one_polynomial) (pow 2) ∙ erasures_count marks u lm by

  G-length : length G ≡ suc (marked marks)
  G-length = length_from_roots bytes (elements erased_places) ∙ ap suc (length-map erased_places byte ∙ erased_number)

  G-erased : (i : ℕ) → i < 204 → (get_or u i 0 ≡ 0 → ⊥) → eval (ops bytes) G (alpha i) ≡ bytes.𝟘
  G-erased i h z =
      roots_member u one_polynomial (λ d. eval (ops bytes) G (alpha d) ≡ bytes.𝟘)
      (All-unmap alpha (λ y. eval (ops bytes) G y ≡ bytes.𝟘) (roots_of u one_polynomial) (subst (λ (l : List (Fin 256)). All (λ y. eval (ops bytes) G y ≡ bytes.𝟘) l) erased_points (from_roots_roots bytes (elements erased_places)))) i h (value_erased u one_polynomial i h z)

  not_erased : (i : ℕ) → i < 204 → get_or u i 0 ≡ 0 → get_or (values_of u one_polynomial) i 0 ≡ 0 → ⊥
  not_erased i h e z =
      let o : get_or (values_of u one_polynomial) i 0 ≡ 1 = value_one u i h ∙ ap (λ k. pick k 1 0) (eq-eqb (get_or u i 0) 0 e) in
      omega arith

  G-clear : (i : ℕ) → i < 204 → get_or u i 0 ≡ 0 → eval (ops bytes) G (alpha i) ≡ bytes.𝟘 → ⊥
  G-clear i h z =
      from_roots_ne bytes (elements erased_places) (alpha i)
      (subst (Away (alpha i)) (sym erased_points)
      (All-points (λ y. y ≡ alpha i → ⊥) (roots_of u one_polynomial)
      (roots_each u one_polynomial (λ d. alpha d ≡ alpha i → ⊥) (λ k l y. point_differs k i l h (λ e. not_erased k l (ap (λ (j : ℕ). get_or u j 0) e ∙ z) y)))))

  covered : Covered G bytes.𝟙 (reverse marks)
  unfolding power
  covered = covered_of G 0 (reverse marks) (λ i h y. at i (omega (arith, length-reverse marks)) y)
    where
      at : (i : ℕ) → i < 204 → (get_or (reverse marks) i 0 ≡ 0 → ⊥) → eval (ops bytes) G (alpha (0 + i)) ≡ bytes.𝟘
      at i h y =
          ap (λ (j : ℕ). eval (ops bytes) G (alpha j)) (zero-add i)
          ∙ G-erased i h (λ e. y (reverse_at marks i (203 - i) (omega arith) ∙ sym (by.each i h) ∙ e))

  few_unmarked : weight bytes (weighted bytes G E) ≤ size
  few_unmarked =
      omega (
        arith,
        weight_unmarked G bytes.𝟙 (reverse marks) (reverse came) (reverse c)
            (omega (arith, length-reverse marks, length-reverse c, codeword_length c cw)) (omega (arith, length-reverse came, length-reverse c, codeword_length c cw)) covered,
        unmarked_reverse marks came c (lm ∙ sym (codeword_length c cw)) (n ∙ sym (codeword_length c cw)),
      )

  -- ---- the locator

  abbrev Q' : List (Fin 256)
  Q' = take (suc size) (elements q)

  Q'-length : length Q' ≤ suc size
  Q'-length = omega (arith, length-take (suc size) (elements q))

  modified_at : (i : ℕ) → i + marked marks < 16 → dot bytes G (λ k. syndrome bytes E (i + k)) ≡ byte (get_or ts i 0)
  modified_at i h =
      dot_ext bytes G (λ k. syndrome bytes E (i + k)) (λ k. byte (get_or s (i + k) 0)) (λ k l. sym (E-syndrome (i + k) (omega (arith, G-length))))
      ∙ sym (md.each i (omega (arith, erased_number)))

  solution : (j : ℕ) → j < size → dot bytes Q' (λ i. dot bytes G (λ k. syndrome bytes E (j + i + k))) ≡ bytes.𝟘
  solution j h =
      dot_ext bytes Q' (λ i. dot bytes G (λ k. syndrome bytes E (j + i + k))) (λ i. byte (get_or ts (j + i) 0)) (λ i l. modified_at (j + i) (omega (arith, Q'-length)))
      ∙ dot_take bytes (suc size) (elements q) (λ i. byte (get_or ts (j + i) 0)) (λ k l. loc.zeros k l) ∙ loc.equations j h

  located : All (λ t. (t.1 ≡ bytes.𝟘 → ⊥) → (eval (ops bytes) G t.0 ≡ bytes.𝟘 → ⊥) → eval (ops bytes) Q' t.0 ≡ bytes.𝟘) E
  located = key_marked bytes E G Q' size (errors_distinct came c n (codeword_length c cw) b (codeword_bytes c cw)) few_unmarked solution

  -- where there is an error the byte is an erasure or the locator vanishes, so that the degree is listed
  vanishes : (i : ℕ) → i < 204 → (g i ≡ bytes.𝟘 → ⊥) → get_or (values_of u q) i 0 ≡ 0
  vanishes i h z = go (ℕ_discrete (get_or u i 0) 0)
    where
      root : get_or u i 0 ≡ 0 → eval (ops bytes) (elements q) (alpha i) ≡ bytes.𝟘
      root y =
          sym (short_value q size loc.nonzero loc.zeros (alpha i)) ∙ ap (eval (ops bytes) Q') (sym (E-place i h))
          ∙ All-at (λ t. (t.1 ≡ bytes.𝟘 → ⊥) → (eval (ops bytes) G t.0 ≡ bytes.𝟘 → ⊥) → eval (ops bytes) Q' t.0 ≡ bytes.𝟘) E none i located (omega (arith, E-length))
          (λ a. z (sym (E-value i h) ∙ a)) (λ a. G-clear i h y (ap (eval (ops bytes) G) (sym (E-place i h)) ∙ a))

      go : Dec (get_or u i 0 ≡ 0) → get_or (values_of u q) i 0 ≡ 0
      go (yes y) = value_kept u q i h y ∙ ap (λ (v : Fin 256). v.0) (root y)
      go (no y) = value_erased u q i h y

  off : (i : ℕ) → i < 204 → (get_or (values_of u q) i 0 ≡ 0 → ⊥) → g i ≡ bytes.𝟘
  off i h z = go (bytes.dec (g i) bytes.𝟘)
    where
      go : Dec (g i ≡ bytes.𝟘) → g i ≡ bytes.𝟘
      go (yes y) = y
      go (no y) = absurd (z (vanishes i h y))

  -- ---- the roots

  abbrev N : List (Fin 256)
  N = from_roots bytes (elements (map (pow 2) (roots_of u q)))

  N-roots : All (λ d. eval (ops bytes) N (alpha d) ≡ bytes.𝟘) (roots_of u q)
  N-roots =
      All-unmap alpha (λ y. eval (ops bytes) N y ≡ bytes.𝟘) (roots_of u q)
      (subst (λ (l : List (Fin 256)). All (λ y. eval (ops bytes) N y ≡ bytes.𝟘) l) (places_point (roots_of u q)) (from_roots_roots bytes (elements (map (pow 2) (roots_of u q)))))

  -- where there is an error the product over the roots vanishes
  N-errors : All (λ t. bytes.mul t.1 (eval (ops bytes) N t.0) ≡ bytes.𝟘) E
  N-errors = All-of (λ t. bytes.mul t.1 (eval (ops bytes) N t.0) ≡ bytes.𝟘) E none (λ i h. at i (omega (arith, E-length)) (ℕ_discrete (get_or (values_of u q) i 0) 0))
    where
      at : (i : ℕ) → i < 204 → Dec (get_or (values_of u q) i 0 ≡ 0) → bytes.mul (get_or E i none).1 (eval (ops bytes) N (get_or E i none).0) ≡ bytes.𝟘
      at i h (yes z) =
          ap (bytes.mul (get_or E i none).1) (ap (eval (ops bytes) N) (E-place i h) ∙ roots_member u q (λ d. eval (ops bytes) N (alpha d) ≡ bytes.𝟘) N-roots i h z)
          ∙ mul_zero bytes (get_or E i none).1
      at i h (no z) =
          ap (λ (y : Fin 256). bytes.mul y (eval (ops bytes) N (get_or E i none).0)) (E-value i h ∙ off i h z) ∙ zero_mul bytes (eval (ops bytes) N (get_or E i none).0)

  -- so the syndromes obey the recurrence
  pub recurs : Recurs s (map (pow 2) (roots_of u q))
  recurs =
      record {
        each = λ j h.
            dot_ext bytes N (λ k. byte (get_or s (j + k) 0)) (λ k. syndrome bytes E (j + k))
            (λ k l. E-syndrome (j + k) (omega (arith, length_from_roots bytes (elements (map (pow 2) (roots_of u q))), length-map (map (pow 2) (roots_of u q)) byte)))
            ∙ recurrence bytes N E j N-errors;
      }
