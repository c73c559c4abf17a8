-- The Hamming distance of blocks, and that two codewords which differ in at most sixteen bytes are one.
-- Assumes nothing.
use mathlib.Core.Path.{◌≡◌, refl, sym, ap, ap₂, ◌∙◌}
use mathlib.Core.List.{List, [], ◌∷◌, ◌++◌, reverse, reverse-cons, reverse-reverse}
use Prim.Native.Nat.{ℕ, ◌+◌, ◌≤◌, ◌<◌, Fin}
use Prim.{tt}
use native.Mathlib.Decide.{ℕ_discrete, dec_lt}
use native.Mathlib.Omega.{arith}
use borrow.Author.Tests.{eq-eqb, ne_eqb}
use lib.Bits.{bit_xor, xor_comm, xor_zero_r, xor_self}
use lib.ListN.{length, length-reverse}
use Rattle.common.specs.Lists.{Bytes}
use Rattle.common.proofs.Xor.{xor_undo}
use Rattle.algebra.specs.Field.{ops}
use Rattle.algebra.specs.Polynomial.{eval, plus}
use Rattle.algebra.proofs.Ring.{add_eq_zero, eq_of_add, add_self}
use Rattle.algebra.proofs.Polynomial.{Zero, equal_of_zero, eval_plus, length_plus_max}
use Rattle.algebra.proofs.Syndromes.{Term, AllZero, keep, support, weight, syndrome, vandermonde_weight}
use Rattle.algebra.proofs.Terms.{terms, distinct_terms, word_syndrome}
use Rattle.galois.proofs.Instance.{bytes, byte, byte_inj, powers_differ}
use Rattle.common.specs.Choice.{unequal}
use Rattle.common.proofs.Choice.{unequal_le}
use Rattle.reed_solomon.specs.Code.{Codeword, distance, differ, changes}
use Rattle.reed_solomon.specs.Decode.{Accepted}
use Rattle.reed_solomon.specs.declared.Changed.{Changed}
use Rattle.galois.proofs.Elements.{elements, word, alpha}
use Rattle.galois.proofs.Words.{length_word, elements_inj, bytes_reverse}
use Rattle.reed_solomon.proofs.Codewords.{codeword_length, codeword_bytes, codeword_syndromes}

-- ---- the distance

pub unequal_same : (x y : ℕ) → x ≡ y → unequal x y ≡ 0
unequal_same x y e = simp (eq-eqb x y e)

pub unequal_other : (x y : ℕ) → (x ≡ y → ⊥) → unequal x y ≡ 1
unequal_other x y n = simp (ne_eqb x y n)

xor_none : (x e : ℕ) → x ≡ bit_xor x e → e ≡ 0
xor_none x e h = sym (xor_undo e x) ∙ ap (λ (k : ℕ). bit_xor k x) (xor_comm e x ∙ sym h) ∙ xor_self x

-- an error takes a number as far from itself as the error is from zero
pub unequal_xor : (x e : ℕ) → unequal x (bit_xor x e) ≡ unequal e 0
unequal_xor x e = go (ℕ_discrete e 0)
  where
    go : Dec (e ≡ 0) → unequal x (bit_xor x e) ≡ unequal e 0
    go (yes z) = unequal_same x (bit_xor x e) (sym (ap (bit_xor x) z ∙ xor_zero_r x)) ∙ sym (unequal_same e 0 z)
    go (no z) = unequal_other x (bit_xor x e) (λ h. z (xor_none x e h)) ∙ sym (unequal_other e 0 z)

-- a list is not apart from itself, where its elements are not
pub distance_none : (d : ℕ → ℕ → ℕ) → ((x : ℕ) → d x x ≡ 0) → (a : List ℕ) → distance d a a ≡ 0
unfolding distance
distance_none d none [] = refl
distance_none d none (x ∷ a) = omega (arith, none x, distance_none d none a)

pub differ_none : (a : List ℕ) → differ a a ≡ 0
unfolding differ
differ_none a = distance_none unequal (λ x. unequal_same x x refl) a

pub differ_le : (a b : List ℕ) → differ a b ≤ length a
unfolding differ distance
differ_le [] b = omega arith
differ_le (x ∷ a) [] = omega arith
differ_le (x ∷ a) (y ∷ b) = omega (arith, unequal_le x y, differ_le a b)

unequal_sym : (x y : ℕ) → unequal x y ≡ unequal y x
unequal_sym x y = go (ℕ_discrete x y)
  where
    go : Dec (x ≡ y) → unequal x y ≡ unequal y x
    go (yes e) = unequal_same x y e ∙ sym (unequal_same y x (sym e))
    go (no n) = unequal_other x y n ∙ sym (unequal_other y x (λ e. n (sym e)))

differ_sym : (a b : List ℕ) → differ a b ≡ differ b a
unfolding differ distance
differ_sym [] [] = refl
differ_sym [] (y ∷ b) = refl
differ_sym (x ∷ a) [] = refl
differ_sym (x ∷ a) (y ∷ b) = ap₂ ◌+◌ (unequal_sym x y) (differ_sym a b)

unequal_triangle : (x y z : ℕ) → unequal x z ≤ unequal x y + unequal y z
unequal_triangle x y z = go (ℕ_discrete x y) (ℕ_discrete y z) (ℕ_discrete x z)
  where
    go : Dec (x ≡ y) → Dec (y ≡ z) → Dec (x ≡ z) → unequal x z ≤ unequal x y + unequal y z
    go p q (yes e) = omega (arith, unequal_same x z e)
    go (no p) q (no r) = omega (arith, unequal_other x z r, unequal_other x y p)
    go (yes p) (no q) (no r) = omega (arith, unequal_other x z r, unequal_other y z q)
    go (yes p) (yes q) (no r) = absurd (r (p ∙ q))

pub differ_triangle : (a b c : List ℕ) → length a ≡ length b → length b ≡ length c → differ a c ≤ differ a b + differ b c
unfolding differ distance
differ_triangle [] b c h k = omega arith
differ_triangle (x ∷ a) [] c h k = absurd (omega arith)
differ_triangle (x ∷ a) (y ∷ b) [] h k = absurd (omega arith)
differ_triangle (x ∷ a) (y ∷ b) (z ∷ c) h k = omega (arith, unequal_triangle x y z, differ_triangle a b c (omega arith) (omega arith))

pub differ_append : (a b c d : List ℕ) → length a ≡ length b → differ (a ++ c) (b ++ d) ≡ differ a b + differ c d
unfolding differ distance
differ_append [] [] c d h = omega arith
differ_append [] (y ∷ b) c d h = absurd (omega arith)
differ_append (x ∷ a) [] c d h = absurd (omega arith)
differ_append (x ∷ a) (y ∷ b) c d h = omega (arith, differ_append a b c d (omega arith))

differ_one : (x y : ℕ) → differ (x ∷ []) (y ∷ []) ≡ unequal x y
unfolding differ distance
differ_one x y = omega arith

differ_reverse : (a b : List ℕ) → length a ≡ length b → differ (reverse a) (reverse b) ≡ differ a b
unfolding differ distance
differ_reverse [] [] h = refl
differ_reverse [] (y ∷ b) h = absurd (omega arith)
differ_reverse (x ∷ a) [] h = absurd (omega arith)
differ_reverse (x ∷ a) (y ∷ b) h =
    ap₂ differ (reverse-cons x a) (reverse-cons y b)
    ∙ differ_append (reverse a) (reverse b) (x ∷ []) (y ∷ []) (omega (arith, length-reverse a, length-reverse b))
    ∙ omega (arith, differ_reverse a b (omega arith), differ_one x y)

-- ---- as the weight of the sum of two words

keep_count : (p q : ℕ) (x : Fin 256) (E : List (Term bytes)) → p < 256 → q < 256 → (d : Dec (bytes.add (byte p) (byte q) ≡ bytes.𝟘))
    → length (keep bytes d (x, bytes.add (byte p) (byte q)) E) ≡ unequal p q + length E
unfolding keep
keep_count p q x E hp hq (yes e) = omega (arith, unequal_same p q (byte_inj p q hp hq (eq_of_add bytes (byte p) (byte q) e)))
keep_count p q x E hp hq (no n) = omega (arith, unequal_other p q (λ e. n (add_eq_zero bytes (byte p) (byte q) (ap byte e))))

weight_differ : (x : Fin 256) (a b : List ℕ) → length a ≡ length b → Bytes a → Bytes b
    → weight bytes (terms bytes (byte 2) x (plus (ops bytes) (elements a) (elements b))) ≡ differ a b
unfolding differ distance plus terms support
weight_differ x [] [] h ha hb = refl
weight_differ x [] (q ∷ b) h ha hb = absurd (omega arith)
weight_differ x (p ∷ a) [] h ha hb = absurd (omega arith)
weight_differ x (p ∷ a) (q ∷ b) h ha hb =
    keep_count p q x _ ha.0 hb.0 _ ∙ ap (λ (n : ℕ). unequal p q + n) (weight_differ (bytes.mul x (byte 2)) a b (omega arith) ha.1 hb.1)

zero_of : (x : Fin 256) (p : List (Fin 256)) → AllZero bytes (terms bytes (byte 2) x p) → Zero bytes p
unfolding terms
zero_of x [] h = tt
zero_of x (a ∷ p) h = (h.0, zero_of (bytes.mul x (byte 2)) p h.1)

-- ---- of two blocks of 204 bytes

module _ (a b : List ℕ) (na : length a ≡ 204) (nb : length b ≡ 204) (ha : Bytes a) (hb : Bytes b) where
  -- their sum, as a polynomial
  abbrev pub difference : List (Fin 256)
  difference = plus (ops bytes) (word a) (word b)

  pub difference_length : length difference ≡ 204
  difference_length = length_plus_max bytes (word a) (word b) ∙ omega (arith, length_word a, length_word b)

  -- the terms of the sum: place 02^i, for the coefficient of x^i
  abbrev pub errors : List (Term bytes)
  errors = terms bytes (byte 2) bytes.𝟙 difference

  pub errors_distinct : Rattle.algebra.proofs.Lists.Distinct (Rattle.algebra.proofs.Syndromes.places bytes errors)
  errors_distinct = distinct_terms bytes (byte 2) difference (λ i j l m. powers_differ i j l (omega (arith, difference_length)))

  errors_weight : weight bytes errors ≡ differ a b
  errors_weight =
      weight_differ bytes.𝟙 (reverse a) (reverse b) (omega (arith, length-reverse a, length-reverse b)) (bytes_reverse a ha) (bytes_reverse b hb)
      ∙ differ_reverse a b (na ∙ sym nb)

  pub errors_syndrome : (j : ℕ) → syndrome bytes errors j ≡ bytes.add (eval (ops bytes) (word a) (alpha j)) (eval (ops bytes) (word b) (alpha j))
  errors_syndrome j = sym (word_syndrome bytes (byte 2) difference j) ∙ eval_plus bytes (word a) (word b) (alpha j)

  equal_words : word a ≡ word b → a ≡ b
  equal_words e =
      sym (reverse-reverse a) ∙ ap reverse (elements_inj (reverse a) (reverse b) (bytes_reverse a ha) (bytes_reverse b hb) e) ∙ reverse-reverse b

-- two codewords that differ in at most sixteen bytes
pub same_codeword : (a b : List ℕ) → Codeword a → Codeword b → differ a b ≤ 16 → a ≡ b
same_codeword a b ca cb h =
    let na = codeword_length a ca in
    let nb = codeword_length b cb in
    let ha = codeword_bytes a ca in
    let hb = codeword_bytes b cb in
    equal_words a b na nb ha hb
    (equal_of_zero bytes (word a) (word b) (length_word a ∙ na ∙ sym (length_word b ∙ nb))
    (zero_of bytes.𝟙 (difference a b na nb ha hb)
    (vandermonde_weight bytes (errors a b na nb ha hb) 16 (errors_distinct a b na nb ha hb) (omega (arith, errors_weight a b na nb ha hb))
    (λ j l. errors_syndrome a b na nb ha hb j ∙ ap₂ bytes.add (codeword_syndromes a ca j l) (codeword_syndromes b cb j l) ∙ add_self bytes bytes.𝟘))))

-- a codeword within eight bytes is the only one, so that it is accepted
pub accepted : (came left : List ℕ) (changed : Changed) → length came ≡ 204 → Codeword left → changed ≡ changes came left → differ came left ≤ 8
    → Accepted came left changed
accepted came left changed n c e h =
    record { codeword = c; counted = e; within = h; nearest = λ d cd ne. go d cd ne (dec_lt (differ came left) (differ came d)) }
  where
    go : (d : List ℕ) → Codeword d → (d ≡ left → ⊥) → Dec (differ came left < differ came d) → differ came left < differ came d
    go d cd ne (yes l) = l
    go d cd ne (no l) =
        absurd (ne (same_codeword d left cd c
        (omega (arith, differ_triangle d came left (codeword_length d cd ∙ sym n) (n ∙ sym (codeword_length left c)), differ_sym d came))))
