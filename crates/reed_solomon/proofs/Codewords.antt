-- A block of 204 bytes is a codeword exactly when its values at the sixteen roots of g are zero.
-- Assumes nothing.
use mathlib.Core.Path.{◌≡◌, refl, sym, ap, ap₂, ◌∙◌, subst}
use mathlib.Core.List.{List, [], ◌∷◌, reverse, reverse-reverse}
use Prim.Native.Nat.{ℕ, zero, suc, ◌≤◌, ◌<◌, Fin}
use Prim.{tt}
use native.Mathlib.Decide.{ℕ_discrete}
use native.Mathlib.Omega.{arith}
use lib.ListN.{length, length-map}
use Rattle.common.specs.Lists.{All, Bytes}
use Rattle.algebra.specs.Field.{ops}
use Rattle.algebra.specs.Polynomial.{power, eval, plus, scale, product}
use Rattle.algebra.proofs.Lists.{Away, Distinct}
use Rattle.algebra.proofs.Ring.{zero_mul}
use Rattle.algebra.proofs.Polynomial.{eval_linear, eval_product, eval_times_linear, length_product, from_roots, from_roots_root_self, from_roots_root_more, Factored, factored, equal_at, equal_of_values}
use Rattle.algebra.proofs.Syndromes.{places}
use Rattle.algebra.proofs.Terms.{terms, distinct_terms, length_terms}
use Rattle.galois.specs.Field256.{numbers, mul, rounds, times_x, pow}
use Rattle.galois.proofs.Instance.{bytes, byte, byte_one, byte_power, powers_differ}
use Rattle.reed_solomon.specs.Code.{factors, generator, Codeword}
use Rattle.galois.proofs.Elements.{elements, word, alpha}
use Rattle.galois.proofs.Words.{values, length_word, elements_values, elements_inj, elements_product, bytes_reverse, bytes_values, bytes_product}

-- the value of a block, as a polynomial, at root j
abbrev pub block_syndrome : List ℕ → ℕ → Fin 256
block_syndrome block j = eval (ops bytes) (word block) (alpha j)

abbrev pub roots_below : ℕ → List (Fin 256)
roots_below zero = []
roots_below (suc n) = alpha n ∷ roots_below n

pub length_roots : (n : ℕ) → length (roots_below n) ≡ n
length_roots zero = refl
length_roots (suc n) = ap suc (length_roots n)

away_roots : (m n : ℕ) → m ≤ n → n < 255 → Away (alpha n) (roots_below m)
away_roots zero n h l = tt
away_roots (suc m) n h l = ((λ e. powers_differ m n h l (sym e)), away_roots m n (omega arith) l)

pub distinct_roots : (n : ℕ) → n < 255 → Distinct (roots_below n)
distinct_roots zero l = tt
distinct_roots (suc n) l = (away_roots n n (omega arith) (omega arith), distinct_roots n (omega arith))

all_roots : (n : ℕ) (P : Fin 256 → Type 0) → ((j : ℕ) → j < n → P (alpha j)) → All P (roots_below n)
all_roots zero P h = tt
all_roots (suc n) P h = (h n (omega arith), all_roots n P (λ j l. h j (omega arith)))

root_of : (n j : ℕ) → j < n → eval (ops bytes) (from_roots bytes (roots_below n)) (alpha j) ≡ bytes.𝟘
root_of zero j h = absurd (omega arith)
root_of (suc n) j h = go (ℕ_discrete j n) (λ l. root_of n j l)
  where
    go : Dec (j ≡ n) → (j < n → eval (ops bytes) (from_roots bytes (roots_below n)) (alpha j) ≡ bytes.𝟘)
        → eval (ops bytes) (from_roots bytes (roots_below (suc n))) (alpha j) ≡ bytes.𝟘
    go (yes e) r = from_roots_root_self bytes (alpha n) (alpha j) (roots_below n) (ap alpha e)
    go (no e) r = from_roots_root_more bytes (alpha n) (roots_below n) (alpha j) (r (omega arith))

-- g has the values of the product of its factors
factors_values : (n : ℕ) (x : Fin 256) → eval (ops bytes) (elements (factors n)) x ≡ eval (ops bytes) (from_roots bytes (roots_below n)) x
unfolding factors from_roots
factors_values zero x = ap (λ (u : Fin 256). eval (ops bytes) (u ∷ []) x) byte_one
factors_values (suc n) x =
    ap (λ (p : List (Fin 256)). eval (ops bytes) p x) (elements_product (pow 2 n ∷ 1 ∷ []) (factors n))
    ∙ eval_product bytes (byte (pow 2 n) ∷ byte 1 ∷ []) (elements (factors n)) x
    ∙ ap₂ bytes.mul first (factors_values n x)
    ∙ sym (eval_times_linear bytes (alpha n) (from_roots bytes (roots_below n)) x)
  where
    first : eval (ops bytes) (byte (pow 2 n) ∷ byte 1 ∷ []) x ≡ bytes.add x (alpha n)
    first = ap₂ (λ (u v : Fin 256). eval (ops bytes) (u ∷ v ∷ []) x) (byte_power 2 n) byte_one ∙ eval_linear bytes (alpha n) x

pub generator_root : (j : ℕ) → j < 16 → eval (ops bytes) (elements generator) (alpha j) ≡ bytes.𝟘
unfolding generator
generator_root j h = factors_values 16 (alpha j) ∙ root_of 16 j h

length_generator : length generator ≡ 17
unfolding generator factors product scale plus power mul rounds times_x
length_generator = refl

-- g and a quotient of 188 coefficients give 204
length_multiple : (a b : Fin 256) (p m : List (Fin 256)) → length (a ∷ p) ≡ 17 → length (b ∷ m) ≡ 188 → length (product (ops bytes) (a ∷ p) (b ∷ m)) ≡ 204
length_multiple a b p m h k = length_product bytes a b p m ∙ omega arith

length_codeword : (g m : List (Fin 256)) → length g ≡ 17 → length m ≡ 188 → length (product (ops bytes) g m) ≡ 204
length_codeword [] m h k = absurd (omega arith)
length_codeword (a ∷ g) [] h k = absurd (omega arith)
length_codeword (a ∷ g) (b ∷ m) h k = length_multiple a b g m h k

-- ---- a codeword has 204 bytes, and zeros at the roots

module _ (block : List ℕ) (c : Codeword block) where
  as_product : word block ≡ product (ops bytes) (elements generator) (elements c.factor)
  as_product = ap elements c.divides ∙ elements_product generator c.factor

  pub codeword_length : length block ≡ 204
  codeword_length =
      sym (length_word block) ∙ ap length as_product
      ∙ length_codeword (elements generator) (elements c.factor) (length-map generator byte ∙ length_generator) (length-map c.factor byte ∙ c.coefficients)

  pub codeword_bytes : Bytes block
  codeword_bytes =
      subst Bytes (reverse-reverse block) (bytes_reverse (reverse block) (subst Bytes (sym c.divides) (bytes_product generator c.factor)))

  pub codeword_syndromes : (j : ℕ) → j < 16 → block_syndrome block j ≡ bytes.𝟘
  codeword_syndromes j h =
      ap (λ (p : List (Fin 256)). eval (ops bytes) p (alpha j)) as_product
      ∙ eval_product bytes (elements generator) (elements c.factor) (alpha j)
      ∙ ap (λ (u : Fin 256). bytes.mul u (eval (ops bytes) (elements c.factor) (alpha j))) (generator_root j h)
      ∙ zero_mul bytes (eval (ops bytes) (elements c.factor) (alpha j))

-- ---- and what has those is one

module _ (block : List ℕ) (n : length block ≡ 204) (b : Bytes block) (h : (j : ℕ) → j < 16 → block_syndrome block j ≡ bytes.𝟘) where
  quotient : Factored bytes (roots_below 16) (word block)
  quotient =
      factored bytes (roots_below 16) (word block) (omega (arith, length_roots 16, length_word block)) (distinct_roots 16 (omega arith))
      (all_roots 16 (λ x. eval (ops bytes) (word block) x ≡ bytes.𝟘) h)

  quotient_length : length quotient.factor ≡ 188
  quotient_length = omega (arith, quotient.shorter, length_roots 16, length_word block)

  same_word : word block ≡ product (ops bytes) (elements generator) quotient.factor
  unfolding generator
  same_word =
      equal_of_values bytes (places bytes (terms bytes (byte 2) bytes.𝟙 (word block))) (word block) (product (ops bytes) (elements generator) quotient.factor)
      (length_word block ∙ n ∙ sym (length_codeword (elements generator) quotient.factor (length-map generator byte ∙ length_generator) quotient_length))
      (omega (arith, length-map (terms bytes (byte 2) bytes.𝟙 (word block)) (λ (e : Fin 256 × Fin 256). e.0), length_terms bytes (byte 2) bytes.𝟙 (word block)))
      (distinct_terms bytes (byte 2) (word block) (λ i j l m. powers_differ i j l (omega (arith, length_word block))))
      (λ x. quotient.values x ∙ ap (λ (u : Fin 256). bytes.mul u (eval (ops bytes) quotient.factor x)) (sym (factors_values 16 x))
      ∙ sym (eval_product bytes (elements generator) quotient.factor x))

  pub codeword_of : Codeword block
  codeword_of =
      record {
        factor = values quotient.factor;
        coefficients = length-map quotient.factor (λ (a : Fin 256). a.0) ∙ quotient_length;
        in_field = bytes_values quotient.factor;
        divides =
            elements_inj (reverse block) (product numbers generator (values quotient.factor)) (bytes_reverse block b) (bytes_product generator (values quotient.factor))
            (same_word ∙ sym (elements_product generator (values quotient.factor) ∙ ap (product (ops bytes) (elements generator)) (elements_values quotient.factor)));
      }

-- ---- sixteen bytes

-- they are known by their values at the roots
pub same_sixteen : (a b : List ℕ) → length a ≡ 16 → length b ≡ 16 → Bytes a → Bytes b → ((j : ℕ) → j < 16 → block_syndrome a j ≡ block_syndrome b j) → a ≡ b
same_sixteen a b n m ba bb h =
    sym (reverse-reverse a)
    ∙ ap reverse
    (elements_inj (reverse a) (reverse b) (bytes_reverse a ba) (bytes_reverse b bb)
    (equal_at bytes (roots_below 16) (word a) (word b) (length_word a ∙ n ∙ sym (length_word b ∙ m)) (omega (arith, length_word a, length_roots 16)) (distinct_roots 16 (omega arith))
    (all_roots 16 (λ x. eval (ops bytes) (word a) x ≡ eval (ops bytes) (word b) x) h)))
    ∙ reverse-reverse b
