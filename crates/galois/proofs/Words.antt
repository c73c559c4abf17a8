-- Lists of numbers as lists over the field of bytes.
-- Assumes nothing.
use mathlib.Core.Path.{◌≡◌, refl, sym, ap, ap₂, ◌∙◌}
use mathlib.Core.List.{List, [], ◌∷◌, ◌++◌, map, reverse, reverse-cons}
use Prim.Native.Nat.{ℕ, zero, suc, ◌<◌, Fin}
use Prim.{tt}
use native.Mathlib.Nat.{le_of_suc-le-suc, not-suc-le-zero}
use native.Mathlib.Omega.{arith}
use lib.Bits.{bit_xor, xor_lt}
use lib.Dec.{lit<}
use lib.ListN.{length, get_or, drop, replicate, length-map, length-reverse}
use Rattle.common.specs.Lists.{Bytes}
use Rattle.algebra.specs.Field.{ops}
use Rattle.algebra.specs.Polynomial.{eval, plus, scale, product}
use Rattle.algebra.proofs.Homomorphism as Hom
use Rattle.galois.specs.Field256.{numbers, mul, scaled}
use Rattle.galois.proofs.Laws.{mul_lt}
use Rattle.galois.specs.Lanes.{products_of}
use Rattle.galois.proofs.Elements.{elements, word}
use Rattle.galois.proofs.Instance.{bytes, byte, byte_inj, byte_of, byte_zero, byte_add, byte_mul}

-- the numbers again
abbrev pub values : List (Fin 256) → List ℕ
values l = map (λ a. a.0) l

pub length_word : (block : List ℕ) → length (word block) ≡ length block
length_word block = length-map (reverse block) byte ∙ length-reverse block

pub elements_values : (l : List (Fin 256)) → elements (values l) ≡ l
elements_values [] = refl
elements_values (a ∷ l) = ap₂ ◌∷◌ (byte_of a) (elements_values l)

pub elements_inj : (a b : List ℕ) → Bytes a → Bytes b → elements a ≡ elements b → a ≡ b
elements_inj [] [] ha hb e = refl
elements_inj [] (y ∷ b) ha hb e = let z : ◌≡◌ {A = ℕ} 0 (suc (length (elements b))) = ap length e in absurd (omega arith)
elements_inj (x ∷ a) [] ha hb e = let z : ◌≡◌ {A = ℕ} (suc (length (elements a))) 0 = ap length e in absurd (omega arith)
elements_inj (x ∷ a) (y ∷ b) ha hb e = ap₂ ◌∷◌ (byte_inj x y ha.0 hb.0 (cc)) (elements_inj a b ha.1 hb.1 (cc))

pub elements_append : (a b : List ℕ) → elements (a ++ b) ≡ elements a ++ elements b
elements_append [] b = refl
elements_append (x ∷ a) b = ap (λ (l : List (Fin 256)). byte x ∷ l) (elements_append a b)

-- ---- bytes

pub bytes_append : (a b : List ℕ) → Bytes a → Bytes b → Bytes (a ++ b)
bytes_append [] b ha hb = hb
bytes_append (x ∷ a) b ha hb = (ha.0, bytes_append a b ha.1 hb)

pub bytes_drop : (n : ℕ) (a : List ℕ) → Bytes a → Bytes (drop n a)
bytes_drop zero a h = h
bytes_drop (suc n) [] h = tt
bytes_drop (suc n) (x ∷ a) h = bytes_drop n a h.1

pub bytes_zeros : (n : ℕ) → Bytes (replicate n 0)
bytes_zeros zero = tt
bytes_zeros (suc n) = (lit< tt, bytes_zeros n)

pub bytes_reverse : (a : List ℕ) → Bytes a → Bytes (reverse a)
bytes_reverse [] h = tt
bytes_reverse (x ∷ a) h = rw reverse-cons (bytes_append (reverse a) (x ∷ []) (bytes_reverse a h.1) (h.0, tt))

pub bytes_values : (l : List (Fin 256)) → Bytes (values l)
bytes_values [] = tt
bytes_values (a ∷ l) = (a.1, bytes_values l)

pub bytes_plus : (a b : List ℕ) → Bytes a → Bytes b → Bytes (plus numbers a b)
unfolding plus
bytes_plus [] b ha hb = hb
bytes_plus (x ∷ a) [] ha hb = ha
bytes_plus (x ∷ a) (y ∷ b) ha hb = (xor_lt 8 x y ha.0 hb.0, bytes_plus a b ha.1 hb.1)

pub bytes_scale : (c : ℕ) (a : List ℕ) → Bytes (scale numbers c a)
unfolding scale
bytes_scale c [] = tt
bytes_scale c (x ∷ a) = (mul_lt c x, bytes_scale c a)

pub bytes_product : (a b : List ℕ) → Bytes (product numbers a b)
unfolding product
bytes_product [] b = tt
bytes_product (x ∷ a) b = bytes_plus (scale numbers x b) (0 ∷ product numbers a b) (bytes_scale x b) (lit< tt, bytes_product a b)

-- ---- sums, products and values

pub elements_plus : (a b : List ℕ) → elements (plus numbers a b) ≡ plus (ops bytes) (elements a) (elements b)
elements_plus = Hom.map_plus numbers (ops bytes) byte byte_add byte_mul byte_zero

pub elements_scale : (c : ℕ) (a : List ℕ) → elements (scale numbers c a) ≡ scale (ops bytes) (byte c) (elements a)
elements_scale = Hom.map_scale numbers (ops bytes) byte byte_add byte_mul byte_zero

pub elements_product : (a b : List ℕ) → elements (product numbers a b) ≡ product (ops bytes) (elements a) (elements b)
elements_product = Hom.map_product numbers (ops bytes) byte byte_add byte_mul byte_zero

pub elements_eval : (q : List ℕ) (x : ℕ) → byte (eval numbers q x) ≡ eval (ops bytes) (elements q) (byte x)
elements_eval = Hom.keeps_eval numbers (ops bytes) byte byte_add byte_mul byte_zero

pub length_scaled : (c : ℕ) (a : List ℕ) → length (scaled c a) ≡ length a
unfolding scale
length_scaled c a = length-map a (mul c)

-- ---- the sum of two lists of one length

pub length-sum : (a b : List ℕ) → length a ≡ length b → length (plus numbers a b) ≡ length a
unfolding plus
length-sum [] b h = sym h
length-sum (y ∷ a) [] h = refl
length-sum (y ∷ a) (z ∷ b) h = ap suc (length-sum a b (omega arith))

pub sum_at : (a b : List ℕ) (i : ℕ) → length a ≡ length b → get_or (plus numbers a b) i 0 ≡ bit_xor (get_or a i 0) (get_or b i 0)
unfolding plus
sum_at [] [] i h = refl
sum_at [] (y ∷ b) i h = absurd (omega arith)
sum_at (x ∷ a) [] i h = absurd (omega arith)
sum_at (x ∷ a) (y ∷ b) zero h = refl
sum_at (x ∷ a) (y ∷ b) (suc i) h = sum_at a b i (omega arith)

-- ---- the products of two lists of one length

pub length_products : (a b : List ℕ) → length a ≡ length b → length (products_of a b) ≡ length a
unfolding products_of
length_products [] b h = refl
length_products (x ∷ a) [] h = absurd (omega arith)
length_products (x ∷ a) (y ∷ b) h = ap suc (length_products a b (omega arith))

pub products_at : (a b : List ℕ) (i : ℕ) → length a ≡ length b → i < length a → get_or (products_of a b) i 0 ≡ mul (get_or a i 0) (get_or b i 0)
unfolding products_of
products_at [] b i h k = absurd (not-suc-le-zero k)
products_at (x ∷ a) [] i h k = absurd (omega arith)
products_at (x ∷ a) (y ∷ b) zero h k = refl
products_at (x ∷ a) (y ∷ b) (suc i) h k = products_at a b i (omega arith) (le_of_suc-le-suc k)
