-- The distance of blocks with marked bytes: two codewords that both satisfy 2 e + f at most 16 are one, and without marks it is the Hamming distance.
-- Assumes nothing.
use mathlib.Core.Path.{◌≡◌, refl, sym, ap, ap₂, ◌∙◌}
use mathlib.Core.List.{List, [], ◌∷◌, ◌++◌, reverse, reverse-cons}
use Prim.Native.Nat.{ℕ, zero, suc, ◌+◌, ◌*◌, ◌≤◌, ◌<◌, Fin}
use Prim.{Unit}
use native.Mathlib.Decide.{ℕ_discrete, dec_lt}
use native.Mathlib.Nat.{le_of_suc-le-suc}
use native.Mathlib.Omega.{arith}
use Rattle.std.proofs.Common.{Ok, Err}
use Rattle.answer.specs.declared.Refusal.TheVariants.{Uncorrectable, BlockLength, MarkValue}
use borrow.Author.Tests.{eq-eqb, ne_eqb}
use lib.Dec.{eqb}
use lib.ListN.{length, get_or, replicate, length-reverse, length-append}
use Rattle.common.specs.Choice.{pick, unequal}
use Rattle.common.proofs.Choice.{unequal_le}
use Rattle.algebra.specs.Field.{ops}
use Rattle.algebra.specs.Polynomial.{eval, plus}
use Rattle.algebra.proofs.Ring.{add_eq_zero, mul_zero, zero_mul}
use Rattle.algebra.proofs.Syndromes.{Term, keep, support, weight, weighted}
use Rattle.algebra.proofs.Terms.{terms}
use Rattle.galois.proofs.Instance.{bytes, byte}
use Rattle.reed_solomon.specs.Code.{Codeword, distance, differ, changes}
use Rattle.reed_solomon.specs.Decode.{Decoded, Decodes}
use Rattle.reed_solomon.specs.Marks.{no_marks, marked, unmarked, cost, AcceptedMarked, DecodesMarked}
use Rattle.reed_solomon.specs.declared.Changed.{Changed}
use Rattle.galois.proofs.Elements.{elements}
use Rattle.error_correction.specs.Correction.{zeros_from}
use Rattle.reed_solomon.proofs.Codewords.{codeword_length}
use Rattle.reed_solomon.proofs.Marks.{mark, mark_marked, marked_append, no_marks_lem}
use Rattle.reed_solomon.proofs.Distance.{unequal_same, unequal_other, same_codeword}

-- ---- one place

-- 1 where two bytes differ and the byte is not marked
abbrev apart : ℕ → ℕ → ℕ → ℕ
apart m x y = pick (eqb m 0) (unequal x y) 0

apart_clear : (m x y : ℕ) → m ≡ 0 → apart m x y ≡ unequal x y
apart_clear m x y e = simp (eq-eqb m 0 e)

apart_marked : (m x y : ℕ) → (m ≡ 0 → ⊥) → apart m x y ≡ 0
apart_marked m x y n = simp (ne_eqb m 0 n)

-- x and z differ only if one of them differs from y or the byte is marked
unequal_between : (m x y z : ℕ) → unequal x z ≤ apart m y x + apart m y z + mark m
unequal_between m x y z = go (ℕ_discrete m 0) (ℕ_discrete y x) (ℕ_discrete y z)
  where
    go : Dec (m ≡ 0) → Dec (y ≡ x) → Dec (y ≡ z) → unequal x z ≤ apart m y x + apart m y z + mark m
    go (no n) p q = omega (arith, unequal_le x z, mark_marked m n)
    go (yes e) (yes p) (yes q) = omega (arith, unequal_same x z (sym p ∙ q))
    go (yes e) (no p) q = omega (arith, unequal_le x z, apart_clear m y x e, unequal_other y x p)
    go (yes e) (yes p) (no q) = omega (arith, unequal_le x z, apart_clear m y z e, unequal_other y z q)

differ_between : (ms a b c : List ℕ) → length ms ≡ length b → length a ≡ length b → length b ≡ length c
    → differ a c ≤ unmarked ms b a + unmarked ms b c + marked ms
unfolding differ distance unmarked marked
differ_between [] [] b c h k l = omega arith
differ_between [] (x ∷ a) b c h k l = absurd (omega arith)
differ_between (m ∷ ms) [] b c h k l = omega arith
differ_between (m ∷ ms) (x ∷ a) [] c h k l = absurd (omega arith)
differ_between (m ∷ ms) (x ∷ a) (y ∷ b) [] h k l = absurd (omega arith)
differ_between (m ∷ ms) (x ∷ a) (y ∷ b) (z ∷ c) h k l = omega (arith, unequal_between m x y z, differ_between ms a b c (omega arith) (omega arith) (omega arith))

-- two blocks differ in bytes that are marked or not
unequal_marked : (m x y : ℕ) → unequal x y ≤ apart m x y + mark m
unequal_marked m x y = go (ℕ_discrete m 0)
  where
    go : Dec (m ≡ 0) → unequal x y ≤ apart m x y + mark m
    go (yes e) = omega (arith, apart_clear m x y e)
    go (no n) = omega (arith, unequal_le x y, mark_marked m n)

pub differ_marked : (ms a b : List ℕ) → length ms ≡ length a → length a ≡ length b → differ a b ≤ unmarked ms a b + marked ms
unfolding differ distance unmarked marked
differ_marked [] [] b h k = omega arith
differ_marked [] (x ∷ a) b h k = absurd (omega arith)
differ_marked (m ∷ ms) [] b h k = omega arith
differ_marked (m ∷ ms) (x ∷ a) [] h k = omega arith
differ_marked (m ∷ ms) (x ∷ a) (y ∷ b) h k = omega (arith, unequal_marked m x y, differ_marked ms a b (omega arith) (omega arith))

-- ---- two codewords

pub same_marked : (marks came a b : List ℕ) → length marks ≡ 204 → length came ≡ 204 → Codeword a → Codeword b → cost marks came a ≤ 16 → cost marks came b ≤ 16 → a ≡ b
same_marked marks came a b lm n ca cb ha hb =
    same_codeword a b ca cb
    (omega (arith, differ_between marks a came b (lm ∙ sym n) (codeword_length a ca ∙ sym n) (n ∙ sym (codeword_length b cb))))

pub accepted_marked : (marks came left : List ℕ) (changed : Changed) → length marks ≡ 204 → length came ≡ 204 → Codeword left → changed ≡ changes came left → cost marks came left ≤ 16
    → AcceptedMarked marks came left changed
accepted_marked marks came left changed lm n c e h =
    record { codeword = c; counted = e; within = h; only = λ d cd ne. go d cd ne (dec_lt 16 (cost marks came d)) }
  where
    go : (d : List ℕ) → Codeword d → (d ≡ left → ⊥) → Dec (16 < cost marks came d) → 16 < cost marks came d
    go d cd ne (yes l) = l
    go d cd ne (no l) = absurd (ne (same_marked marks came d left lm n cd c (omega arith) h))

-- ---- without marks

pub marked_none : (n : ℕ) → marked (replicate n 0) ≡ 0
unfolding marked
marked_none zero = refl
marked_none (suc n) = omega (arith, marked_none n)

unmarked_none : (n : ℕ) (a b : List ℕ) → length a ≤ n → unmarked (replicate n 0) a b ≡ differ a b
unfolding unmarked differ distance
unmarked_none zero [] b h = refl
unmarked_none zero (x ∷ a) b h = absurd (omega arith)
unmarked_none (suc n) [] b h = refl
unmarked_none (suc n) (x ∷ a) [] h = refl
unmarked_none (suc n) (x ∷ a) (y ∷ b) h = ap (λ (k : ℕ). unequal x y + k) (unmarked_none n a b (le_of_suc-le-suc h))

cost_none : (came c : List ℕ) → length came ≡ 204 → cost no_marks came c ≡ 2 * differ came c
cost_none came c n = omega (arith, unmarked_none 204 came c (omega arith), marked_none 204)

-- with no byte marked, decoding is that without marks
pub without_marks : (came left : List ℕ) (r : Decoded) → DecodesMarked no_marks came left r → Decodes came left r
without_marks came left (Ok changed) d =
    let a = d.2 in (
      d.0,
      record {
        codeword = a.codeword;
        counted = a.counted;
        within = omega (arith, a.within, cost_none came left d.0);
        nearest = λ c cw ne. omega (arith, a.within, cost_none came left d.0, a.only c cw ne, cost_none came c d.0);
      },
    )
without_marks came left (Err Uncorrectable) d =
    (d.0, record { unchanged = d.2.unchanged; far = λ c cw. omega (arith, d.2.far c cw, cost_none came c d.0) })
without_marks came left (Err BlockLength) d = d
without_marks came left (Err MarkValue) d = absurd (d.1 no_marks_lem)
without_marks came left (Err _) d = absurd d

pub as_without_marks : (came left : List ℕ) (r : Decoded) → Decodes came left r → DecodesMarked no_marks came left r
as_without_marks came left (Ok changed) d =
    (d.0, no_marks_lem, accepted_marked no_marks came left changed refl d.0 d.1.codeword d.1.counted (omega (arith, d.1.within, cost_none came left d.0)))
as_without_marks came left (Err Uncorrectable) d =
    (d.0, no_marks_lem, record { unchanged = d.1.unchanged; far = λ c cw. omega (arith, d.1.far c cw, cost_none came c d.0) })
as_without_marks came left (Err BlockLength) d = d
as_without_marks came left (Err _) d = absurd d

-- ---- from the last place to the first

pub marked_reverse : (ms : List ℕ) → marked (reverse ms) ≡ marked ms
unfolding marked
marked_reverse [] = refl
marked_reverse (m ∷ ms) = ap marked (reverse-cons m ms) ∙ marked_append (reverse ms) (m ∷ []) ∙ omega (arith, marked_reverse ms, last m)
  where
    last : (m : ℕ) → marked (m ∷ []) ≡ mark m
    last m = omega arith

unmarked_append : (k a b l c d : List ℕ) → length k ≡ length b → length a ≡ length b → unmarked (k ++ l) (a ++ c) (b ++ d) ≡ unmarked k a b + unmarked l c d
unfolding unmarked
unmarked_append [] [] [] l c d h i = omega arith
unmarked_append [] [] (y ∷ b) l c d h i = absurd (omega arith)
unmarked_append [] (x ∷ a) [] l c d h i = absurd (omega arith)
unmarked_append [] (x ∷ a) (y ∷ b) l c d h i = absurd (omega arith)
unmarked_append (m ∷ k) [] b l c d h i = absurd (omega arith)
unmarked_append (m ∷ k) (x ∷ a) [] l c d h i = absurd (omega arith)
unmarked_append (m ∷ k) (x ∷ a) (y ∷ b) l c d h i = omega (arith, unmarked_append k a b l c d (omega arith) (omega arith))

unmarked_one : (m x y : ℕ) → unmarked (m ∷ []) (x ∷ []) (y ∷ []) ≡ apart m x y
unfolding unmarked
unmarked_one m x y = omega arith

pub unmarked_reverse : (ms a b : List ℕ) → length ms ≡ length b → length a ≡ length b → unmarked (reverse ms) (reverse a) (reverse b) ≡ unmarked ms a b
unfolding unmarked
unmarked_reverse [] [] [] h k = refl
unmarked_reverse [] [] (y ∷ b) h k = absurd (omega arith)
unmarked_reverse [] (x ∷ a) [] h k = absurd (omega arith)
unmarked_reverse [] (x ∷ a) (y ∷ b) h k = absurd (omega arith)
unmarked_reverse (m ∷ ms) [] b h k = absurd (omega arith)
unmarked_reverse (m ∷ ms) (x ∷ a) [] h k = absurd (omega arith)
unmarked_reverse (m ∷ ms) (x ∷ a) (y ∷ b) h k =
    ap₂ (λ (u v : List ℕ). unmarked u v (reverse (y ∷ b))) (reverse-cons m ms) (reverse-cons x a)
    ∙ ap (unmarked (reverse ms ++ m ∷ []) (reverse a ++ x ∷ [])) (reverse-cons y b)
    ∙ unmarked_append (reverse ms) (reverse a) (reverse b) (m ∷ []) (x ∷ []) (y ∷ []) (omega (arith, length-reverse ms, length-reverse b)) (omega (arith, length-reverse a, length-reverse b))
    ∙ omega (arith, unmarked_reverse ms a b (omega arith) (omega arith), unmarked_one m x y)

-- ---- as the weight of the error that g leaves, where g vanishes at the marked places

-- g vanishes at the marked ones of the places x, 2 x, 4 x ..
abbrev pub Covered : List (Fin 256) → Fin 256 → List ℕ → Type 0
Covered g x [] = Unit {0}
Covered g x (m ∷ ms) = ((m ≡ 0 → ⊥) → eval (ops bytes) g x ≡ bytes.𝟘) × Covered g (bytes.mul x (byte 2)) ms

keep_most : (x y : Fin 256) (E : List (Term bytes)) (d : Dec (y ≡ bytes.𝟘)) → length (keep bytes d (x, y) E) ≤ 1 + length E
unfolding keep
keep_most x y E (yes e) = omega arith
keep_most x y E (no n) = omega arith

keep_none : (x y : Fin 256) (E : List (Term bytes)) (d : Dec (y ≡ bytes.𝟘)) → y ≡ bytes.𝟘 → length (keep bytes d (x, y) E) ≡ length E
unfolding keep
keep_none x y E (yes e) z = refl
keep_none x y E (no n) z = absurd (n z)

keep_apart : (m p q : ℕ) (g x : Fin 256) (E : List (Term bytes)) → ((m ≡ 0 → ⊥) → g ≡ bytes.𝟘) → (d : Dec (bytes.mul (bytes.add (byte p) (byte q)) g ≡ bytes.𝟘))
    → length (keep bytes d (x, bytes.mul (bytes.add (byte p) (byte q)) g) E) ≤ apart m p q + length E
keep_apart m p q g x E v d = go (ℕ_discrete m 0) (ℕ_discrete p q)
  where
    go : Dec (m ≡ 0) → Dec (p ≡ q) → length (keep bytes d (x, bytes.mul (bytes.add (byte p) (byte q)) g) E) ≤ apart m p q + length E
    go (no n) e = omega (arith, keep_none x _ E d (ap (bytes.mul (bytes.add (byte p) (byte q))) (v n) ∙ mul_zero bytes (bytes.add (byte p) (byte q))))
    go (yes z) (yes e) = omega (arith, keep_none x _ E d (ap (λ (u : Fin 256). bytes.mul u g) (add_eq_zero bytes (byte p) (byte q) (ap byte e)) ∙ zero_mul bytes g))
    go (yes z) (no n) = omega (arith, keep_most x _ E d, apart_clear m p q z, unequal_other p q n)

add_most : (a n k u : ℕ) → a ≤ n + k → k ≤ u → a ≤ n + u
add_most a n k u h l = omega arith

pub weight_unmarked : (g : List (Fin 256)) (x : Fin 256) (ms a b : List ℕ) → length ms ≡ length b → length a ≡ length b → Covered g x ms
    → weight bytes (weighted bytes g (terms bytes (byte 2) x (plus (ops bytes) (elements a) (elements b)))) ≤ unmarked ms a b
unfolding unmarked plus terms support weighted
weight_unmarked g x [] [] [] h k v = omega arith
weight_unmarked g x [] [] (q ∷ b) h k v = absurd (omega arith)
weight_unmarked g x [] (p ∷ a) [] h k v = absurd (omega arith)
weight_unmarked g x [] (p ∷ a) (q ∷ b) h k v = absurd (omega arith)
weight_unmarked g x (m ∷ ms) [] b h k v = absurd (omega arith)
weight_unmarked g x (m ∷ ms) (p ∷ a) [] h k v = absurd (omega arith)
weight_unmarked g x (m ∷ ms) (p ∷ a) (q ∷ b) h k v =
    add_most _ _ _ _ (keep_apart m p q (eval (ops bytes) g x) x _ v.0 _) (weight_unmarked g (bytes.mul x (byte 2)) ms a b (omega arith) (omega arith) v.1)

-- ---- against a list that has a zero wherever two blocks differ in a byte that is not marked

pub unmarked_zeros : (n : ℕ) (ms a b l : List ℕ) → length ms ≡ length l → ((i : ℕ) → i < length l → get_or ms i 0 ≡ 0 → (get_or a i 0 ≡ get_or b i 0 → ⊥) → get_or l i 0 ≡ 0)
    → unmarked ms a b ≤ length (zeros_from n l)
unfolding unmarked zeros_from
unmarked_zeros n [] a b l e h = omega arith
unmarked_zeros n (m ∷ ms) [] b l e h = omega arith
unmarked_zeros n (m ∷ ms) (x ∷ a) [] l e h = omega arith
unmarked_zeros n (m ∷ ms) (x ∷ a) (y ∷ b) [] e h = absurd (omega arith)
unmarked_zeros n (m ∷ ms) (x ∷ a) (y ∷ b) (z ∷ l) e h =
    let r = unmarked_zeros (n + 1) ms a b l (omega arith) (λ i k. h (suc i) (omega arith)) in
    omega (arith, length-append (pick (eqb z 0) (n ∷ []) []) (zeros_from (n + 1) l), one (ℕ_discrete m 0) (ℕ_discrete x y), r)
  where
    one : Dec (m ≡ 0) → Dec (x ≡ y) → apart m x y ≤ length (pick (eqb z 0) (n ∷ []) [])
    one (no k) q = omega (arith, apart_marked m x y k)
    one (yes k) (yes q) = omega (arith, apart_clear m x y k, unequal_same x y q)
    one (yes k) (no q) = rw (eq-eqb z 0 (h 0 (omega arith) k q)) (omega (arith, apart_clear m x y k, unequal_other x y q))

-- ---- a block and itself

pub unmarked_self : (ms a : List ℕ) → unmarked ms a a ≡ 0
unfolding unmarked
unmarked_self [] a = refl
unmarked_self (m ∷ ms) [] = refl
unmarked_self (m ∷ ms) (x ∷ a) = omega (arith, one (ℕ_discrete m 0), unmarked_self ms a)
  where
    one : Dec (m ≡ 0) → apart m x x ≡ 0
    one (yes e) = apart_clear m x x e ∙ unequal_same x x refl
    one (no n) = apart_marked m x x n
