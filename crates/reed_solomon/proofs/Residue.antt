-- The test of a residue for zero, and the syndromes; check bytes and residue as the only sixteen bytes with their values at the roots of g.
-- Assumes nothing.
use mathlib.Core.Path.{◌≡◌, refl, sym, ap, ap₂, ◌∙◌}
use mathlib.Core.Bool.{Bool, true, false}
use mathlib.Core.List.{List, [], ◌∷◌, ◌++◌, append-nil, reverse, reverse-cons}
use Prim.Native.Nat.{ℕ, zero, suc, ◌+◌, ◌-◌, ◌<◌, Fin}
use native.Mathlib.Decide.{ℕ_discrete}
use native.Mathlib.Nat.{zero-add}
use native.Mathlib.Omega.{arith}
use borrow.Author.Tests.{eq-eqb, ne_eqb}
use lib.ListN.{length, get_or, take, drop, replicate, length-take, length-drop, length-reverse, take-append-drop, get_or-append}
use lib.Seq.{get_or-take, get_or-append-add}
use Rattle.common.specs.Lists.{Bytes}
use Rattle.common.proofs.Choice.{false_true}
use Rattle.algebra.specs.Field.{ops}
use Rattle.algebra.specs.Polynomial.{power, eval}
use Rattle.algebra.proofs.Ring.{add_comm, zero_add as field-zero-add}
use Rattle.galois.proofs.Instance.{bytes, byte, byte_zero, byte_inj}
use Rattle.galois.specs.Lanes.{PowersFrom, ValuesAt}
use Rattle.galois.proofs.Elements.{elements, alpha}
use Rattle.galois.proofs.LanePowers.{powers_at, values_bytes}
use Rattle.galois.proofs.Words.{length-sum, bytes_plus, bytes_drop}
use Rattle.error_locator.specs.Locator.{Modified}
use Rattle.reed_solomon.specs.Encode.{check_bytes}
use Rattle.reed_solomon.specs.Steps.{residue_of, all_zero, SameValues, SyndromesOf, Recurs, Recurring}
use Rattle.reed_solomon.proofs.Codewords.{block_syndrome, generator_root, same_sixteen}
use Rattle.reed_solomon.proofs.LongDivision.{high, high_append, high_plus, high_zeros, high_check, check_remainder}

-- ---- the test for zero

-- the test tells of each byte
pub zero_each : (l : List ℕ) → all_zero l ≡ true → (j : ℕ) → get_or l j 0 ≡ 0
zero_each [] h j = refl
zero_each (x ∷ l) h j = go (ℕ_discrete x 0) j (zero_each l)
  where
    go : Dec (x ≡ 0) → (j : ℕ) → (all_zero l ≡ true → (k : ℕ) → get_or l k 0 ≡ 0) → get_or (x ∷ l) j 0 ≡ 0
    go (yes e) zero r = e
    go (yes e) (suc k) r = r (rw (eq-eqb x 0 e) at h) k
    go (no e) k r = false_true (rw (ne_eqb x 0 e) at h)

pub zero_of : (l : List ℕ) → ((j : ℕ) → j < length l → get_or l j 0 ≡ 0) → all_zero l ≡ true
zero_of [] h = refl
zero_of (x ∷ l) h = rw (eq-eqb x 0 (h 0 (omega arith))) (zero_of l (λ j b. h (suc j) (omega arith)))

-- ---- the syndromes

-- an element of a list in the other order
pub reverse_at : (l : List ℕ) (i k : ℕ) → i + k + 1 ≡ length l → get_or (reverse l) i 0 ≡ get_or l k 0
reverse_at [] i k h = absurd (omega arith)
reverse_at (x ∷ l) i zero h =
    let n : i ≡ length (reverse l) + 0 = omega (arith, length-reverse l) in
    ap₂ (λ (r : List ℕ) (j : ℕ). get_or r j 0) (reverse-cons x l) n ∙ get_or-append-add (reverse l) (x ∷ []) 0 0
reverse_at (x ∷ l) i (suc k) h =
    ap (λ (r : List ℕ). get_or r i 0) (reverse-cons x l) ∙ get_or-append (reverse l) (x ∷ []) 0 i (omega (arith, length-reverse l))
    ∙ reverse_at l i k (omega arith)

pub syndromes_of : (l q x s : List ℕ) → q ≡ reverse l → PowersFrom 0 x → ValuesAt q x s → SyndromesOf l s
syndromes_of l q x s e p v =
    record {
      each = λ j h. values_bytes v j h
          ∙ ap₂ (λ (r : List ℕ) (u : Fin 256). eval (ops bytes) (elements r) u) e (powers_at 0 x p j h ∙ ap alpha (zero-add j));
    }

-- ---- the check bytes and the residue, known by their values at the roots

pub check_of_values : (message r : List ℕ) → length message ≡ 188 → length r ≡ 16 → Bytes r → SameValues r (message ++ replicate (204 - length message) 0) → r ≡ check_bytes message
check_of_values message r n m b v =
    same_sixteen r (check_bytes message) m (check_remainder message).size b (check_remainder message).small
    (λ j h.
    let x : Fin 256 = alpha j in
    let k : 204 - length message ≡ 16 = omega arith in
    v.each j h ∙ ap (λ (i : ℕ). high x (message ++ replicate i 0)) k ∙ high_append x message (replicate 16 0)
    ∙ ap (λ (u : Fin 256). bytes.add u (bytes.mul (power (ops bytes) x 16) (high x message))) (high_zeros x 16)
    ∙ field-zero-add bytes (bytes.mul (power (ops bytes) x 16) (high x message)) ∙ sym (high_check x (generator_root j h) message))

module _ (block : List ℕ) (n : length block ≡ 204) where
  last : length (drop 188 block) ≡ 16
  last = omega (arith, length-drop 188 block)

  sides : length (check_bytes (take 188 block)) ≡ length (drop 188 block)
  sides = (check_remainder (take 188 block)).size ∙ sym last

  pub residue_value : (j : ℕ) → j < 16 → high (alpha j) (residue_of block) ≡ block_syndrome block j
  unfolding residue_of
  residue_value j h =
      high_plus (alpha j) (check_bytes (take 188 block)) (drop 188 block) sides
      ∙ ap (λ (u : Fin 256). bytes.add u (high (alpha j) (drop 188 block))) (high_check (alpha j) (generator_root j h) (take 188 block))
      ∙ add_comm bytes (bytes.mul (power (ops bytes) (alpha j) 16) (high (alpha j) (take 188 block))) (high (alpha j) (drop 188 block))
      ∙ ap (λ (k : ℕ). bytes.add (high (alpha j) (drop 188 block)) (bytes.mul (power (ops bytes) (alpha j) k) (high (alpha j) (take 188 block)))) (sym last)
      ∙ sym (high_append (alpha j) (take 188 block) (drop 188 block)) ∙ ap (high (alpha j)) (take-append-drop 188 block)

  residue_length : length (residue_of block) ≡ 16
  unfolding residue_of
  residue_length = length-sum (check_bytes (take 188 block)) (drop 188 block) sides ∙ (check_remainder (take 188 block)).size

  residue_bytes : Bytes block → Bytes (residue_of block)
  unfolding residue_of
  residue_bytes b = bytes_plus (check_bytes (take 188 block)) (drop 188 block) (check_remainder (take 188 block)).small (bytes_drop 188 block b)

  pub residue_of_values : (r : List ℕ) → length r ≡ 16 → Bytes block → Bytes r → SameValues r (block ++ replicate (204 - length block) 0) → r ≡ residue_of block
  residue_of_values r m bb b v =
      same_sixteen r (residue_of block) m residue_length b (residue_bytes bb)
      (λ j h.
      let k : 204 - length block ≡ 0 = omega arith in
      v.each j h ∙ ap (λ (i : ℕ). high (alpha j) (block ++ replicate i 0)) k ∙ ap (high (alpha j)) (append-nil block) ∙ sym (residue_value j h))

-- ---- the recurrence

-- the syndromes that all the places modify are zero
pub recurring : (s rs t : List ℕ) (n : ℕ) → length rs ≡ n → length t ≡ 16 → ((i : ℕ) → get_or t i 0 < 256) → Modified s rs t → (b : Bool) → b ≡ all_zero (take (16 - n) t) → Recurring s rs b
recurring s rs t n e l small m true h =
    record {
      each = λ j k.
          sym (m.each j k) ∙ ap byte (sym (get_or-take (16 - n) t j 0 (omega arith)) ∙ zero_each (take (16 - n) t) (sym h) j) ∙ byte_zero;
    }
recurring s rs t n e l small m false h = λ r. false_true (h ∙ zero_of (take (16 - n) t) (λ j k. zero_at r j (omega (arith, length-take (16 - n) t))))
  where
    zero_at : Recurs s rs → (j : ℕ) → j < 16 - n → get_or (take (16 - n) t) j 0 ≡ 0
    zero_at r j k =
        get_or-take (16 - n) t j 0 k
        ∙ byte_inj (get_or t j 0) 0 (small j) (omega arith) (m.each j (omega arith) ∙ r.each j (omega arith) ∙ sym byte_zero)
