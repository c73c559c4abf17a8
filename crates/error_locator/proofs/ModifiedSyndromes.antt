-- The syndromes as marked places modify them, one place after the other.
-- Assumes nothing.
use mathlib.Core.Path.{◌≡◌, sym, ap, ap₂, ◌∙◌}
use mathlib.Core.List.{List, ◌∷◌}
use Prim.Native.Nat.{ℕ, suc, ◌+◌, ◌-◌, ◌≤◌, ◌<◌, Fin}
use native.Mathlib.Nat.{add-zero}
use native.Mathlib.Omega.{arith}
use lib.ListN.{length, get_or, drop, length-map}
use lib.Seq.{drop-cons, drop-length}
use Rattle.common.proofs.Lists.{get_d_map_in}
use Rattle.algebra.specs.Field.{Field}
use Rattle.algebra.specs.Polynomial.{plus, scale}
use Rattle.algebra.proofs.Ring.{ring}
use Rattle.algebra.proofs.Polynomial.{from_roots}
use Rattle.algebra.proofs.Syndromes.{dot, dot_ext, dot_times_linear}
use Rattle.galois.specs.Field256.{numbers, mul, scaled}
use Rattle.galois.proofs.Instance.{bytes, byte, byte_add, byte_mul}
use Rattle.galois.proofs.Elements.{elements}
use Rattle.galois.proofs.Words.{length-sum, sum_at}
use Rattle.error_locator.specs.Locator.{Lowered}

module _ (K : Field) where
  open K use {F, add as ◌⊕◌, mul as ◌⊗◌, 𝟘, 𝟙}

  infixl 65 ◌⊕◌
  infixl 70 ◌⊗◌
  one_term : (u : F) → u ≡ 𝟙 ⊗ u ⊕ 𝟘
  one_term u = simp ring

-- the places from l on are done
pub record ModifiedTo (s rs t : List ℕ) (l : ℕ) : Type 0 where
  pub most : l ≤ length rs
  pub len : length t ≡ 16
  pub each : (j : ℕ) → j + (length rs - l) < 16 → byte (get_or t j 0) ≡ dot bytes (from_roots bytes (elements (drop l rs))) (λ k. byte (get_or s (j + k) 0))

pub modified_none : (s rs : List ℕ) (n : ℕ) → length s ≡ 16 → length rs ≡ n → ModifiedTo s rs s n
unfolding dot from_roots
modified_none s rs n l e =
    record {
      most = omega arith;
      len = l;
      each = λ j h. ap (λ (i : ℕ). byte (get_or s i 0)) (sym (add-zero j)) ∙ one_term bytes (byte (get_or s (j + 0) 0))
          ∙ ap (λ (r : List ℕ). dot bytes (from_roots bytes (elements r)) (λ k. byte (get_or s (j + k) 0))) (sym (ap (λ (k : ℕ). drop k rs) (sym e) ∙ drop-length rs));
    }

module _ (s rs t low : List ℕ) (l : ℕ) (more : 0 < l) (n : length low ≡ 16) (lower : Lowered t low) (m : ModifiedTo s rs t l) where
  abbrev r : ℕ
  r = get_or rs (l - 1) 0

  abbrev pub next : List ℕ
  next = plus numbers (scaled r t) low

  scaled_len : length (scaled r t) ≡ 16
  unfolding scale
  scaled_len = length-map t (mul r) ∙ m.len

  scaled_at : (j : ℕ) → j < 16 → get_or (scaled r t) j 0 ≡ mul r (get_or t j 0)
  unfolding scale
  scaled_at j h = get_d_map_in (mul r) t 0 0 j (omega (arith, m.len))

  rest : drop (l - 1) rs ≡ r ∷ drop l rs
  rest =
      let k : suc (l - 1) ≡ l = omega arith in
      drop-cons rs (l - 1) 0 (omega (arith, m.most)) ∙ ap (λ (k : ℕ). r ∷ drop k rs) k

  abbrev g : List (Fin 256)
  g = from_roots bytes (elements (drop l rs))

  following : (j k : ℕ) → j + 1 + k ≡ j + suc k
  following j k = omega arith

  one : (j : ℕ) → j + (length rs - (l - 1)) < 16 → byte (get_or next j 0) ≡ dot bytes (from_roots bytes (elements (drop (l - 1) rs))) (λ k. byte (get_or s (j + k) 0))
  unfolding from_roots
  one j h =
      ap byte (sum_at (scaled r t) low j (scaled_len ∙ sym n)) ∙ byte_add (get_or (scaled r t) j 0) (get_or low j 0)
      ∙ ap₂ bytes.add
      (ap byte (scaled_at j (omega arith)) ∙ byte_mul r (get_or t j 0) ∙ ap (λ (u : Fin 256). bytes.mul (byte r) u) (m.each j (omega arith)))
      (ap byte (lower.each j) ∙ m.each (j + 1) (omega (arith, m.most))
      ∙ dot_ext bytes g (λ k. byte (get_or s (j + 1 + k) 0)) (λ k. byte (get_or s (j + suc k) 0)) (λ k b. ap (λ (i : ℕ). byte (get_or s i 0)) (following j k)))
      ∙ sym (dot_times_linear bytes (byte r) g (λ k. byte (get_or s (j + k) 0)))
      ∙ ap (λ (q : List ℕ). dot bytes (from_roots bytes (elements q)) (λ k. byte (get_or s (j + k) 0))) (sym rest)

  pub modified_more : ModifiedTo s rs next (l - 1)
  modified_more = record { most = omega (arith, m.most); len = length-sum (scaled r t) low (scaled_len ∙ sym n) ∙ scaled_len; each = one }
