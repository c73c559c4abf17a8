-- How many degrees are listed: no more than the erasures and the degree of the locator.
-- Assumes nothing.
use mathlib.Core.Path.{◌≡◌, refl, sym, ap, ◌∙◌, subst}
use mathlib.Core.List.{List, [], ◌∷◌, map}
use mathlib.Core.Logic.{◌⊎◌, inl, inr}
use Prim.Native.Nat.{ℕ, suc, ◌+◌, ◌≤◌, ◌<◌, Fin}
use Prim.{tt}
use native.Mathlib.Decide.{ℕ_discrete}
use native.Mathlib.Nat.{zero-add}
use native.Mathlib.Omega.{arith}
use lib.ListN.{length, get_or, take, length-map, length-take, get_or-map}
use Rattle.common.specs.Lists.{All}
use Rattle.algebra.specs.Field.{ops}
use Rattle.algebra.specs.Polynomial.{eval}
use Rattle.algebra.proofs.Lists.{Distinct}
use Rattle.algebra.proofs.Polynomial.{Zero, eval_take, Zero-take, root_count}
use Rattle.galois.proofs.Instance.{bytes, byte, byte_zero, powers_differ}
use Rattle.galois.proofs.Elements.{elements, alpha}
use Rattle.error_correction.specs.Correction.{EndsAt, values_of, roots_of, one_polynomial}
use Rattle.error_correction.proofs.RootSearch.{length_values, value_erased, value_kept}
use Rattle.error_correction.proofs.Zeros.{zeros_all, zeros_has, zeros_distinct, zeros_shared}

-- the degrees listed for marks u and a polynomial q
module _ (u q : List ℕ) where
  -- what holds at every zero holds of every degree listed, and the other way round
  pub roots_each : (P : ℕ → Type 0) → ((i : ℕ) → i < 204 → get_or (values_of u q) i 0 ≡ 0 → P i) → All P (roots_of u q)
  roots_each P h = zeros_all P 0 (values_of u q) (λ i b z. subst P (sym (zero-add i)) (h i (omega (arith, length_values u q)) z))

  pub roots_member : (P : ℕ → Type 0) → All P (roots_of u q) → (i : ℕ) → i < 204 → get_or (values_of u q) i 0 ≡ 0 → P i
  roots_member P h i b z = subst P (zero-add i) (zeros_has P 0 (values_of u q) h i (omega (arith, length_values u q)) z)

  pub roots_range : All (λ d. d < 204) (roots_of u q)
  roots_range = roots_each (λ d. d < 204) (λ i h z. h)

  pub roots_distinct : Distinct (map alpha (roots_of u q))
  roots_distinct = zeros_distinct alpha 255 0 (values_of u q) powers_differ (omega (arith, length_values u q))

pub All-points : (P : Fin 256 → Type 0) (l : List ℕ) → All (λ d. P (alpha d)) l → All P (map alpha l)
All-points P [] h = tt
All-points P (d ∷ l) h = (h.0, All-points P l h.1)

-- a polynomial that is not zero has no more roots than its degree
module _ (q : List ℕ) (d : ℕ) (n : Zero bytes (elements q) → ⊥) (z : (c : ℕ) → d < c → get_or (elements q) c bytes.𝟘 ≡ bytes.𝟘) where
  abbrev short : List (Fin 256)
  short = take (suc d) (elements q)

  pub short_value : (y : Fin 256) → eval (ops bytes) short y ≡ eval (ops bytes) (elements q) y
  short_value y = eval_take bytes (suc d) (elements q) y z

  pub roots_few : length (roots_of [] q) ≤ d
  roots_few =
      omega (
        arith,
        length-map (roots_of [] q) alpha,
        length-take (suc d) (elements q),
        root_count bytes (map alpha (roots_of [] q)) short (λ e. n (Zero-take bytes (suc d) (elements q) z e)) (roots_distinct [] q)
            (All-points (λ y. eval (ops bytes) short y ≡ bytes.𝟘) (roots_of [] q)
            (roots_each [] q (λ d. eval (ops bytes) short (alpha d) ≡ bytes.𝟘) (λ i h e. short_value (alpha i) ∙ native.Mathlib.Fin.val_path (sym (value_kept [] q i h refl) ∙ e)))),
      )

  -- a degree is listed where it is an erasure or a root
  shared : (u : List ℕ) (i : ℕ) → i < 204 → get_or (values_of u q) i 0 ≡ 0 → Dec (get_or u i 0 ≡ 0) → (get_or (values_of u one_polynomial) i 0 ≡ 0) ⊎ (get_or (values_of [] q) i 0 ≡ 0)
  shared u i h e (yes k) = inr (value_kept [] q i h refl ∙ sym (value_kept u q i h k) ∙ e)
  shared u i h e (no k) = inl (value_erased u one_polynomial i h k)

  -- with the erasures
  pub roots_most : (u : List ℕ) → length (roots_of u q) ≤ length (roots_of u one_polynomial) + d
  roots_most u =
      omega (
        arith,
        zeros_shared 0 (values_of u q) (values_of u one_polynomial) (values_of [] q) (length_values u one_polynomial ∙ sym (length_values u q)) (length_values [] q ∙ sym (length_values u q))
            (λ i h e. shared u i (omega (arith, length_values u q)) e (ℕ_discrete (get_or u i 0) 0)),
        roots_few,
      )

-- the same for the degree that was found
pub ends_most : (u q : List ℕ) (d : ℕ) → EndsAt q d → (Zero bytes (elements q) → ⊥) → length (roots_of u q) ≤ length (roots_of u one_polynomial) + d
ends_most u q d e n = roots_most q d n (λ c h. ap (get_or (elements q) c) (sym byte_zero) ∙ get_or-map byte q c 0 ∙ ap byte (e.zeros c h) ∙ byte_zero) u
