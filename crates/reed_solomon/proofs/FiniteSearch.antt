-- Whether some list of n bytes has a property that is decided for each list, is decided. The search is only proved, never run.
-- Assumes nothing.
use mathlib.Core.Path.{◌≡◌, refl, ap, subst}
use mathlib.Core.List.{List, [], ◌∷◌}
use Prim.Native.Nat.{ℕ, zero, suc, ◌<◌}
use Prim.{tt}
use native.Mathlib.Nat.{not-suc-le-zero, le_refl}
use native.Mathlib.Decide.{ℕ_discrete}
use native.Mathlib.Omega.{arith}
use lib.ListN.{length}
use Rattle.common.specs.Lists.{Bytes}

-- a number below n with the property
pub record Below (P : ℕ → Type 0) (n : ℕ) : Type 0 where
  pub number : ℕ
  pub small : number < n
  pub holds : P number

below_search : (P : ℕ → Type 0) → ((k : ℕ) → Dec (P k)) → (n : ℕ) → Dec (Below P n)
below_search P d zero = no (λ b. not-suc-le-zero b.small)
below_search P d (suc n) = go (d n) (below_search P d n)
  where
    last : (b : Below P (suc n)) → (P n → ⊥) → Dec (b.number ≡ n) → Below P n
    last b h (yes e) = absurd (h (subst P e b.holds))
    last b h (no e) = record { number = b.number; small = omega (arith, b.small); holds = b.holds }

    go : Dec (P n) → Dec (Below P n) → Dec (Below P (suc n))
    go (yes p) r = yes (record { number = n; small = le_refl (suc n); holds = p })
    go (no p) (yes r) = yes (record { number = r.number; small = omega (arith, r.small); holds = r.holds })
    go (no p) (no r) = no (λ b. r (last b p (ℕ_discrete b.number n)))

-- n bytes with the property
pub record Found (P : List ℕ → Type 0) (n : ℕ) : Type 0 where
  pub list : List ℕ
  pub size : length list ≡ n
  pub small : Bytes list
  pub holds : P list

pub list_search : (n : ℕ) (P : List ℕ → Type 0) → ((l : List ℕ) → Dec (P l)) → Dec (Found P n)
list_search zero P d = go (d [])
  where
    empty : (l : List ℕ) → length l ≡ 0 → P l → P []
    empty [] e p = p
    empty (x ∷ l) e p = absurd (omega arith)

    go : Dec (P []) → Dec (Found P zero)
    go (yes p) = yes (record { list = []; size = refl; small = tt; holds = p })
    go (no p) = no (λ f. p (empty f.list f.size f.holds))
list_search (suc n) P d = go (list_search n (λ l. Below (λ x. P (x ∷ l)) 256) (λ l. below_search (λ x. P (x ∷ l)) (λ x. d (x ∷ l)) 256))
  where
    split : (l : List ℕ) → length l ≡ suc n → Bytes l → P l → Found (λ l. Below (λ x. P (x ∷ l)) 256) n
    split [] e b p = absurd (omega arith)
    split (x ∷ l) e b p = record { list = l; size = omega arith; small = b.1; holds = record { number = x; small = b.0; holds = p } }

    go : Dec (Found (λ l. Below (λ x. P (x ∷ l)) 256) n) → Dec (Found P (suc n))
    go (yes f) = yes (record { list = f.holds.number ∷ f.list; size = ap suc f.size; small = (f.holds.small, f.small); holds = f.holds.holds })
    go (no f) = no (λ g. f (split g.list g.size g.small g.holds))
