-- Facts at each place of each mode's pattern, by computation.
-- Assumes nothing.
use mathlib.Core.Path.{◌≡◌, refl, ap, subst, sym, ◌∙◌}
use mathlib.Core.Bool.{Bool, true, false}
use mathlib.Core.List.{List, [], ◌∷◌}
use mathlib.Core.Logic.{⊎_elim}
use Prim.Native.Nat.{ℕ, zero, suc, ◌≤◌, ◌<◌}
use native.Mathlib.Omega.{arith}
use native.Mathlib.Nat.{le_of_suc-le-suc, not-suc-le-zero, eq-or-lt_of_le}
use borrow.Author.Tests.{ltb-true, ltb-false}
use lib.Dec.{T, ltb, leb, eqb, eqb→eq, leb→le}
use lib.ListN.{get_or, get_or-eq_default}
use Rattle.common.proofs.Choice.{false_true}
use Rattle.common.proofs.Computed as computed
use Rattle.puncturing.specs.Mode.{Mode, modes, no_mode, mode_of, mode_count, qpsk_count, longest_pattern}
use Rattle.puncturing.specs.Step.{pattern_length}

-- a test that passes at each place of the first n modes
abbrev pub tested_of : ℕ → (ℕ → ℕ → Bool) → Bool
tested_of n f = computed.below (λ r. computed.below (f r) (pattern_length r)) n

pub tested_of_lem : (n : ℕ) (f : ℕ → ℕ → Bool) → T (tested_of n f) → (r p : ℕ) → r < n → p < pattern_length r → T (f r p)
tested_of_lem n f t r p h k =
    computed.below_at (f r) (pattern_length r) (computed.below_at (λ r. computed.below (f r) (pattern_length r)) n t r h) p k

-- two numbers that are equal at each place
abbrev pub agreed_of : ℕ → (ℕ → ℕ → ℕ) → (ℕ → ℕ → ℕ) → Bool
agreed_of n f g = tested_of n (λ r p. eqb (f r p) (g r p))

pub agreed_of_lem : (n : ℕ) (f g : ℕ → ℕ → ℕ) → T (agreed_of n f g) → (r p : ℕ) → r < n → p < pattern_length r → f r p ≡ g r p
agreed_of_lem n f g t r p h k = eqb→eq (f r p) (g r p) (tested_of_lem n (λ r p. eqb (f r p) (g r p)) t r p h k)

-- the table of the pattern lengths
abbrev pub lengths : List ℕ
lengths = 1 ∷ 4 ∷ 3 ∷ 5 ∷ 7 ∷ 1 ∷ []

pub length_is : (r : ℕ) → r < mode_count → get_or lengths r 0 ≡ pattern_length r
unfolding mode_of
length_is r h = computed.agree_at (λ r. get_or lengths r 0) pattern_length mode_count tt r h

pub length_le : (r : ℕ) → r < mode_count → pattern_length r ≤ longest_pattern
unfolding mode_of
length_le r h = leb→le _ _ (computed.below_at (λ r. leb (pattern_length r) longest_pattern) mode_count tt r h)

-- of the five QPSK rates
abbrev pub tested : (ℕ → ℕ → Bool) → Bool
tested = tested_of qpsk_count

pub tested_at : (f : ℕ → ℕ → Bool) → T (tested f) → (r p : ℕ) → r < qpsk_count → p < pattern_length r → T (f r p)
tested_at = tested_of_lem qpsk_count

abbrev pub agreed : (ℕ → ℕ → ℕ) → (ℕ → ℕ → ℕ) → Bool
agreed = agreed_of qpsk_count

pub agreed_at : (f g : ℕ → ℕ → ℕ) → T (agreed f g) → (r p : ℕ) → r < qpsk_count → p < pattern_length r → f r p ≡ g r p
agreed_at = agreed_of_lem qpsk_count

-- a QPSK rate is one of the modes
pub up : (r : ℕ) → r < qpsk_count → r < mode_count
up r h = omega arith

-- what no mode has the number of
pub outside : (r : ℕ) → mode_count ≤ r → mode_of r ≡ no_mode
unfolding mode_of modes
outside r h = get_or-eq_default modes no_mode h

pub known : (r p : ℕ) → p < pattern_length r → r < mode_count
known r p h = by (ltb r mode_count) refl
  where
    by : (t : Bool) → ltb r mode_count ≡ t → r < mode_count
    by true e = ltb-true r mode_count e
    by false e = let z = ap (λ (m : Mode). m.bits) (outside r (ltb-false r mode_count e)) in absurd (omega arith)

-- a number whose mode is sent is that of a mode
pub sent_known : (r : ℕ) → (mode_of r).sent ≡ true → r < mode_count
sent_known r s = by (ltb r mode_count) refl
  where
    by : (t : Bool) → ltb r mode_count ≡ t → r < mode_count
    by true e = ltb-true r mode_count e
    by false e = false_true (sym (ap (λ (m : Mode). m.sent) (outside r (ltb-false r mode_count e))) ∙ s)

-- a fact that no test decides, at each number below n, the greatest first
infixr 5 ◌&◌
pub data Below (P : ℕ → Type 0) : ℕ → Type 0 where
  end : Below P zero
  ◌&◌ : {n : ℕ} → P n → Below P n → Below P (suc n)

pub below : (P : ℕ → Type 0) (n : ℕ) → Below P n → (k : ℕ) → k < n → P k
below P zero end k h = absurd (not-suc-le-zero h)
below P (suc n) (t & ts) k h = ⊎_elim (λ e. subst P (sym e) t) (λ l. below P n ts k l) (eq-or-lt_of_le (le_of_suc-le-suc h))

-- the same at each place of the first n modes
abbrev pub EverywhereOf : ℕ → (ℕ → ℕ → Type 0) → Type 0
EverywhereOf n P = Below (λ r. Below (P r) (pattern_length r)) n

pub everywhere_of : (n : ℕ) (P : ℕ → ℕ → Type 0) → EverywhereOf n P → (r p : ℕ) → r < n → p < pattern_length r → P r p
everywhere_of n P t r p h k = below (P r) (pattern_length r) (below (λ r. Below (P r) (pattern_length r)) n t r h) p k

abbrev pub Everywhere : (ℕ → ℕ → Type 0) → Type 0
Everywhere = EverywhereOf qpsk_count

pub everywhere : (P : ℕ → ℕ → Type 0) → Everywhere P → (r p : ℕ) → r < qpsk_count → p < pattern_length r → P r p
everywhere = everywhere_of qpsk_count
