-- The weights of differences have the potentials of the tables: one test, computed over every rate, place, difference and bit.
-- So the free distance of the code is 10 at rate 1/2, and 6, 5, 4 and 3 at the punctured rates, or more.
-- Assumes nothing.
use mathlib.Core.Path.{◌≡◌, refl, sym, ap, subst}
use mathlib.Core.Bool.{Bool, true, false}
use mathlib.Core.List.{List, [], ◌∷◌, flatten}
use Prim.Native.Nat.{ℕ, zero, suc, ◌+◌, ◌*◌, ◌%◌, ◌≤◌, ◌<◌}
use native.Mathlib.Nat.{mod-lt, mul-le-mul_left}
use native.Mathlib.Omega.{arith}
use lib.Dec.{T, leb, leb→le, ltb, ltb→lt, eqb, eqb→eq}
use lib.ListN.{get_or}
use Rattle.common.proofs.Computed.{both, both_left, both_right, below, below_at}
use Rattle.convolutional_code.specs.Code.{next_memory}
use Rattle.puncturing.specs.Mode.{mode_of, qpsk_count}
use Rattle.puncturing.specs.Step.{pattern_length, place_next}
use Rattle.puncturing.proofs.Places.{tested_at}
use Rattle.puncturing.proofs.Steps.{some_bits}
use Rattle.branch_metrics.specs.Steps.{kind}
use Rattle.reader.proofs.Costs.{next_mod}
use Rattle.noise_tolerance.proofs.Difference.{weight_at, weight}
use Rattle.noise_tolerance.proofs.Exchange.{Potentials}
use Rattle.noise_tolerance.proofs.Homing.{Homeward}
use Rattle.noise_tolerance.proofs.Tables.{free, slope, rise, lead, lag, top, homing, homes, growths}

unfoldable pub look : List (List ℕ) → ℕ → ℕ → ℕ
look t place d = get_or (get_or t place []) d 0

-- a step of a bit out of a difference
unfoldable home_test : ℕ → ℕ → ℕ → ℕ → Bool
home_test r p d z = leb (look (homes r) p d) (weight_at r p d z + look (homes r) (place_next r p) (next_memory d z))

unfoldable growth_test : ℕ → ℕ → ℕ → ℕ → Bool
growth_test r p d z = leb (rise r + look (growths r) (place_next r p) (next_memory d z)) (slope r * weight_at r p d z + look (growths r) p d)

unfoldable step_test : ℕ → ℕ → ℕ → ℕ → Bool
step_test r p d z = both (home_test r p d z) (growth_test r p d z)

-- no difference, and the step out of it
unfoldable zero_test : ℕ → ℕ → Bool
zero_test r p = eqb (look (homes r) p 0) 0

unfoldable leave_test : ℕ → ℕ → Bool
leave_test r p = leb (free r) (weight_at r p 0 1 + look (homes r) (place_next r p) 32)

unfoldable rise_test : ℕ → ℕ → Bool
rise_test r p = leb (rise r + lead r + look (growths r) (place_next r p) 32) (slope r * weight_at r p 0 1 + lag r)

unfoldable seen_test : ℕ → ℕ → Bool
seen_test r p = ltb 0 (weight_at r p 0 1)

unfoldable start_test : ℕ → ℕ → Bool
start_test r p = both (zero_test r p) (both (leave_test r p) (both (rise_test r p) (seen_test r p)))

unfoldable test : ℕ → ℕ → Bool
test r p = both (start_test r p) (below (λ d. below (step_test r p (suc d)) 2) 63)

tested : (r p : ℕ) → r < qpsk_count → p < pattern_length r → T (test r p)
unfolding test start_test step_test home_test growth_test zero_test leave_test rise_test seen_test look homes growths free slope rise lead lag weight_at kind mode_of flatten
tested = tested_at test tt

-- the potentials at step k
unfoldable pub home : ℕ → ℕ → ℕ → ℕ
home rate k d = look (homes rate) (k % pattern_length rate) d

unfoldable pub growth : ℕ → ℕ → ℕ → ℕ
growth rate k d = look (growths rate) (k % pattern_length rate) d

module _ (r : ℕ) (hr : r < qpsk_count) (k : ℕ) where
  abbrev place : ℕ
  place = k % pattern_length r

  passes : T (test r place)
  passes = tested r place hr (mod-lt k (some_bits r hr))

  start_passes : T (start_test r place)
  unfolding test
  start_passes = both_left (start_test r place) (below (λ d. below (step_test r place (suc d)) 2) 63) passes

  step_passes : (d z : ℕ) → 0 < d → d < 64 → z < 2 → T (step_test r place d z)
  unfolding test
  step_passes zero z h l b = absurd (omega arith)
  step_passes (suc d) z h l b =
      below_at (step_test r place (suc d)) 2
      (below_at (λ d. below (step_test r place (suc d)) 2) 63 (both_right (start_test r place) (below (λ d. below (step_test r place (suc d)) 2) 63) passes) d (omega arith)) z b

  abbrev zero_ok : Bool
  zero_ok = zero_test r place

  abbrev leave_ok : Bool
  leave_ok = leave_test r place

  abbrev rise_ok : Bool
  rise_ok = rise_test r place

  abbrev seen_ok : Bool
  seen_ok = seen_test r place

  after_zero : T (both leave_ok (both rise_ok seen_ok))
  unfolding start_test
  after_zero = both_right zero_ok (both leave_ok (both rise_ok seen_ok)) start_passes

  after_leave : T (both rise_ok seen_ok)
  after_leave = both_right leave_ok (both rise_ok seen_ok) after_zero

  home_zero : home r k 0 ≡ 0
  unfolding start_test home zero_test
  home_zero = eqb→eq _ _ (both_left zero_ok (both leave_ok (both rise_ok seen_ok)) start_passes)

  home_leaving : free r ≤ weight r k 0 1 + home r (suc k) 32
  unfolding leave_test home
  home_leaving = rw (← (next_mod r k)) (leb→le _ _ (both_left leave_ok (both rise_ok seen_ok) after_zero))

  growth_starting : rise r + lead r + growth r (suc k) 32 ≤ slope r * weight r k 0 1 + lag r
  unfolding rise_test growth
  growth_starting = rw (← (next_mod r k)) (leb→le _ _ (both_left rise_ok seen_ok after_leave))

  -- a bit that differs is seen at once
  pub weight_first : 0 < weight r k 0 1
  unfolding seen_test
  weight_first = ltb→lt _ _ (both_right rise_ok seen_ok after_leave)

  home_step : (d z : ℕ) → 0 < d → d < 64 → z < 2 → home r k d ≤ weight r k d z + home r (suc k) (next_memory d z)
  unfolding step_test home_test home
  home_step d z h l b = rw (← (next_mod r k)) (leb→le _ _ (both_left (home_test r place d z) (growth_test r place d z) (step_passes d z h l b)))

  growth_step : (d z : ℕ) → 0 < d → d < 64 → z < 2 → rise r + growth r (suc k) (next_memory d z) ≤ slope r * weight r k d z + growth r k d
  unfolding step_test growth_test growth
  growth_step d z h l b = rw (← (next_mod r k)) (leb→le _ _ (both_right (home_test r place d z) (growth_test r place d z) (step_passes d z h l b)))

-- no path falls further behind
unfoldable all_most : ℕ → List ℕ → Bool
all_most n [] = true
all_most n (x ∷ l) = both (leb x n) (all_most n l)

most_at : (n : ℕ) (l : List ℕ) → T (all_most n l) → (i : ℕ) → get_or l i 0 ≤ n
unfolding all_most
most_at n [] h zero = omega arith
most_at n [] h (suc i) = omega arith
most_at n (x ∷ l) h zero = leb→le x n (both_left (leb x n) (all_most n l) h)
most_at n (x ∷ l) h (suc i) = most_at n l (both_right (leb x n) (all_most n l) h) i

unfoldable top_test : ℕ → ℕ → Bool
top_test r p = all_most (top r) (get_or (growths r) p [])

top_tested : (r p : ℕ) → r < qpsk_count → p < pattern_length r → T (top_test r p)
unfolding top_test all_most top growths mode_of
top_tested = tested_at top_test tt

pub growth_most : (r k d : ℕ) → r < qpsk_count → growth r k d ≤ top r
unfolding growth look top_test
growth_most r k d hr = most_at (top r) (get_or (growths r) (k % pattern_length r) []) (top_tested r (k % pattern_length r) hr (mod-lt k (some_bits r hr))) d

-- from each difference one of the two bits is on a way home of least weight, and that way and the growth together are bounded
abbrev either : Bool → Bool → Bool
either true b = true
either false b = b

unfoldable toward : ℕ → ℕ → ℕ → ℕ → Bool
toward r p d z = leb (weight_at r p d z + look (homes r) (place_next r p) (next_memory d z)) (look (homes r) p d)

unfoldable homing_test : ℕ → ℕ → ℕ → Bool
homing_test r p d = both (either (toward r p d 0) (toward r p d 1)) (leb (slope r * look (homes r) p d + look (growths r) p d) (homing r))

unfoldable homing_tests : ℕ → ℕ → Bool
homing_tests r p = both (leb (slope r * look (homes r) p 0 + look (growths r) p 0) (homing r)) (below (λ d. homing_test r p (suc d)) 63)

homing_tested : (r p : ℕ) → r < qpsk_count → p < pattern_length r → T (homing_tests r p)
unfolding homing_tests homing_test toward look homes growths slope homing weight_at kind mode_of flatten
homing_tested = tested_at homing_tests tt

toward_home : (r k d z : ℕ) → T (toward r (k % pattern_length r) d z) → weight r k d z + home r (suc k) (next_memory d z) ≤ home r k d
unfolding toward home
toward_home r k d z h = rw (← (next_mod r k)) (leb→le _ _ h)

module _ (r : ℕ) (hr : r < qpsk_count) (k : ℕ) where
  abbrev spot : ℕ
  spot = k % pattern_length r

  all_homing : T (homing_tests r spot)
  all_homing = homing_tested r spot hr (mod-lt k (some_bits r hr))

  one_homing : (d : ℕ) → d < 63 → T (homing_test r spot (suc d))
  unfolding homing_tests
  one_homing d h =
      below_at (λ d. homing_test r spot (suc d)) 63
      (both_right (leb (slope r * look (homes r) spot 0 + look (growths r) spot 0) (homing r)) (below (λ d. homing_test r spot (suc d)) 63) all_homing) d h

  pub homing_most : (d : ℕ) → d < 64 → slope r * home r k d + growth r k d ≤ homing r
  unfolding home growth homing_tests homing_test
  homing_most zero h = leb→le _ _ (both_left (leb (slope r * look (homes r) spot 0 + look (growths r) spot 0) (homing r)) (below (λ d. homing_test r spot (suc d)) 63) all_homing)
  homing_most (suc d) h =
      leb→le _ _ (both_right (either (toward r spot (suc d) 0) (toward r spot (suc d) 1)) (leb (slope r * look (homes r) spot (suc d) + look (growths r) spot (suc d)) (homing r)) (one_homing d (omega arith)))

  -- the bit
  pub home_least : (u d : ℕ) → 0 < d → d < 64 → Homeward (λ k d z. u * weight r k d z) (λ k d. u * home r k d) k d
  unfolding homing_test
  home_least u zero h l = absurd (omega arith)
  home_least u (suc d) h l =
      by (toward r spot (suc d) 0) refl
      (both_left (either (toward r spot (suc d) 0) (toward r spot (suc d) 1)) (leb (slope r * look (homes r) spot (suc d) + look (growths r) spot (suc d)) (homing r)) (one_homing d (omega arith)))
    where
      made : (z : ℕ) → z < 2 → weight r k (suc d) z + home r (suc k) (next_memory (suc d) z) ≤ home r k (suc d) → Homeward (λ k d z. u * weight r k d z) (λ k d. u * home r k d) k (suc d)
      made z b e = record { bit = z; binary = b; least = omega (arith, mul-le-mul_left u e) }

      by : (t : Bool) → toward r spot (suc d) 0 ≡ t → T (either t (toward r spot (suc d) 1)) → Homeward (λ k d z. u * weight r k d z) (λ k d. u * home r k d) k (suc d)
      by true e h = made 0 (omega arith) (toward_home r k (suc d) 0 (subst T (sym e) tt))
      by false e h = made 1 (omega arith) (toward_home r k (suc d) 1 h)

-- each coded bit counts u
pub potentials : (u r : ℕ) → r < qpsk_count
    → Potentials (λ k d z. u * weight r k d z) (λ k d. u * home r k d) (λ k d. u * growth r k d) (u * free r) (slope r) (λ k. u * rise r) (u * lead r) (u * lag r)
potentials u r hr = record {
  at_home = λ k. let e = ap (λ (n : ℕ). u * n) (home_zero r hr k) in omega arith;
  homeward = λ k d z h l b. omega (arith, mul-le-mul_left u (home_step r hr k d z h l b));
  growing = λ k d z h l b. omega (arith, mul-le-mul_left u (growth_step r hr k d z h l b));
  leaving = λ k. omega (arith, mul-le-mul_left u (home_leaving r hr k));
  starting = λ k. omega (arith, mul-le-mul_left u (growth_starting r hr k));
}
