-- The metrics of all memories lie close together: six steps lead from any memory to any other.
-- Assumes nothing.
use mathlib.Core.Path.{◌≡◌}
use mathlib.Core.Bool.{Bool, true, false}
use Prim.Native.Nat.{ℕ, zero, suc, ◌+◌, ◌-◌, ◌*◌, ◌/◌, ◌%◌, ◌≤◌, ◌<◌}
use native.Mathlib.Omega.{arith}
use native.Mathlib.Nat.{mul-suc}
use lib.Dec.{eqb}
use Rattle.common.specs.Choice.{pick}
use Rattle.convolutional_code.proofs.Bits.{next_lt}
use Rattle.convolutional_code.specs.Code.{next_memory}
use Rattle.convolutional_code.specs.Costs.{Costs}
use Rattle.viterbi_decoder.specs.Metric.{far, from, via, choice, metric}
use Rattle.viterbi_decoder.proofs.Paths.{choice_lt, step_le, six_lead}

pick_le : (t : Bool) (a b c : ℕ) → a ≤ c → b ≤ c → pick t a b ≤ c
pick_le true a b c h l = h
pick_le false a b c h l = l

module _ (F : Costs) (c : (k s b : ℕ) → F k s b ≤ 14) (m : ℕ) where
  pub metric_le : (k s : ℕ) → metric F m k s ≤ far + 14 * k
  unfolding metric via
  metric_le zero s = omega (arith, pick_le (eqb s m) 0 far far (omega arith) (omega arith))
  metric_le (suc k) s =
      let p : ℕ = from s (choice (metric F m k) (F k) s) in
      omega (arith, mul-suc 14 k, metric_le k p, c k p (s / 32))

  -- the memory before s on its survivor has no larger metric
  before : ℕ → ℕ → ℕ
  before k s = from s (choice (metric F m k) (F k) s)

  before_lt : (k s : ℕ) → before k s < 64
  unfolding before
  before_lt k s = omega (arith, choice_lt (metric F m k) (F k) s)

  before_le : (k s : ℕ) → metric F m k (before k s) ≤ metric F m (suc k) s
  unfolding before metric via
  before_le k s = omega arith

  back_six : (k t : ℕ) → ℕ
  back_six k t = before k (before (suc k) (before (suc (suc k)) (before (suc (suc (suc k))) (before (suc (suc (suc (suc k)))) (before (suc (suc (suc (suc (suc k))))) t)))))

  back_six_lt : (k t : ℕ) → back_six k t < 64
  unfolding back_six
  back_six_lt k t = before_lt k _

  back_six_le : (k t : ℕ) → metric F m k (back_six k t) ≤ metric F m (suc (suc (suc (suc (suc (suc k)))))) t
  unfolding back_six
  back_six_le k t =
      let t5 = before (suc (suc (suc (suc (suc k))))) t in
      let t4 = before (suc (suc (suc (suc k)))) t5 in
      let t3 = before (suc (suc (suc k))) t4 in
      let t2 = before (suc (suc k)) t3 in
      let t1 = before (suc k) t2 in
      omega (arith, before_le (suc (suc (suc (suc (suc k))))) t, before_le (suc (suc (suc (suc k)))) t5, before_le (suc (suc (suc k))) t4, before_le (suc (suc k)) t3, before_le (suc k) t2, before_le k t1)

  up : (k p b : ℕ) → p < 64 → b < 2 → metric F m (suc k) (next_memory p b) ≤ metric F m k p + 14
  up k p b h l = omega (arith, step_le F m k p b h l, c k p b)

  up_six : (k p s : ℕ) → p < 64 → s < 64 → metric F m (suc (suc (suc (suc (suc (suc k)))))) s ≤ metric F m k p + 84
  up_six k p s h l =
      let b1 : s % 2 < 2 = omega arith in
      let b2 : s / 2 % 2 < 2 = omega arith in
      let b3 : s / 4 % 2 < 2 = omega arith in
      let b4 : s / 8 % 2 < 2 = omega arith in
      let b5 : s / 16 % 2 < 2 = omega arith in
      let b6 : s / 32 % 2 < 2 = omega arith in
      let h1 = next_lt p (s % 2) h b1 in
      let h2 = next_lt _ (s / 2 % 2) h1 b2 in
      let h3 = next_lt _ (s / 4 % 2) h2 b3 in
      let h4 = next_lt _ (s / 8 % 2) h3 b4 in
      let h5 = next_lt _ (s / 16 % 2) h4 b5 in
      let q1 = up k p (s % 2) h b1 in
      let q2 = up (suc k) _ (s / 2 % 2) h1 b2 in
      let q3 = up (suc (suc k)) _ (s / 4 % 2) h2 b3 in
      let q4 = up (suc (suc (suc k))) _ (s / 8 % 2) h3 b4 in
      let q5 = up (suc (suc (suc (suc k)))) _ (s / 16 % 2) h4 b5 in
      let q6 = rw (six_lead p s h l) at (up (suc (suc (suc (suc (suc k))))) _ (s / 32 % 2) h5 b6) in
      omega (arith, q1, q2, q3, q4, q5, q6)

  spread_six : (k s t : ℕ) → s < 64 → metric F m (suc (suc (suc (suc (suc (suc k)))))) s ≤ metric F m (suc (suc (suc (suc (suc (suc k)))))) t + 84
  spread_six k s t h = omega (arith, back_six_le k t, up_six k (back_six k t) s (back_six_lt k t) h)

  -- after six steps and more the metrics lie within 84 of each other
  pub spread : (k s t : ℕ) → 6 ≤ k → s < 64 → metric F m k s ≤ metric F m k t + 84
  spread k s t l h =
      let e : k ≡ suc (suc (suc (suc (suc (suc (k - 6)))))) = omega arith in
      rw e (spread_six (k - 6) s t h)
