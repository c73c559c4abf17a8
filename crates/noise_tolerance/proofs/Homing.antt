-- From another memory home to the sent sequence: along bits whose coding differs in the fewest coded bits, and not longer than the potentials allow.
-- Assumes nothing.
use mathlib.Core.Path.{◌≡◌, refl, sym, ◌∙◌, ap, subst}
use mathlib.Core.List.{List, [], ◌∷◌}
use mathlib.Core.Logic.{◌⊎◌, inl, inr}
use Prim.Native.Nat.{ℕ, zero, suc, ◌+◌, ◌*◌, ◌≤◌, ◌<◌}
use native.Mathlib.Decide.{ℕ_discrete}
use native.Mathlib.Nat.{mul-le-mul_left}
use native.Mathlib.Omega.{arith}
use lib.ListN.{length}
use Rattle.convolutional_code.specs.Bits.{Bits, none, more}
use Rattle.convolutional_code.specs.Code.{next_memory, memory_after}
use Rattle.convolutional_code.proofs.Bits.{bits_tail, next_lt}
use Rattle.convolutional_code.specs.Costs.{Costs, cost_from}
use Rattle.viterbi_decoder.proofs.Order.{bits_head}
use Rattle.noise_tolerance.proofs.Difference.{unlike, difference}
use Rattle.noise_tolerance.proofs.Linear.{difference_next, difference_none, difference_lt}

-- a step on the way home, of least weight
pub record Homeward (w : Costs) (home : ℕ → ℕ → ℕ) (k d : ℕ) : Type 0 where
  pub bit : ℕ
  pub binary : bit < 2
  pub least : w k d bit + home (suc k) (next_memory d bit) ≤ home k d

-- the bit that differs from x by z
other_lt : (x z : ℕ) → unlike x z < 2
other_lt x z = omega arith

other_is : (x z : ℕ) → x < 2 → z < 2 → unlike x (unlike x z) ≡ z
other_is x z hx hz = omega arith

module _ (F w : Costs) (home growth : ℕ → ℕ → ℕ) (slope r : ℕ)
    (dear : (k s t x y : ℕ) → s < 64 → t < 64 → x < 2 → y < 2 → F k t y ≤ F k s x + w k (difference s t) (unlike x y))
    (homeward : (k d : ℕ) → 0 < d → d < 64 → Homeward w home k d)
    (growing : (k d z : ℕ) → 0 < d → d < 64 → z < 2 → r + growth (suc k) (next_memory d z) ≤ slope * w k d z + growth k d) where
  -- bits from memory t on beside those sent from s on: they cost no more than these but for the weight of the way home; and lead to one memory, unless they are few
  pub record Home (k s t : ℕ) (sent : List ℕ) : Type 0 where
    pub bits : List ℕ
    pub binary : Bits bits
    pub as_long : length bits ≡ length sent
    pub cheap : cost_from F k t bits ≤ cost_from F k s sent + home k (difference s t)
    pub merged : (memory_after s sent ≡ memory_after t bits) ⊎ (r * length sent ≤ slope * home k (difference s t) + growth k (difference s t))

  pub way_home : (k s t : ℕ) (sent : List ℕ) → s < 64 → t < 64 → Bits sent → Home k s t sent
  unfolding cost_from memory_after
  way_home k s t [] hs ht v = record { bits = []; binary = none; as_long = refl; cheap = omega arith; merged = inr (omega arith) }
  way_home k s t (x ∷ sent) hs ht v =
      by (ℕ_discrete s t)
      (λ z. way_home (suc k) (next_memory s x) (next_memory t (unlike x z)) sent (next_lt s x hs (bits_head v)) (next_lt t (unlike x z) ht (other_lt x z)) (bits_tail v))
    where
      hx : x < 2
      hx = bits_head v

      apart : (s ≡ t → ⊥) → 0 < difference s t
      apart n = at (difference s t) refl
        where
          at : (d : ℕ) → difference s t ≡ d → 0 < d
          at zero e = absurd (n (difference_none s t hs ht e))
          at (suc d) e = omega arith

      step : (h : Homeward w home k (difference s t)) → 0 < difference s t → Home (suc k) (next_memory s x) (next_memory t (unlike x h.bit)) sent → Home k s t (x ∷ sent)
      step h pos i =
          let z = h.bit in
          let y : ℕ = unlike x z in
          let e : unlike x y ≡ z = other_is x z hx h.binary in
          let next : difference (next_memory s x) (next_memory t y) ≡ next_memory (difference s t) z = difference_next s t x y hs ht hx (other_lt x z) ∙ ap (next_memory (difference s t)) e in
          let c : F k t y ≤ F k s x + w k (difference s t) z = subst (λ (b : ℕ). F k t y ≤ F k s x + w k (difference s t) b) e (dear k s t x y hs ht hx (other_lt x z)) in
          let hn : home (suc k) (difference (next_memory s x) (next_memory t y)) ≡ home (suc k) (next_memory (difference s t) z) = ap (home (suc k)) next in
          let gn : growth (suc k) (difference (next_memory s x) (next_memory t y)) ≡ growth (suc k) (next_memory (difference s t) z) = ap (growth (suc k)) next in
          record {
            bits = y ∷ i.bits;
            binary = more (other_lt x z) i.binary;
            as_long = ap suc i.as_long;
            cheap = omega (arith, c, i.cheap, hn, h.least);
            merged = on i.merged hn gn;
          }
        where
          on : (memory_after (next_memory s x) sent ≡ memory_after (next_memory t (unlike x h.bit)) i.bits)
              ⊎ (r * length sent ≤ slope * home (suc k) (difference (next_memory s x) (next_memory t (unlike x h.bit))) + growth (suc k) (difference (next_memory s x) (next_memory t (unlike x h.bit))))
              → home (suc k) (difference (next_memory s x) (next_memory t (unlike x h.bit))) ≡ home (suc k) (next_memory (difference s t) h.bit)
              → growth (suc k) (difference (next_memory s x) (next_memory t (unlike x h.bit))) ≡ growth (suc k) (next_memory (difference s t) h.bit)
              → (memory_after (next_memory s x) sent ≡ memory_after (next_memory t (unlike x h.bit)) i.bits)
              ⊎ (r * suc (length sent) ≤ slope * home k (difference s t) + growth k (difference s t))
          on (inl m) hn gn = inl m
          on (inr m) hn gn =
              let a : slope * (w k (difference s t) h.bit + home (suc k) (next_memory (difference s t) h.bit)) ≤ slope * home k (difference s t) = mul-le-mul_left slope h.least in
              let b = ap (λ (j : ℕ). slope * j) hn in
              inr (omega (arith, m, a, b, gn, growing k (difference s t) h.bit pos (difference_lt s t) h.binary))

      by : Dec (s ≡ t) → ((z : ℕ) → Home (suc k) (next_memory s x) (next_memory t (unlike x z)) sent) → Home k s t (x ∷ sent)
      by (yes e) ih =
          let c : cost_from F k t (x ∷ sent) ≡ cost_from F k s (x ∷ sent) = ap (λ (j : ℕ). cost_from F k j (x ∷ sent)) (sym e) in
          record {
            bits = x ∷ sent;
            binary = v;
            as_long = refl;
            cheap = omega (arith, c);
            merged = inl (ap (λ (j : ℕ). memory_after j (x ∷ sent)) e);
          }
      by (no n) ih =
          let h = homeward k (difference s t) (apart n) (difference_lt s t) in
          step h (apart n) (ih h.bit)
