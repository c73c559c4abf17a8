-- The whole patterns of a rate: its table of symbols, and what they give.
-- Assumes nothing.
use mathlib.Core.Path.{◌≡◌, sym, subst}
use mathlib.Core.Bool.{Bool, true}
use mathlib.Core.List.{List, [], ◌∷◌}
use Prim.Native.Nat.{ℕ, zero, suc, ◌+◌, ◌*◌, ◌≤◌, ◌<◌}
use native.Mathlib.Omega.{arith}
use lib.Dec.{T, ltb, leb, ltb→lt, leb→le}
use lib.ListN.{length, get_or}
use Rattle.common.specs.Lists.{placed}
use Rattle.common.proofs.Computed.{both, both_left, both_right}
use Rattle.common.proofs.Computed as computed
use Rattle.convolutional_code.specs.Bits.{Bits}
use Rattle.puncturing.specs.Mode.{mode_of, qpsk_count}
use Rattle.puncturing.specs.Step.{pattern_length}
use Rattle.puncturing.specs.Run.{patterns_symbols, i_bits, q_bits}

-- every entry is below a bound
abbrev all_under : ℕ → List ℕ → Bool
all_under b [] = true
all_under b (x ∷ l) = both (ltb x b) (all_under b l)

under : (b : ℕ) (l : List ℕ) → T (all_under b l) → 0 < b → (j : ℕ) → get_or l j 0 < b
under b [] t h j = h
under b (x ∷ l) t h zero = ltb→lt x b (both_left (ltb x b) (all_under b l) t)
under b (x ∷ l) t h (suc j) = under b l (both_right (ltb x b) (all_under b l) t) h j

-- a rate's table of symbols
pub record Table (r : ℕ) (is qs : List ℕ) (len : ℕ) : Type 0 where
  pub few : length is ≤ 4
  pub same : length is ≡ length qs
  pub i_under : (j : ℕ) → get_or is j 0 < 1632 + len
  pub q_under : (j : ℕ) → get_or qs j 0 < 1632 + len

pub table : (r : ℕ) → r < qpsk_count → Table r (i_bits r) (q_bits r) (pattern_length r)
unfolding i_bits q_bits mode_of
table r h = record {
  few = leb→le _ _ (computed.below_at (λ r. leb (length (i_bits r)) 4) qpsk_count tt r h);
  same = computed.agree_at (λ r. length (i_bits r)) (λ r. length (q_bits r)) qpsk_count tt r h;
  i_under =
      under (1632 + pattern_length r) (i_bits r) (computed.below_at (λ r. all_under (1632 + pattern_length r) (i_bits r)) qpsk_count tt r h) (omega arith);
  q_under =
      under (1632 + pattern_length r) (q_bits r) (computed.below_at (λ r. all_under (1632 + pattern_length r) (q_bits r)) qpsk_count tt r h) (omega arith);
}

-- what a run of whole patterns asks for, by the table of a rate and the length of its pattern
abbrev Asked : ℕ → ℕ → List ℕ → List ℕ → ℕ → ℕ → ℕ → Type 0
Asked r len l output from turns at =
    (Bits l)
    × (length (i_bits r) ≤ 4)
    × (length (i_bits r) ≡ length (q_bits r))
    × ((j : ℕ) → get_or (i_bits r) j 0 < 1632 + len)
    × ((j : ℕ) → get_or (q_bits r) j 0 < 1632 + len)
    × (from + turns * len ≤ 1632)
    × (at + turns * length (i_bits r) ≤ length output)

pub asked : (k r len : ℕ) (l output : List ℕ) (from turns at : ℕ) → r ≡ k → len ≡ pattern_length r → r < qpsk_count → Bits l
    → from + turns * pattern_length r ≤ 1632 → at + turns * length (i_bits r) ≤ length output → Asked k len l output from turns at
asked k r len l output from turns at e m h b f g =
    let t = table r h in
    subst (λ (s : ℕ). Asked s len l output from turns at) e
    (subst (λ (d : ℕ). Asked r d l output from turns at) (sym m) (b, t.few, t.same, t.i_under, t.q_under, f, g))

-- what it gives
abbrev Given : ℕ → ℕ → List ℕ → List ℕ → List ℕ → ℕ → ℕ → ℕ → ℕ → Type 0
Given r len l output output' from turns at k =
    (k ≡ at + turns * length (i_bits r)) × (output' ≡ placed output at (patterns_symbols (i_bits r) (q_bits r) l len from turns))

pub given : (k r len : ℕ) (l output output' : List ℕ) (from turns at n : ℕ) → r ≡ k → len ≡ pattern_length r → Given k len l output output' from turns at n
    → Given r (pattern_length r) l output output' from turns at n
given k r len l output output' from turns at n e m g =
    subst (λ (d : ℕ). Given r d l output output' from turns at n) m (subst (λ (s : ℕ). Given s len l output output' from turns at n) (sym e) g)
