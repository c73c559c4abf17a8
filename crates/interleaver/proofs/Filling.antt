-- The output while the branches are passed one after the other: branch j writes the places j, 12 + j, 24 + j, ...
-- Assumes nothing.
use mathlib.Core.Path.{◌≡◌, refl, ap, sym, ◌∙◌}
use mathlib.Core.List.{List, [], ◌∷◌, ◌++◌}
use Prim.Native.Nat.{ℕ, suc, ◌+◌, ◌-◌, ◌*◌, ◌%◌, ◌/◌, ◌≤◌, ◌<◌}
use native.Mathlib.Nat.{add-zero}
use native.Mathlib.Decide.{ℕ_discrete, dec_lt}
use native.Mathlib.Omega.{arith}
use lib.ListN.{length, get_or, drop, set, length-set, length-append, length-drop, get_or-append}
use lib.Seq.{get_or-set_same, get_or-set_other, get_or-append-add, get_or-drop, ext_get_or}
use Rattle.interleaver.specs.Column.{scattered}

-- m bytes of the block are written, those of branch 0 first
pub record Filled (block d : List ℕ) (r : List ℕ) (m : ℕ) : Type 0 where
  pub same : length r ≡ length d
  pub done : (n : ℕ) → n < 204 → 17 * (n % 12) + n / 12 < m → get_or r n 0 ≡ get_or block n 0
  pub left : (n : ℕ) → (n < 204 → m ≤ 17 * (n % 12) + n / 12) → get_or r n 0 ≡ get_or d n 0

pub filled_none : (block d : List ℕ) → Filled block d d 0
filled_none block d = record { same = refl; done = λ n h k. absurd (omega arith); left = λ n h. refl }

module _ {block d r : List ℕ} (j k : ℕ) (g : Filled block d r (17 * j + k)) (h : j < 12) (l : k < 17) (output : 204 ≤ length d) where
  filled_more : (v : ℕ) → v ≡ get_or block (12 * k + j) 0 → Filled block d (set r (12 * k + j) v) (17 * j + suc k)
  filled_more v e = record {
    same = length-set r (12 * k + j) v ∙ g.same;
    done = λ n u w. into n u w (ℕ_discrete n (12 * k + j));
    left = λ n u. outof n u (ℕ_discrete n (12 * k + j));
  }
    where
      into : (n : ℕ) → n < 204 → 17 * (n % 12) + n / 12 < 17 * j + suc k → Dec (n ≡ 12 * k + j) → get_or (set r (12 * k + j) v) n 0 ≡ get_or block n 0
      into n u w (yes q) =
          ap (λ (i : ℕ). get_or (set r (12 * k + j) v) i 0) q
          ∙ get_or-set_same r (12 * k + j) v 0 (let s = g.same in omega arith)
          ∙ e
          ∙ ap (λ (i : ℕ). get_or block i 0) (sym q)
      into n u w (no q) = get_or-set_other r (12 * k + j) n v 0 q ∙ g.done n u (omega arith)

      outof : (n : ℕ) → (n < 204 → 17 * j + suc k ≤ 17 * (n % 12) + n / 12) → Dec (n ≡ 12 * k + j) → get_or (set r (12 * k + j) v) n 0 ≡ get_or d n 0
      outof n u (yes q) = absurd (let w = u (omega arith) in omega arith)
      outof n u (no q) = get_or-set_other r (12 * k + j) n v 0 q ∙ g.left n (λ w. let z = u w in omega arith)

-- the bytes of branch j from its byte k on
pub filled_placed : {block d : List ℕ} (j k : ℕ) (bs r : List ℕ) → Filled block d r (17 * j + k) → j < 12 → k + length bs ≤ 17 → 204 ≤ length d
    → ((i : ℕ) → i < length bs → get_or bs i 0 ≡ get_or block (12 * (k + i) + j) 0)
    → Filled block d (scattered (12 * k + j) bs r) (17 * j + (k + length bs))
unfolding scattered
filled_placed {block} {d} j k [] r g h l output e = rw (add-zero k) g
filled_placed {block} {d} j k (b ∷ bs) r g h l output e =
    rw (next, count)
    (filled_placed j (suc k) bs (set r (12 * k + j) b) (filled_more j k g h (omega arith) output b first) h (omega arith) output (λ i u. rest i u))
  where
    next : 12 * k + j + 12 ≡ 12 * suc k + j
    next = omega arith

    count : k + suc (length bs) ≡ suc k + length bs
    count = omega arith

    first : b ≡ get_or block (12 * k + j) 0
    first = e 0 (omega arith) ∙ ap (λ (i : ℕ). get_or block (12 * i + j) 0) (add-zero k)

    rest : (i : ℕ) → i < length bs → get_or bs i 0 ≡ get_or block (12 * (suc k + i) + j) 0
    rest i u =
        let q : k + suc i ≡ suc k + i = omega arith in
        e (suc i) (omega arith) ∙ ap (λ (m : ℕ). get_or block (12 * m + j) 0) q

pub filled_all : {block d r : List ℕ} → Filled block d r 204 → length block ≡ 204 → 204 ≤ length d → r ≡ block ++ drop 204 d
filled_all {block} {d} {r} g n output = ext_get_or 0 r (block ++ drop 204 d) size (λ i h. each i (dec_lt i 204))
  where
    size : length r ≡ length (block ++ drop 204 d)
    size = g.same ∙ sym (length-append block (drop 204 d) ∙ simp (length-drop, n) (omega arith))

    each : (i : ℕ) → Dec (i < 204) → get_or r i 0 ≡ get_or (block ++ drop 204 d) i 0
    each i (yes u) = g.done i u (omega arith) ∙ sym (get_or-append block (drop 204 d) 0 i (omega arith))
    each i (no u) =
        let m : length block + (i - 204) ≡ i = omega arith in
        let q : 204 + (i - 204) ≡ i = omega arith in
        g.left i (λ w. absurd (u w))
        ∙ ap (λ (k : ℕ). get_or d k 0) (sym q)
        ∙ sym (get_or-drop 204 d (i - 204) 0)
        ∙ sym (get_or-append-add block (drop 204 d) (i - 204) 0)
        ∙ ap (λ (k : ℕ). get_or (block ++ drop 204 d) k 0) m
