-- Whole patterns: the symbols of each from where their coded bits stand.
-- Assumes nothing.
use mathlib.Core.Path.{◌≡◌, refl, ap, ap₂, sym, ◌∙◌}
use mathlib.Core.List.{List, [], ◌∷◌}
use Prim.Native.Nat.{ℕ, zero, suc, ◌+◌, ◌-◌, ◌*◌, ◌≤◌, ◌<◌}
use native.Mathlib.Nat.{not-suc-le-zero, le_of_suc-le-suc, suc-mul, zero-mul}
use native.Mathlib.Omega.{arith}
use lib.ListN.{length, get_or}
use Rattle.common.specs.Lists.{placed}
use Rattle.common.proofs.Outputs.{placed_none, length_placed, placed_append}
use Rattle.puncturing.specs.Run.{pattern_symbols, patterns_symbols}

pub length_pattern : (is qs l : List ℕ) (n : ℕ) → length is ≡ length qs → length (pattern_symbols is qs l n) ≡ length is
unfolding pattern_symbols
length_pattern [] qs l n e = refl
length_pattern (i ∷ is) [] l n e = absurd (omega arith)
length_pattern (i ∷ is) (q ∷ qs) l n e = ap suc (length_pattern is qs l n (omega arith))

pub pattern_at : (is qs l : List ℕ) (n j : ℕ) → length is ≡ length qs → j < length is
    → get_or (pattern_symbols is qs l n) j 0 ≡ 2 * get_or l (n + get_or is j 0) 0 + get_or l (n + get_or qs j 0) 0
unfolding pattern_symbols
pattern_at [] qs l n j e h = absurd (not-suc-le-zero h)
pattern_at (i ∷ is) [] l n j e h = absurd (omega arith)
pattern_at (i ∷ is) (q ∷ qs) l n zero e h = refl
pattern_at (i ∷ is) (q ∷ qs) l n (suc j) e h = pattern_at is qs l n j (omega arith) (le_of_suc-le-suc h)

-- ---- one pattern after another, as a loop goes through them

-- one turn more
pub turn : (t k : ℕ) → 0 < t → t * k ≡ (t - 1) * k + k
turn zero k h = absurd (not-suc-le-zero h)
turn (suc t) k h = let e : t ≡ suc t - 1 = omega arith in suc-mul t k ∙ ap (λ (m : ℕ). m * k + k) e

-- with left turns to go: n is the bit and k the place in the output that the next pattern begins at
pub record Repeating (is qs l : List ℕ) (len from turns : ℕ) (output₀ : List ℕ) (at : ℕ) (output : List ℕ) (n k left : ℕ) : Type 0 where
  pub bit : n + left * len ≤ 1632
  pub end : k + left * length is ≡ at + turns * length is
  pub size : length output ≡ length output₀
  pub symbols : placed output k (patterns_symbols is qs l len n left) ≡ placed output₀ at (patterns_symbols is qs l len from turns)

pub repeating_next : {is qs l : List ℕ} {len from turns : ℕ} {output₀ : List ℕ} {at : ℕ} {output : List ℕ} (t : ℕ)
    → Repeating is qs l len from turns output₀ at output (from + t * len + len) (at + t * length is + length is) (turns - t - 1)
    → Repeating is qs l len from turns output₀ at output (from + (t + 1) * len) (at + (t + 1) * length is) (turns - (t + 1))
repeating_next {is} {len = len} {from} {turns} {at = at} t g =
    let bit : from + (t + 1) * len ≡ from + t * len + len = omega arith in
    let place : at + (t + 1) * length is ≡ at + t * length is + length is = omega arith in
    let left : turns - (t + 1) ≡ turns - t - 1 = omega arith in
    rw (bit, place, left) g

pub repeating_more : {is qs l : List ℕ} {len from turns : ℕ} {output₀ : List ℕ} {at : ℕ} {output : List ℕ} {n k left : ℕ}
    → Repeating is qs l len from turns output₀ at output n k left → {output' : List ℕ} → 0 < left → length is ≡ length qs
    → at + turns * length is ≤ length output₀ → output' ≡ placed output k (pattern_symbols is qs l n)
    → Repeating is qs l len from turns output₀ at output' (n + len) (k + length is) (left - 1)
unfolding patterns_symbols
repeating_more {is} {qs} {l} {len} {from} {turns} {output₀} {at} {output} {n} {k} {left} g {output'} h e fits r =
    let s = pattern_symbols is qs l n in
    let rest = patterns_symbols is qs l len (n + len) (left - 1) in
    let size : length s ≡ length is = length_pattern is qs l n e in
    let t = turn left len h in
    let u = turn left (length is) h in
    let here : k + length s ≤ length output = omega (arith, g.end, g.size) in
    let one : left ≡ suc (left - 1) = omega arith in
    record {
      bit = omega (arith, g.bit);
      end = omega (arith, g.end);
      size = ap length r ∙ length_placed output k s here ∙ g.size;
      symbols =
          ap₂ (λ (x : List ℕ) (m : ℕ). placed x (k + m) rest) r (sym size)
          ∙ placed_append output k s here rest
          ∙ ap (λ (m : ℕ). placed output k (patterns_symbols is qs l len n m)) (sym one)
          ∙ g.symbols;
    }

pub repeating_end : {is qs l : List ℕ} {len from turns : ℕ} {output₀ : List ℕ} {at : ℕ} {output : List ℕ} {n k left : ℕ}
    → Repeating is qs l len from turns output₀ at output n k left → left ≡ 0
    → (k ≡ at + turns * length is) × (output ≡ placed output₀ at (patterns_symbols is qs l len from turns))
unfolding patterns_symbols
repeating_end {is} {qs} {l} {len} {output = output} {n} {k} {left} g e =
    let none : left * length is ≡ 0 = ap (λ (m : ℕ). m * length is) e ∙ zero-mul (length is) in (
      omega (arith, g.end),
      placed_none output k ∙ ap (λ (m : ℕ). placed output k (patterns_symbols is qs l len n m)) (sym e) ∙ g.symbols,
    )
