-- The symbols of three lists, and the loops that write their pairs.
-- Assumes nothing.
use mathlib.Core.Path.{◌≡◌, refl, ◌∙◌, ap, subst}
use mathlib.Core.Bool.{Bool, false}
use mathlib.Core.Logic.{inl}
use mathlib.Core.List.{List, [], ◌∷◌, ◌++◌}
use Prim.Native.Nat.{ℕ, zero, suc, ◌+◌, ◌-◌, ◌*◌, ◌≤◌, ◌<◌}
use native.Mathlib.Decide.{dec_lt}
use native.Mathlib.Omega.{arith}
use borrow.Author.Tests.{ne_eqb}
use lib.Dec.{eqb}
use lib.Ieee.{Float}
use lib.ListN.{length, get_or, take, drop, length-take}
use lib.Seq.{get_or-take}
use Rattle.std.specs.Prelude.{None}
use Rattle.common.specs.Choice.{pick}
use Rattle.common.specs.Lists.{All}
use Rattle.common.proofs.Each.{Each}
use Rattle.common.proofs.Lists.{All-of, put_own, put_other}
use Rattle.common.proofs.Outputs.{length_placed}
use Rattle.branch_metrics.specs.Cost.{received, received_of, ReceivedSymbol}
use Rattle.branch_metrics.specs.SoftPairs.{number_decision, marked, symbol_pair, symbol_at}
use Rattle.branch_metrics.proofs.Numbers.{symbol_lt}

-- ---- lists of one length

pub length_received : (is qs : List Float) (lost : List ℕ) → length qs ≡ length is → length lost ≡ length is → length (received_of is qs lost) ≡ length is
unfolding received_of
length_received [] qs lost a b = refl
length_received (i ∷ is) [] lost a b = absurd (omega arith)
length_received (i ∷ is) (q ∷ qs) [] a b = absurd (omega arith)
length_received (i ∷ is) (q ∷ qs) (m ∷ lost) a b = ap suc (length_received is qs lost (omega arith) (omega arith))

pub received_at : (is qs : List Float) (lost : List ℕ) → length qs ≡ length is → length lost ≡ length is → (k : ℕ) → k < length is
    → get_or (received_of is qs lost) k None ≡ symbol_at is qs lost k
unfolding received_of
received_at [] qs lost a b k h = absurd (omega arith)
received_at (i ∷ is) [] lost a b k h = absurd (omega arith)
received_at (i ∷ is) (q ∷ qs) [] a b k h = absurd (omega arith)
received_at (i ∷ is) (q ∷ qs) (m ∷ lost) a b zero h = refl
received_at (i ∷ is) (q ∷ qs) (m ∷ lost) a b (suc k) h = received_at is qs lost (omega arith) (omega arith) k (omega arith)

-- ---- symbols that are given by their places, and their pairs

abbrev pub Holds : (ℕ → ReceivedSymbol) → ℕ → ℕ → Type 0
Holds f t v = v ≡ symbol_pair (f t)

-- a symbol of the three lists, by its numbers and its mark
pub place_pair : (i q : Float) (mark : ℕ) → 9 * marked mark (number_decision i) + marked mark (number_decision q) ≡ symbol_pair (received i q mark)
unfolding symbol_pair
place_pair i q zero = refl
place_pair i q (suc mark) =
    let e : eqb (suc mark) 0 ≡ false = ne_eqb (suc mark) 0 (λ h. absurd (omega arith)) in
    ap (λ (b : Bool). 9 * pick b (number_decision i) 8 + pick b (number_decision q) 8) e

-- so many pairs more are put
pub pairs_more : (f : ℕ → ReceivedSymbol) (size : ℕ) {output : List ℕ} (k n : ℕ) (pairs exit : List ℕ) → length pairs ≡ n → k + n ≤ size
    → ((i : ℕ) → i < n → get_or pairs i 0 ≡ symbol_pair (f (k + i))) → Each (Holds f) size output k
    → exit ≡ take k output ++ pairs ++ drop (k + length pairs) output → Each (Holds f) size exit (k + n)
pairs_more f size {output} k n pairs exit l h w e x =
    record { len = ap length x ∙ (length_placed output k pairs fits ∙ e.len); most = h; each = λ t b. ap (λ (y : List ℕ). get_or y t 0) x ∙ by t b (dec_lt t k) }
  where
    fits : k + length pairs ≤ length output
    fits = omega (arith, l, e.len)

    by : (t : ℕ) → t < k + n → Dec (t < k) → get_or (take k output ++ pairs ++ drop (k + length pairs) output) t 0 ≡ symbol_pair (f t)
    by t b (yes c) = put_other output pairs k t fits (omega (arith, e.len)) (inl c) ∙ e.each t c
    by t b (no c) =
        let i : k + (t - k) ≡ t = omega arith in
        subst (λ (j : ℕ). get_or (take k output ++ pairs ++ drop (k + length pairs) output) j 0 ≡ symbol_pair (f j)) i
        (put_own output pairs k (t - k) fits (omega (arith, l)) ∙ w (t - k) (omega arith))

-- every pair that is written is one
pub along_small : (f : ℕ → ReceivedSymbol) (n : ℕ) (l : List ℕ) → n ≤ length l → ((t : ℕ) → t < n → get_or l t 0 ≡ symbol_pair (f t)) → All (λ p. p < 81) (take n l)
along_small f n l long w =
    All-of (λ p. p < 81) (take n l) 0
    (λ t h. let b : t < n = omega (arith, length-take n l) in rw (get_or-take n l t 0 b, w t b) (symbol_lt (f t)))
