-- What is found is one of the hypotheses, so its numbers are in their ranges; and a window of symbols is not refused.
-- Assumes nothing.
use mathlib.Core.Path.{◌≡◌, refl, sym, subst}
use mathlib.Core.Bool.{Bool, true, false}
use mathlib.Core.List.{List, [], ◌∷◌, ◌++◌, flatten}
use Prim.Native.Nat.{ℕ, zero, suc, ◌<◌, ◌≤◌}
use native.Mathlib.Omega.{arith}
use lib.Dec.{T, ltb, ltb→lt}
use lib.ListN.{length}
use Rattle.common.specs.Choice.{pick}
use Rattle.common.specs.Lists.{All, largest, list_of}
use Rattle.common.proofs.Lists.{All-append, All-of, All-at, length_list_of, get_d_list_of}
use Rattle.common.proofs.Largest.{largest_most}
use Rattle.node_search.specs.Hypotheses.{hypothesis_at, hypothesis_count, hypotheses_of, hypotheses_below, searched}
use Rattle.node_search.specs.Search.{kept, Candidates, none, next, verdict, Searches, FoundKnown, SearchesWindow, refused, done}
use Rattle.node_search.specs.declared.Hypothesis.{Hypothesis}
use Rattle.node_search.specs.declared.Search.{Search}
use Rattle.node_search.proofs.Verdicts.{within, below_more}
use Rattle.node_search.proofs.Calls.{passed_tests}

abbrev Known : Hypothesis → Type 0
Known h = (h.rate < 5) × (h.offset < 4) × (h.turn < 8)

-- those of a rate
of_rate : (rate : ℕ) → rate < 5 → All Known (hypotheses_of rate)
unfolding hypotheses_of
of_rate rate h =
    All-of Known (hypotheses_of rate) (hypothesis_at rate 0)
    (λ i l.
    let k : i < hypothesis_count rate = omega (arith, l, length_list_of (hypothesis_count rate) (hypothesis_at rate)) in
    let w = within rate i h k in
    subst Known (sym (get_d_list_of (hypothesis_count rate) (hypothesis_at rate) (hypothesis_at rate 0) i k)) (h, w.offset, w.turn))

below_known : (n : ℕ) → n ≤ 5 → All Known (hypotheses_below n)
unfolding hypotheses_below list_of flatten
below_known zero h = tt
below_known (suc n) h = subst (All Known) (sym (below_more n)) (All-append Known (hypotheses_below n) (hypotheses_of n) (below_known n (omega (arith, h))) (of_rate n (omega (arith, h))))

searched_known : (rate : ℕ) → All Known (searched rate)
searched_known rate = by (ltb rate 5) (λ e. ltb→lt rate 5 (subst T (sym e) tt))
  where
    by : (b : Bool) → (b ≡ true → rate < 5) → All Known (pick b (hypotheses_of rate) (hypotheses_below 5))
    by true f = of_rate rate (f refl)
    by false f = below_known 5 (omega arith)

-- ---- candidates

all_last : (hs : List Hypothesis) (h : Hypothesis) → All Known (hs ++ h ∷ []) → (All Known hs) × (Known h)
all_last [] h a = (tt, a.0)
all_last (x ∷ hs) h a = let r = all_last hs h a.1 in ((a.0, r.0), r.1)

kept_known : (below : Bool) (h : Hypothesis) → Known h → All Known (kept below h)
kept_known true h k = (k, tt)
kept_known false h k = tt

candidates_known : {window : List ℕ} {hs cs : List Hypothesis} → Candidates window hs cs → All Known hs → All Known cs
candidates_known none a = tt
candidates_known (next {hs} {cs} h below c w) a =
    let r = all_last hs h a in
    All-append Known cs (kept below h) (candidates_known c r.0) (kept_known below h r.1)

verdict_known : (cs : List Hypothesis) → All Known cs → FoundKnown (verdict cs)
verdict_known [] a = tt
verdict_known (h ∷ []) a = a.0
verdict_known (h ∷ g ∷ cs) a = tt

-- what is found is known
pub found_known : (rate : ℕ) (window : List ℕ) (search : Search) → Searches window (searched rate) search → FoundKnown search
found_known rate window search s = subst FoundKnown (sym s.answer) (verdict_known s.candidates (candidates_known s.are (searched_known rate)))

-- ---- a call

-- a window of symbols is searched
pub search_done : (rate : ℕ) (window : List ℕ) (number : ℕ) (search : Search) → rate < 6 → length window ≡ 1632 → All (λ p. p < 81) window → SearchesWindow rate window number search
    → Searches window (searched rate) search
search_done rate window number search h l a (refused e p z) =
    let m : largest window ≤ 80 = largest_most window 80 (λ i k. omega (arith, All-at (λ p. p < 81) window 0 i a k)) in
    absurd (omega (arith, e, p, passed_tests rate window h l (omega (arith, m))))
search_done rate window number search h l a (done e z s) = s
