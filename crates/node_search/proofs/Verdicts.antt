-- What a search has come to with one hypothesis more.
-- Assumes nothing.
use mathlib.Core.Path.{◌≡◌, refl, sym, ◌∙◌, ap, ap₂, subst}
use mathlib.Core.Bool.{Bool, true, false}
use mathlib.Core.List.{List, [], ◌∷◌, ◌++◌, flatten, append_assoc, append-nil}
use Prim.Native.Nat.{ℕ, suc, ◌+◌, ◌/◌, ◌%◌, ◌<◌}
use native.Mathlib.Numerals.{add-one}
use native.Mathlib.Omega.{arith}
use borrow.Author.Tests.{lt-ltb}
use lib.Dec.{T, ltb, ltb→lt}
use lib.ListN.{length, get_or}
use Rattle.common.specs.Choice.{pick}
use Rattle.common.specs.Lists.{list_of}
use Rattle.common.proofs.Computed.{both, both_left, both_right, below, below_at, agree, agree_at}
use Rattle.puncturing.specs.Mode.{mode_of}
use Rattle.reader.specs.Read.{symbols_per_pattern}
use Rattle.node_search.specs.Hypotheses.{hypothesis, turns_told, hypothesis_at, hypothesis_count, hypotheses_of, hypotheses_below}
use Rattle.node_search.specs.Search.{kept, none, next, verdict, adding, Searches}
use Rattle.node_search.specs.Weight.{Weighed}
use Rattle.node_search.specs.declared.Hypothesis.{Hypothesis}
use Rattle.node_search.specs.declared.Search.{Search}
use Rattle.node_search.specs.declared.Search.TheVariants.{Nothing}

-- ---- one hypothesis more

verdict_adding : (cs : List Hypothesis) (h : Hypothesis) → verdict (cs ++ h ∷ []) ≡ adding (verdict cs) h
verdict_adding [] h = refl
verdict_adding (c ∷ []) h = refl
verdict_adding (c ∷ d ∷ cs) h = refl

verdict_kept : (below : Bool) (cs : List Hypothesis) (h : Hypothesis) → verdict (cs ++ kept below h) ≡ pick below (adding (verdict cs) h) (verdict cs)
verdict_kept true cs h = verdict_adding cs h
verdict_kept false cs h = ap verdict (append-nil cs)

pub searches_none : (window : List ℕ) → Searches window [] Nothing
searches_none window = record { candidates = []; are = none; answer = refl }

searches_more : {window : List ℕ} {hs : List Hypothesis} {found : Search} → Searches window hs found → (h : Hypothesis) (below : Bool) → Weighed window h below
    → (more : Search) → more ≡ pick below (adding found h) found → Searches window (hs ++ h ∷ []) more
searches_more s h below w more e = record {
  candidates = s.candidates ++ kept below h;
  are = next h below s.are w;
  answer = e ∙ (ap (λ (x : Search). pick below (adding x h) x) s.answer ∙ sym (verdict_kept below s.candidates h));
}

-- ---- the hypotheses of a rate

-- the first k hypotheses of a rate are searched after others
abbrev pub Searching : ℕ → List ℕ → Search → Search → ℕ → Type 0
Searching rate window before found k = (hs : List Hypothesis) → Searches window hs before → Searches window (hs ++ list_of k (hypothesis_at rate)) found

pub searching_none : (rate : ℕ) (window : List ℕ) (before : Search) → Searching rate window before before 0
unfolding list_of
searching_none rate window before hs s = subst (λ (l : List Hypothesis). Searches window l before) (sym (append-nil hs)) s

pub searching_more : (rate : ℕ) (window : List ℕ) {before found : Search} (k : ℕ) → Searching rate window before found k → (h : Hypothesis) → h ≡ hypothesis_at rate k
    → (below : Bool) → Weighed window h below → (more : Search) → more ≡ pick below (adding found h) found → Searching rate window before more (k + 1)
unfolding list_of
searching_more rate window k s h eh below w more e hs t =
    subst (λ (l : List Hypothesis). Searches window l more)
    (append_assoc hs (list_of k (hypothesis_at rate)) (h ∷ [])
    ∙ (ap (λ (g : Hypothesis). hs ++ (list_of k (hypothesis_at rate) ++ g ∷ [])) eh ∙ ap (λ (j : ℕ). hs ++ list_of j (hypothesis_at rate)) (sym (add-one k))))
    (searches_more (s hs t) h below w more e)

pub searching_all : (rate : ℕ) (window : List ℕ) {before found : Search} (k : ℕ) → Searching rate window before found k → k ≡ hypothesis_count rate
    → (hs : List Hypothesis) → Searches window hs before → Searches window (hs ++ hypotheses_of rate) found
unfolding hypotheses_of
searching_all rate window {found = found} k s e hs t = subst (λ (j : ℕ). Searches window (hs ++ list_of j (hypothesis_at rate)) found) e (s hs t)

-- the numbers of a hypothesis

in_test : ℕ → ℕ → Bool
in_test rate k = pick (ltb k (hypothesis_count rate)) (both (ltb (k / length (turns_told rate)) 4) (ltb (get_or (turns_told rate) (k % length (turns_told rate)) 0) 8)) true

pub record Within (rate k : ℕ) : Type 0 where
  pub offset : (hypothesis_at rate k).offset < 4
  pub turn : (hypothesis_at rate k).turn < 8

pub count_most : (rate : ℕ) → rate < 5 → hypothesis_count rate < 17
unfolding symbols_per_pattern mode_of
count_most rate hr = ltb→lt (hypothesis_count rate) 17 (below_at (λ r. ltb (hypothesis_count r) 17) 5 tt rate hr)

pub within : (rate k : ℕ) → rate < 5 → k < hypothesis_count rate → Within rate k
unfolding symbols_per_pattern mode_of in_test
within rate k hr hk =
    let t : T (in_test rate k) = below_at (in_test rate) 16 (below_at (λ r. below (in_test r) 16) 5 tt rate hr) k (omega (arith, hk, count_most rate hr)) in
    let u : T (both (ltb (k / length (turns_told rate)) 4) (ltb (get_or (turns_told rate) (k % length (turns_told rate)) 0) 8)) =
    subst (λ (b : Bool). T (pick b (both (ltb (k / length (turns_told rate)) 4) (ltb (get_or (turns_told rate) (k % length (turns_told rate)) 0) 8)) true)) (lt-ltb k (hypothesis_count rate) hk) t in
    record {
      offset = ltb→lt _ _ (both_left (ltb (k / length (turns_told rate)) 4) (ltb (get_or (turns_told rate) (k % length (turns_told rate)) 0) 8) u);
      turn = ltb→lt _ _ (both_right (ltb (k / length (turns_told rate)) 4) (ltb (get_or (turns_told rate) (k % length (turns_told rate)) 0) 8) u);
    }

-- as the code has it, from one table of turns

abbrev turns : List ℕ
turns = 0 ∷ 1 ∷ 4 ∷ 5 ∷ []

pub hypothesis_is : (rate k : ℕ) → rate < 5 → k < hypothesis_count rate → {count : ℕ} → count ≡ length (turns_told rate)
    → (hypothesis rate (k / count) (get_or turns (k % count) 0) ≡ hypothesis_at rate k) × (k / count < 4) × (get_or turns (k % count) 0 < 8)
hypothesis_is rate k hr hk {count} e =
    let w = within rate k hr hk in
    let t : get_or turns (k % length (turns_told rate)) 0 ≡ get_or (turns_told rate) (k % length (turns_told rate)) 0 =
    agree_at (λ j. get_or turns (j % length (turns_told rate)) 0) (λ j. get_or (turns_told rate) (j % length (turns_told rate)) 0) 16
    (below_at (λ r. agree (λ j. get_or turns (j % length (turns_told r)) 0) (λ j. get_or (turns_told r) (j % length (turns_told r)) 0) 16) 5 tt rate hr) k (omega (arith, hk, count_most rate hr)) in
    let u : get_or turns (k % count) 0 ≡ (hypothesis_at rate k).turn = ap (λ (c : ℕ). get_or turns (k % c) 0) e ∙ t in
    let o : k / count ≡ (hypothesis_at rate k).offset = ap (λ (c : ℕ). k / c) e in
    (ap₂ (hypothesis rate) o u, rw o w.offset, rw u w.turn)

-- ---- all rates

pub rates_none : (window : List ℕ) → Searches window (hypotheses_below 0) Nothing
unfolding hypotheses_below list_of flatten
rates_none window = searches_none window

flatten_more : (ls : List (List Hypothesis)) (l : List Hypothesis) → flatten (ls ++ l ∷ []) ≡ flatten ls ++ l
unfolding flatten
flatten_more [] l = append-nil l
flatten_more (x ∷ ls) l = ap (λ (r : List Hypothesis). x ++ r) (flatten_more ls l) ∙ sym (append_assoc x (flatten ls) l)

pub below_more : (rate : ℕ) → hypotheses_below (suc rate) ≡ hypotheses_below rate ++ hypotheses_of rate
unfolding hypotheses_below list_of
below_more rate = flatten_more (list_of rate hypotheses_of) (hypotheses_of rate)

pub rates_more : (window : List ℕ) (rate : ℕ) {found more : Search} → Searches window (hypotheses_below rate) found
    → ((hs : List Hypothesis) → Searches window hs found → Searches window (hs ++ hypotheses_of rate) more) → Searches window (hypotheses_below (rate + 1)) more
rates_more window rate {more = more} s f =
    subst (λ (l : List Hypothesis). Searches window l more) (sym (below_more rate) ∙ ap hypotheses_below (sym (add-one rate))) (f (hypotheses_below rate) s)
