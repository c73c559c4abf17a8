-- A call of the search: the number of its answer, by its tests.
-- Assumes nothing.
use mathlib.Core.Path.{◌≡◌, refl, sym, ◌∙◌, subst}
use mathlib.Core.Bool.{Bool, true, false}
use mathlib.Core.List.{List, [], ◌++◌}
use Prim.Native.Nat.{ℕ, ◌≤◌, ◌<◌}
use native.Mathlib.Omega.{arith}
use borrow.Author.Tests.{lt-ltb, le-ltb, eq-eqb}
use lib.Dec.{eqb, ltb}
use lib.ListN.{length}
use Rattle.common.specs.Choice.{pick}
use Rattle.common.specs.Lists.{All, largest}
use Rattle.common.proofs.Largest.{largest_least}
use Rattle.common.proofs.Lists.{All-of}
use Rattle.node_search.specs.Hypotheses.{hypotheses_of, hypotheses_below}
use Rattle.node_search.specs.Search.{window_length, search_number, Searches, SearchesWindow, refused, done}
use Rattle.node_search.specs.declared.Hypothesis.{Hypothesis}
use Rattle.node_search.specs.declared.Search.{Search}
use Rattle.node_search.specs.declared.Search.TheVariants.{Nothing}
use Rattle.node_search.proofs.Verdicts.{searches_none}

module _ (rate : ℕ) (window : List ℕ) where
  number_by : (a b c : Bool) → ltb rate 6 ≡ a → eqb (length window) window_length ≡ b → ltb (largest window) 81 ≡ c
      → search_number rate window ≡ pick a (pick b (pick c 0 14) 13) 6
  number_by a b c p q r = λ i. pick (p i) (pick (q i) (pick (r i) 0 14) 13) 6

  -- the refusals
  module _ {number : ℕ} {search : Search} (nothing : search ≡ Nothing) where
    pub no_decisions : rate < 6 → length window ≡ window_length → 81 ≤ largest window → number ≡ 14 → SearchesWindow rate window number search
    no_decisions h l n e = refused (e ∙ sym (number_by true true false (lt-ltb rate 6 h) (eq-eqb (length window) window_length l) (le-ltb (largest window) 81 n))) (omega arith) nothing

  -- a window that passes
  module _ (h : rate < 6) (l : length window ≡ window_length) (s : largest window < 81) where
    pub passed_tests : search_number rate window ≡ 0
    passed_tests = number_by true true true (lt-ltb rate 6 h) (eq-eqb (length window) window_length l) (lt-ltb (largest window) 81 s)

    pub at_rate_lem : rate < 5 → {search : Search} → ((hs : List Hypothesis) → Searches window hs Nothing → Searches window (hs ++ hypotheses_of rate) search)
        → SearchesWindow rate window 0 search
    at_rate_lem k {search} f =
        done refl passed_tests
        (subst (λ (b : Bool). Searches window (pick b (hypotheses_of rate) (hypotheses_below 5)) search) (sym (lt-ltb rate 5 k)) (f [] (searches_none window)))

    pub at_any : 5 ≤ rate → {search : Search} → Searches window (hypotheses_below 5) search → SearchesWindow rate window 0 search
    at_any k {search} f =
        done refl passed_tests (subst (λ (b : Bool). Searches window (pick b (hypotheses_of rate) (hypotheses_below 5)) search) (sym (le-ltb rate 5 k)) f)

-- every number of a window stands for decisions
pub window_small : (window : List ℕ) → largest window < 81 → All (λ p. p < 81) window
window_small window h = All-of (λ p. p < 81) window 0 (λ i l. omega (arith, h, largest_least window i))
