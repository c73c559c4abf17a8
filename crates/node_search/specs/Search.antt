-- What the search answers: the one hypothesis that is below its threshold, where exactly one is.
-- Assumes nothing.
use Rattle.std.specs.Prelude.{◌≡◌, Bool, List, [], ◌∷◌, ◌++◌, ℕ, ◌<◌, eqb, ltb, length}
use Rattle.common.specs.Choice.{pick}
use Rattle.common.specs.Lists.{largest}
use Rattle.common.specs.Refusal.{unless, first_due}
use Rattle.node_search.specs.Hypotheses.{searched}
use Rattle.node_search.specs.Weight.{Weighed}
use Rattle.node_search.specs.declared.Hypothesis.{Hypothesis}
use Rattle.node_search.specs.declared.Search.{Search}
use Rattle.node_search.specs.declared.Search.TheVariants.{Found, Nothing, Several}

-- a hypothesis where its test passes
abbrev pub kept : Bool → Hypothesis → List Hypothesis
kept below h = pick below (h ∷ []) []

-- those of a list of hypotheses that are below their thresholds, in its order
pub data Candidates (window : List ℕ) : List Hypothesis → List Hypothesis → Type 0 where
  none : Candidates window [] []
  next : {hs cs : List Hypothesis} (h : Hypothesis) (below : Bool) → Candidates window hs cs → Weighed window h below
      → Candidates window (hs ++ h ∷ []) (cs ++ kept below h)

-- one of them is found; of none there is nothing, and of more there are several
abbrev pub verdict : List Hypothesis → Search
verdict [] = Nothing
verdict (h ∷ []) = Found h
verdict (h ∷ g ∷ hs) = Several

-- one candidate more
abbrev pub adding : Search → Hypothesis → Search
adding Nothing h = Found h
adding (Found g) h = Several
adding Several h = Several

pub record Searches (window : List ℕ) (hs : List Hypothesis) (search : Search) : Type 0 where
  pub candidates : List Hypothesis
  pub are : Candidates window hs candidates
  pub answer : search ≡ verdict candidates

-- the numbers of a hypothesis that is found are in their ranges
abbrev pub FoundKnown : Search → Type 0
FoundKnown (Found h) = (h.rate < 5) × (h.offset < 4) × (h.turn < 8)
FoundKnown Nothing = Unit {0}
FoundKnown Several = Unit {0}

-- ---- a call

-- the symbols of a window, which are as many as the longest run of any rate has
abbrev pub window_length : ℕ
window_length = 1632

-- 6 for another rate, 13 for a window of another length, 14 for a number that stands for no decisions
abbrev pub search_number : ℕ → List ℕ → ℕ
search_number rate window = first_due (unless (ltb rate 6) 6 ∷ unless (eqb (length window) window_length) 13 ∷ unless (ltb (largest window) 81) 14 ∷ [])

-- what a call promises: a refusal finds nothing; else the hypotheses of the rate, or of all rates, are searched
pub data SearchesWindow (rate : ℕ) (window : List ℕ) (number : ℕ) (search : Search) : Type 0 where
  refused : number ≡ search_number rate window → 0 < number → search ≡ Nothing → SearchesWindow rate window number search
  done : number ≡ 0 → search_number rate window ≡ 0 → Searches window (searched rate) search → SearchesWindow rate window number search
