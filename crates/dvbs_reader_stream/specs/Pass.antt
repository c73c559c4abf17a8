-- Symbols and points fed one after another, each call with the bytes of the state that the one before left. Whatever the firmware does with those bytes
-- between two calls, they are what it saved.
-- Clauses: document 02, P1 and P8.
-- Assumes nothing.
use Rattle.std.specs.Prelude.{List, [], ◌++◌, map, ℕ, ◌≤◌, eqb, Float, length, get_or, take}
use Rattle.common.specs.Choice.{pick}
use Rattle.branch_metrics.specs.Cost.{received_of}
use Rattle.branch_metrics.specs.SoftPairs.{symbol_pair}
use Rattle.reader.specs.Decisions.{hard_pair}
use Rattle.dvbs_reader_stream.specs.Calls.{FeedsHard, FeedsSoft}

-- The bytes of the state before the first call and after the last; the decisions on the symbols that came, those of calls that were answered 0; and what the
-- calls told that they wrote, one after the other. Each call is lent a byte for its answer.
pub data ReaderPass : List ℕ → List ℕ → List ℕ → List ℕ → Type 0 where
  none : {state : List ℕ} → ReaderPass state [] [] state
  hard : {state last pairs written : List ℕ} (symbols output answer : List ℕ) (r : ℕ) (after exit told : List ℕ)
      → 1 ≤ length answer → FeedsHard state symbols output answer r after exit told → ReaderPass after pairs written last
      → ReaderPass state (pick (eqb (get_or told 0 0) 0) (map hard_pair symbols) [] ++ pairs) (take r exit ++ written) last
  soft : {state last pairs written : List ℕ} (is qs : List Float) (lost output answer : List ℕ) (r : ℕ) (after exit told : List ℕ)
      → 1 ≤ length answer → FeedsSoft state is qs lost output answer r after exit told → ReaderPass after pairs written last
      → ReaderPass state (pick (eqb (get_or told 0 0) 0) (map symbol_pair (received_of is qs lost)) [] ++ pairs) (take r exit ++ written) last
