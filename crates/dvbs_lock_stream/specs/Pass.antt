-- Points fed call after call, and then the end, each call with the bytes of the state that the call before left. Whatever the firmware does with those bytes between two calls, they
-- are what it saved.
-- Clause: document 02, P8.
-- Assumes nothing.
use Rattle.std.specs.Prelude.{List, [], ◌++◌, map, ℕ, ◌≤◌, eqb, Float, length, get_or, take}
use Rattle.common.specs.Choice.{pick}
use Rattle.branch_metrics.specs.Cost.{received_of}
use Rattle.branch_metrics.specs.SoftPairs.{symbol_pair}
use Rattle.dvbs_lock_stream.specs.Calls.{FeedsLock, EndsLock}

-- what a call wrote into a room, where it was answered 0
abbrev pub written_in : List ℕ → ℕ → List ℕ → List ℕ
written_in said count room = pick (eqb (get_or said 0 0) 0) (take count room) []

-- From the bytes of a state on: the decisions on the points that were taken, the bytes of packets and the text that the calls told that they wrote, one
-- after the other, and the bytes of the state after the last. Each call is lent a byte for its answer.
pub data LockPass (start : List ℕ) : List ℕ → List ℕ → List ℕ → List ℕ → Type 0 where
  none : LockPass start [] [] [] start
  call : {came packets text state : List ℕ} (is qs : List Float) (lost room space counts answer : List ℕ) (r : ℕ) (after given told tally said : List ℕ)
      → LockPass start came packets text state → 1 ≤ length answer → FeedsLock state is qs lost room space counts answer r after given told tally said
      → LockPass start (came ++ take r (take 1632 (map symbol_pair (received_of is qs lost)))) (packets ++ written_in said (get_or tally 0 0) given) (text ++ written_in said (get_or tally 1 0) told) after

-- And the end, call after call until it is over, which 1 tells.
pub data LockEnd (start : List ℕ) (rest : ℕ) : ℕ → List ℕ → List ℕ → List ℕ → Type 0 where
  not_begun : LockEnd start rest 0 [] [] start
  end_call : {packets text state : List ℕ} (room space counts answer : List ℕ) (r : ℕ) (after given told tally said : List ℕ)
      → LockEnd start rest 0 packets text state → 1 ≤ length answer → EndsLock state rest room space counts answer r after given told tally said
      → LockEnd start rest r (packets ++ written_in said (get_or tally 0 0) given) (text ++ written_in said (get_or tally 1 0) told) after
