-- A pass through the bridge: a block after another, each with the bytes of the state that the call before left.
-- Whatever the firmware does with those bytes between two calls, they are what it saved.
-- Clause: document 02, P14.
-- Assumes nothing.
use Rattle.std.specs.Prelude.{List, [], ◌∷◌, ◌++◌, ℕ, ◌≤◌, eqb, length, take}
use Rattle.common.specs.Choice.{pick}
use Rattle.dvbs_bridge.specs.Calls.{BridgeTakes}

-- The bytes of the state before the first block and after the last, the answers, and the packets that calls answered 0 left in their output.
pub data BridgePass : List ℕ → List (List ℕ) → List ℕ → List (List ℕ) → List ℕ → Type 0 where
  none : {state : List ℕ} → BridgePass state [] [] [] state
  call : {state last : List ℕ} {blocks : List (List ℕ)} {numbers : List ℕ} {packets : List (List ℕ)} (block output : List ℕ) (r : ℕ) (after exit : List ℕ)
      → 188 ≤ length output → BridgeTakes state block output r after exit → BridgePass after blocks numbers packets last
      → BridgePass state (block ∷ blocks) (r ∷ numbers) (pick (eqb r 0) (take 188 exit ∷ []) [] ++ packets) last
