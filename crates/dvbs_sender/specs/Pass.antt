-- Packets sent one after another, each with the bytes of the state that the call before left. Whatever the firmware does with those bytes between two calls,
-- they are what it saved.
-- Clause: document 02, P2.
-- Assumes nothing.
use Rattle.std.specs.Prelude.{List, [], ◌∷◌, ◌++◌, ℕ, ◌≤◌, length, take}
use Rattle.dvbs_sender.specs.Calls.{SendsPacket}

-- The bytes of the state before the first packet and after the last, and the symbols that the calls told of, one call's after another's. Each call is lent
-- a byte for its answer, and room for the symbols that a packet gives at most.
pub data SenderPass : List ℕ → List (List ℕ) → List ℕ → List ℕ → Type 0 where
  none : {state : List ℕ} → SenderPass state [] [] state
  call : {state last : List ℕ} {inputs : List (List ℕ)} {symbols : List ℕ} (input output answer : List ℕ) (r : ℕ) (after exit told : List ℕ)
      → 1 ≤ length answer → 1632 ≤ length output → SendsPacket state input output answer r after exit told → SenderPass after inputs symbols last
      → SenderPass state (input ∷ inputs) (take r exit ++ symbols) last
