-- A pass through the bridge is the receiver's own: the same answers, the same packets, and bytes that stand for the same receiver.
-- Assumes nothing.
use mathlib.Core.Path.{◌≡◌, subst}
use mathlib.Core.List.{List, ◌++◌}
use Prim.Native.Nat.{ℕ, ◌-◌, ◌≤◌}
use lib.ListN.{length, take, replicate}
use Rattle.common.specs.Lists.{All}
use Rattle.state_bytes.proofs.States.{stands_length, one_state}
use Rattle.randomizer.specs.Stream.{Packet}
use Rattle.receiver.specs.Receive.{fresh_receiver, Receives}
use Rattle.receiver.specs.Kept as kept
use Rattle.receiver.specs.Kept.{Kept}
use Rattle.receiver.specs.declared.Receiver.{Receiver}
use Rattle.receiver.proofs.Promised.{promised_received}
use Rattle.sent_blocks.specs.Blocks.{interleaved_blocks}
use Rattle.receiver_state.specs.State.{state_bytes, StandsFor}
use Rattle.dvbs_bridge.specs.Calls.{wrong_length, no_state, as_receiver}
use Rattle.dvbs_bridge.specs.Pass.{BridgePass, none, call}
use Rattle.receiver_state.proofs.States.{reads, stands_fresh}

-- calls of the receiver with these blocks, answers and packets, and a receiver after them for which these bytes stand
pub record AsKept (s : Receiver) (blocks : List (List ℕ)) (numbers : List ℕ) (packets : List (List ℕ)) (bytes : List ℕ) : Type 0 where
  pub last : Receiver
  pub calls : Kept s blocks numbers packets last
  pub stands : StandsFor bytes last

pub pass_kept : {state last : List ℕ} {blocks : List (List ℕ)} {numbers : List ℕ} {packets : List (List ℕ)} (s : Receiver) → StandsFor state s
    → BridgePass state blocks numbers packets last → AsKept s blocks numbers packets last
pass_kept s h none = record { last = s; calls = kept.none; stands = h }
pass_kept s h (call block output r after exit l (wrong_length n q a x) rest) = absurd (n (stands_length reads _ s h))
pass_kept s h (call block output r after exit l (no_state n f q a x) rest) = absurd (f s h)
pass_kept s h (call {blocks = blocks} {numbers = numbers} {packets = packets} block output r after exit l (as_receiver t k next g a m) rest) =
    let w = pass_kept next m rest in
    record {
      last = w.last;
      calls = kept.call block output exit r next l (subst (λ (x : Receiver). Receives x block output r next exit) (one_state reads _ t s k h) g) w.calls;
      stands = w.stands;
    }

-- demand 2, receiving, through the bridge: begun with a fresh state, the blocks of a fresh sender give its packets back, eleven blocks late
pub pass_received : (packets : List (List ℕ)) → All Packet packets → length packets ≤ 4294967295 → (numbers : List ℕ) (given : List (List ℕ)) (last : List ℕ)
    → BridgePass (state_bytes fresh_receiver) (interleaved_blocks packets) numbers given last
    → (numbers ≡ take (length packets) (replicate 11 9 ++ replicate (length packets) 0)) × (given ≡ take (length packets - 11) packets)
pass_received packets ws l numbers given last p =
    let w = pass_kept fresh_receiver stands_fresh p in
    promised_received packets ws l numbers given w.last w.calls
