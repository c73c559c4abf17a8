-- For callers: what a refusal of a block leaves.
-- Assumes nothing.
use mathlib.Core.Path.{◌≡◌, sym, ap, ◌∙◌}
use mathlib.Core.Bool.{true}
use mathlib.Core.List.{List}
use Prim.Native.Nat.{ℕ}
use Rattle.receiver_state.specs.State.{state_bytes}
use Rattle.dvbs_bridge.specs.Calls.{refuses, BridgeTakes, wrong_length, no_state, as_receiver}
use Rattle.dvbs_bridge.proofs.Takes.{refused_same}

-- after a refusal of a block every byte of the state and of the output is as it was
pub refusal_keeps : (state block output : List ℕ) (r : ℕ) (after exit : List ℕ) → BridgeTakes state block output r after exit
    → refuses r ≡ true → (after ≡ state) × (exit ≡ output)
refusal_keeps state block output r after exit (wrong_length n q a x) f = (a, x)
refusal_keeps state block output r after exit (no_state n k q a x) f = (a, x)
refusal_keeps state block output r after exit (as_receiver s h next g a m) f =
    let k = refused_same s block output r next exit g f in
    (a ∙ ap state_bytes k.0 ∙ sym h.written, k.1)
