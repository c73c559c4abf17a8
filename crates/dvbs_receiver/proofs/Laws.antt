-- For callers: what a refusal of a piece leaves.
-- Assumes nothing.
use mathlib.Core.Path.{◌≡◌}
use mathlib.Core.List.{List}
use Prim.Native.Nat.{ℕ, ◌≤◌}
use lib.ListN.{length, get_or}
use Rattle.state_bytes.proofs.Calls.{call_refused}
use Rattle.receiver_stream.specs.Feed.{FeedsReceiver}
use Rattle.receiver_stream.specs.declared.ReceiverStream.{ReceiverStream}
use Rattle.dvbs_receiver.specs.Calls.{FeedsPiece}
use Rattle.dvbs_receiver.proofs.States.{reads}
use Rattle.dvbs_receiver.proofs.Feeding.{refused_same}

-- after a refusal, and where no byte is lent for the answer, no packet is told of, and every byte of the state and of the output is as it was
pub refusal_keeps : (state piece own output answer : List ℕ) (r : ℕ) (after exit told : List ℕ) → FeedsPiece state piece own output answer r after exit told
    → (1 ≤ length answer → get_or told 0 0 ≡ 0 → ⊥) → (r ≡ 0) × (after ≡ state) × (exit ≡ output)
refusal_keeps state piece own output answer r after exit told d f =
    let same : (i : ReceiverStream) (number : ℕ) (next : ReceiverStream) → FeedsReceiver i piece own output number r next exit → (number ≡ 0 → ⊥)
    → ((r ≡ 0) × (exit ≡ output)) × (next ≡ i)
    = λ i number next o h. let k = refused_same i piece own output number r next exit o h in ((k.0, k.2), k.1) in
    let k = call_refused reads (λ number. number ≡ 0 → ⊥) same d f in
    (k.0.0, k.1, k.0.1)
