-- For callers: what a refusal of a packet leaves.
-- Assumes nothing.
use mathlib.Core.Path.{◌≡◌}
use mathlib.Core.Bool.{true}
use mathlib.Core.List.{List}
use Prim.Native.Nat.{ℕ, ◌≤◌}
use lib.ListN.{length, get_or}
use Rattle.state_bytes.proofs.Calls.{call_refused}
use Rattle.puncturing.specs.Mode.{mode_of}
use Rattle.sender.specs.Send.{Sends}
use Rattle.sender.specs.declared.Sender.{Sender}
use Rattle.dvbs_sender.specs.Calls.{refuses, SendsPacket}
use Rattle.dvbs_sender.proofs.States.{reads}
use Rattle.dvbs_sender.proofs.Sends.{refused_same}

-- after a refusal, and where no byte is lent for the answer, there are no symbols, and every byte of the state and of the output is as it was
pub refusal_keeps : (state packet output answer : List ℕ) (r : ℕ) (after exit told : List ℕ) → SendsPacket state packet output answer r after exit told
    → (1 ≤ length answer → refuses (get_or told 0 0) ≡ true) → (r ≡ 0) × (after ≡ state) × (exit ≡ output)
refusal_keeps state packet output answer r after exit told d f =
    let same : (s : Sender) (number : ℕ) (next : Sender) → Sends mode_of s packet output number r next exit → refuses number ≡ true → ((r ≡ 0) × (exit ≡ output)) × (next ≡ s)
    = λ s number next o h. let k = refused_same s packet output number r next exit o h in ((k.0, k.2), k.1) in
    let k = call_refused reads (λ number. refuses number ≡ true) same d f in
    (k.0.0, k.1, k.0.1)
