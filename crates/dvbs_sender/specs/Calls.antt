-- What the functions for a sender in C give. Of a packet this is said by the promise of the sender's own call.
-- Clauses: document 01, "State ranges" and "Answer numbers"; document 02, P2 and P12.
-- Assumes nothing.
use Rattle.std.specs.Prelude.{◌≡◌, Bool, false, not, List, [], ◌∷◌, ℕ, eqb, length}
use Rattle.common.specs.Choice.{pick}
use Rattle.common.specs.Refusal.{unless, first_due}
use Rattle.state_bytes.specs.Calls.{CallsOn}
use Rattle.puncturing.specs.Mode.{mode_of}
use Rattle.sender.specs.Send.{fresh_sender, Sends}
use Rattle.dvbs_sender.specs.State.{layout, state_length, state_bytes, in_range}

-- ---- a fresh state

-- 22 for a state of another length, 6 for a mode that is not sent
abbrev pub fresh_number : List ℕ → ℕ → ℕ
fresh_number state mode = first_due (unless (eqb (length state) state_length) 22 ∷ unless (mode_of mode).sent 6 ∷ [])

abbrev pub fresh_bytes : List ℕ → ℕ → List ℕ
fresh_bytes state mode = pick (eqb (fresh_number state mode) 0) (state_bytes (fresh_sender mode)) state

-- ---- a packet

-- the answers with which no packet is sent: other than 0 and 15
abbrev pub refuses : ℕ → Bool
refuses number = pick (eqb number 0) false (not (eqb number 15))

-- the sender's own call, of the sender for which the bytes stand; else no symbols, and the output as it was
abbrev pub SendsPacket : List ℕ → List ℕ → List ℕ → List ℕ → ℕ → List ℕ → List ℕ → List ℕ → Type 0
SendsPacket state packet output answer r after exit told =
    CallsOn layout state_length in_range ((r ≡ 0) × (exit ≡ output)) (λ s number next. Sends mode_of s packet output number r next exit) state answer after told
