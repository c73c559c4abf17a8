-- What the functions for a receiver of pieces in C give. Of a piece this is said by the promise of the receiver's own call, and so is the report.
-- Clauses: document 01, "Receiver"; document 02, P7 and P11.
-- Assumes nothing.
use Rattle.std.specs.Prelude.{◌≡◌, List, ℕ, eqb, length}
use Rattle.common.specs.Choice.{pick}
use Rattle.state_bytes.specs.Calls.{CallsOn}
use Rattle.receiver_stream.specs.Feed.{fresh_receiver_stream, FeedsReceiver}
use Rattle.receiver_stream.specs.Reporting.{Reports}
use Rattle.dvbs_receiver.specs.State.{layout, state_length, state_bytes, in_range}

-- ---- a fresh state

abbrev pub fresh_number : List ℕ → ℕ
fresh_number state = pick (eqb (length state) state_length) 0 22

abbrev pub fresh_bytes : List ℕ → List ℕ
fresh_bytes state = pick (eqb (length state) state_length) (state_bytes fresh_receiver_stream) state

-- ---- a piece

-- the stream receiver's own call, of the one for which the bytes stand; else no packets, and the output as it was
abbrev pub FeedsPiece : List ℕ → List ℕ → List ℕ → List ℕ → List ℕ → ℕ → List ℕ → List ℕ → List ℕ → Type 0
FeedsPiece state piece marks output answer r after exit told =
    CallsOn layout state_length in_range ((r ≡ 0) × (exit ≡ output)) (λ i number next. FeedsReceiver i piece marks output number r next exit) state answer after told

-- ---- the report

-- the same of its report, which leaves the state as it is
abbrev pub ReportsState : List ℕ → List ℕ → List ℕ → ℕ → List ℕ → List ℕ → Type 0
ReportsState state output answer r exit told =
    CallsOn layout state_length in_range ((r ≡ 0) × (exit ≡ output)) (λ i number next. (next ≡ i) × Reports i output number r exit) state answer state told
