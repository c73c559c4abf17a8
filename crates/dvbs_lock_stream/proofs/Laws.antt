-- For callers: what a refusal of points, and of the end, leaves.
-- Assumes nothing.
use mathlib.Core.Path.{◌≡◌}
use mathlib.Core.List.{List}
use Prim.Native.Nat.{ℕ, ◌≤◌}
use lib.Ieee.{Float}
use lib.ListN.{length, get_or}
use Rattle.state_bytes.proofs.Calls.{call_refused}
use Rattle.lock_stream.specs.declared.LockStream.{LockStream}
use Rattle.dvbs_lock_stream.specs.Calls.{FeedsPairs, refused, no_points, stepped, FeedsLock, EndsPairs, refused_end, end_stepped, EndsLock}
use Rattle.lock_state.proofs.Table.{reads}

-- After a refusal, and where no byte is lent for the answer, no point is taken, and every byte of the state and of what else is lent is as it was.
pub refusal_keeps : (state : List ℕ) (is qs : List Float) (lost packets text counts answer : List ℕ) (r : ℕ) (after given told tally said : List ℕ)
    → FeedsLock state is qs lost packets text counts answer r after given told tally said → (1 ≤ length answer → get_or said 0 0 ≡ 0 → ⊥)
    → ((r ≡ 0) × (given ≡ packets) × (told ≡ text) × (tally ≡ counts)) × (after ≡ state)
refusal_keeps state is qs lost packets text counts answer r after given told tally said d f = call_refused reads (λ number. number ≡ 0 → ⊥) (λ s number next o h. kept o h) d f
  where
    kept : {s next : LockStream} {number : ℕ} → FeedsPairs is qs lost packets text counts s number r next given told tally → (number ≡ 0 → ⊥)
        → ((r ≡ 0) × (given ≡ packets) × (told ≡ text) × (tally ≡ counts)) × (next ≡ s)
    kept (refused e p t n g u c) h = ((t, g, u, c), n)
    kept (no_points e p l t n g) h = absurd (h p)
    kept (stepped e p l f u s g) h = absurd (h p)

-- the same of the end
pub end_refusal_keeps : (state : List ℕ) (rest : ℕ) (packets text counts answer : List ℕ) (r : ℕ) (after given told tally said : List ℕ)
    → EndsLock state rest packets text counts answer r after given told tally said → (1 ≤ length answer → get_or said 0 0 ≡ 0 → ⊥)
    → ((r ≡ 0) × (given ≡ packets) × (told ≡ text) × (tally ≡ counts)) × (after ≡ state)
end_refusal_keeps state rest packets text counts answer r after given told tally said d f = call_refused reads (λ number. number ≡ 0 → ⊥) (λ s number next o h. kept o h) d f
  where
    kept : {s next : LockStream} {number : ℕ} → EndsPairs rest packets text counts s number r next given told tally → (number ≡ 0 → ⊥)
        → ((r ≡ 0) × (given ≡ packets) × (told ≡ text) × (tally ≡ counts)) × (next ≡ s)
    kept (refused_end e p o n g u c) h = ((o, g, u, c), n)
    kept (end_stepped e p f u s g) h = absurd (h p)
