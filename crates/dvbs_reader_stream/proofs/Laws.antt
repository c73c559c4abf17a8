-- For callers: what a refusal of symbols, of points and of the end leaves.
-- Assumes nothing.
use mathlib.Core.Path.{◌≡◌}
use mathlib.Core.List.{List}
use Prim.Native.Nat.{ℕ, ◌≤◌}
use lib.Ieee.{Float}
use lib.ListN.{length, get_or}
use Rattle.state_bytes.specs.Calls.{CallsOn}
use Rattle.state_bytes.proofs.Calls.{call_refused}
use Rattle.reader_stream.specs.declared.ReaderStream.{ReaderStream}
use Rattle.dvbs_reader_stream.specs.State.{layout, state_length, in_range}
use Rattle.dvbs_reader_stream.specs.Calls.{FeedsPairs, refused, fed, FeedsHard, FeedsSoft, EndsPairs, refused_end, ended, EndsState}
use Rattle.dvbs_reader_stream.proofs.States.{reads}

pairs_refused : {due : ℕ} {s next : ReaderStream} {pairs output exit : List ℕ} {number count : ℕ} → FeedsPairs due s pairs output number count next exit → (number ≡ 0 → ⊥)
    → ((count ≡ 0) × (exit ≡ output)) × (next ≡ s)
pairs_refused (refused e p c n x) f = ((c, x), n)
pairs_refused (fed z n t) f = absurd (f n)

-- of decisions of any kind
refused_keeps : (due : ℕ) (pairs state output answer : List ℕ) (r : ℕ) (after exit told : List ℕ)
    → CallsOn layout state_length in_range ((r ≡ 0) × (exit ≡ output)) (λ s number next. FeedsPairs due s pairs output number r next exit) state answer after told
    → (1 ≤ length answer → get_or told 0 0 ≡ 0 → ⊥) → (r ≡ 0) × (after ≡ state) × (exit ≡ output)
refused_keeps due pairs state output answer r after exit told d f =
    let k = call_refused reads (λ number. number ≡ 0 → ⊥) (λ s number next o h. pairs_refused o h) d f in
    (k.0.0, k.1, k.0.1)

-- After a refusal, and where no byte is lent for the answer, no byte is told of, and every byte of the state and of the output is as it was.
pub refusal_keeps : (state symbols output answer : List ℕ) (r : ℕ) (after exit told : List ℕ) → FeedsHard state symbols output answer r after exit told
    → (1 ≤ length answer → get_or told 0 0 ≡ 0 → ⊥) → (r ≡ 0) × (after ≡ state) × (exit ≡ output)
refusal_keeps state symbols output answer r after exit told d f = refused_keeps _ _ state output answer r after exit told d f

pub soft_refusal_keeps : (state : List ℕ) (is qs : List Float) (lost output answer : List ℕ) (r : ℕ) (after exit told : List ℕ) → FeedsSoft state is qs lost output answer r after exit told
    → (1 ≤ length answer → get_or told 0 0 ≡ 0 → ⊥) → (r ≡ 0) × (after ≡ state) × (exit ≡ output)
soft_refusal_keeps state is qs lost output answer r after exit told d f = refused_keeps _ _ state output answer r after exit told d f

-- the same of the end
pub end_refusal_keeps : (state output left answer : List ℕ) (r : ℕ) (exit behind told : List ℕ) → EndsState state output left answer r exit behind told
    → (1 ≤ length answer → get_or told 0 0 ≡ 0 → ⊥) → (r ≡ 0) × (exit ≡ output) × (behind ≡ left)
end_refusal_keeps state output left answer r exit behind told d f = (call_refused reads (λ number. number ≡ 0 → ⊥) (λ s number next o h. (ended_refused o.1 h, o.0)) d f).0
  where
    ended_refused : {s : ReaderStream} {number : ℕ} → EndsPairs s output left number r exit behind → (number ≡ 0 → ⊥) → (r ≡ 0) × (exit ≡ output) × (behind ≡ left)
    ended_refused (refused_end e p c x b) f = (c, x, b)
    ended_refused (ended z n g h c b) f = absurd (f n)
