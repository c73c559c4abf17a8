-- The ranges of a stream of losses, and what its calls rest on.
-- Assumes nothing.
use mathlib.Core.Path.{◌≡◌, subst}
use mathlib.Core.Bool.{Bool, true}
use mathlib.Core.List.{List}
use mathlib.Core.Logic.{◌⊎◌, inl, inr}
use Prim.Native.Nat.{ℕ, ◌-◌, ◌≤◌, ◌<◌}
use native.Mathlib.Decide.{ℕ_discrete}
use native.Mathlib.Omega.{arith}
use borrow.Author.Tests.{eq-eqb, ne_eqb, eqb-true, ltb-true, lt-ltb}
use lib.Dec.{eqb, ltb}
use lib.ListN.{length, replicate}
use Rattle.common.specs.Choice.{pick}
use Rattle.common.specs.Lists.{largest}
use Rattle.common.proofs.Choice.{both_true}
use Rattle.common.proofs.Largest.{largest_zeros}
use Rattle.reception_counts.proofs.Ranges.{counts_range}
use Rattle.receiver.specs.Receive.{receiver_in_range}
use Rattle.receiver.proofs.Calls.{state_range}
use Rattle.recording.specs.Recording.{marks_for}
use Rattle.losses.specs.Watch.{waiting_of, most_waiting, certainty_in_range}
use Rattle.losses.specs.Feed.{held_marks, loss_stream_in_range, marks_of, marks_fit}
use Rattle.losses.specs.Block.{Watched}
use Rattle.losses.specs.declared.LossStream.{LossStream}
use Rattle.losses.proofs.Decisions.{range_fits}

pub record StreamRange (i : LossStream) : Type 0 where
  pub receiver : receiver_in_range i.receiver ≡ true
  pub small : i.held < 204
  pub marks : largest (held_marks i) < 2
  pub watched : Watched i.receiver i.certainty
  pub waiting : (waiting_of i.certainty ≤ most_waiting i.receiver.sync.place) × (waiting_of i.certainty ≤ i.receiver.counts.taken - 11)

pub stream_range : (i : LossStream) → loss_stream_in_range i ≡ true → StreamRange i
stream_range i e =
    let a = both_true _ _ e in
    let b = both_true _ _ a.1 in
    let c = both_true _ _ b.1 in
    record {
      receiver = a.0;
      small = ltb-true _ _ b.0;
      marks = ltb-true _ _ c.0;
      watched = record { range = c.1; most = (counts_range i.receiver.counts (state_range i.receiver a.0).counts).most };
      waiting = range_fits i.certainty i.receiver.sync.place i.receiver.counts.taken c.1;
    }

pub stream_in_range : (i : LossStream) → receiver_in_range i.receiver ≡ true → i.held < 204 → largest (held_marks i) < 2
    → certainty_in_range i.certainty i.receiver.sync.place i.receiver.counts.taken ≡ true → loss_stream_in_range i ≡ true
stream_in_range i r h m k = simp (r, lt-ltb _ _ h, lt-ltb _ _ m, k)

-- marks that fit are none or one for each byte
pub fit_count : (piece marks : List ℕ) → marks_fit piece marks ≡ true → (length marks ≡ 0) ⊎ (length marks ≡ length piece)
fit_count piece marks e = by (ℕ_discrete (length marks) 0)
  where
    by : Dec (length marks ≡ 0) → (length marks ≡ 0) ⊎ (length marks ≡ length piece)
    by (yes z) = inl z
    by (no z) =
        let f : marks_for piece marks ≡ true = subst (λ (t : Bool). pick t true (marks_for piece marks) ≡ true) (ne_eqb (length marks) 0 z) e in
        inr (eqb-true (length marks) (length piece) (both_true (eqb (length marks) (length piece)) (ltb (largest marks) 2) f).0)

pub fit_small : (piece marks : List ℕ) → marks_fit piece marks ≡ true → largest (marks_of piece marks) < 2
fit_small piece marks e = by (ℕ_discrete (length marks) 0)
  where
    by : Dec (length marks ≡ 0) → largest (marks_of piece marks) < 2
    by (yes z) =
        let n : largest (replicate {A = ℕ} (length piece) 0) < 2 = omega (arith, largest_zeros (length piece)) in
        simp (eq-eqb (length marks) 0 z) n
    by (no z) =
        let f : marks_for piece marks ≡ true = subst (λ (t : Bool). pick t true (marks_for piece marks) ≡ true) (ne_eqb (length marks) 0 z) e in
        let n : largest marks < 2 = ltb-true (largest marks) 2 (both_true (eqb (length marks) (length piece)) (ltb (largest marks) 2) f).1 in
        simp (ne_eqb (length marks) 0 z) n
