-- The counts of a state are those of the history of calls, and each block taken is in exactly one of the middle five.
-- Assumes nothing.
use mathlib.Core.Path.{◌≡◌, refl, sym, ap, ap₂, ◌∙◌}
use mathlib.Core.List.{List, [], ◌∷◌}
use mathlib.Core.Logic.{◌⊎◌, inl, inr}
use Prim.Native.Nat.{ℕ, ◌+◌, ◌*◌, ◌<◌}
use native.Mathlib.Nat.{add-zero, zero-add, add_assoc, zero-mul}
use native.Mathlib.Omega.{arith}
use borrow.Author.Tests.{ne_eqb, lt-ltb, le-ltb}
use lib.Dec.{eqb}
use Rattle.common.specs.Lists.{total}
use Rattle.common.specs.Choice.{indicator}
use Rattle.reed_solomon.specs.Code.{differ, differ_bits, changes}
use Rattle.reed_solomon.specs.declared.Changed.{Changed}
use Rattle.group_sync.specs.declared.Outcome.{Outcome}
use Rattle.group_sync.specs.declared.Outcome.TheVariants.{Filling, Delivered, Lost, Waiting, OutOfStep}
use Rattle.reception_counts.specs.Counts.{outcome_number, counted}
use Rattle.reception_counts.specs.declared.Counts.{Counts}
use Rattle.receiver.specs.Receive.{fresh_receiver, delayed_block, of_accepted, step_of, state_after, receive_refusal, Ready}
use Rattle.receiver.specs.Run.{Call, answer_of, after_call, after_calls, Event, history, answered, taken_by, accepted_by, over_accepted, counts_of}
use Rattle.receiver.specs.declared.Receiver.{Receiver}
use Rattle.receiver.proofs.Calls.{ready_number, ready_state}
use Rattle.receiver.proofs.Reached.{Refused, ready_or_refused, refused_number, refused_state}

-- the counts with an event more
abbrev pub with_event : Counts → Event → Counts
with_event n e = record {
  taken = n.taken + taken_by e.number;
  filling = n.filling + indicator (eqb e.number 9);
  delivered = n.delivered + indicator (eqb e.number 0);
  lost = n.lost + indicator (eqb e.number 8);
  waiting = n.waiting + indicator (eqb e.number 10);
  outofstep = n.outofstep + indicator (eqb e.number 11);
  changed = n.changed + accepted_by e.number * e.changed.bytes;
  bits = n.bits + accepted_by e.number * e.changed.bits;
}

-- what is told of a call
abbrev event_of : Receiver → Call → Event
event_of s c = record { number = answer_of s c; changed = changes (delayed_block s c.block) c.left }

-- ---- one call

taken_outcome : (o : Outcome) → taken_by (outcome_number o) ≡ 1
taken_outcome Filling = refl
taken_outcome (Delivered p) = refl
taken_outcome Lost = refl
taken_outcome Waiting = refl
taken_outcome OutOfStep = refl

accepted_outcome : (o : Outcome) (n : ℕ) → of_accepted o n ≡ accepted_by (outcome_number o) * n
accepted_outcome Filling n = omega arith
accepted_outcome (Delivered p) n = omega arith
accepted_outcome Lost n = omega arith
accepted_outcome Waiting n = omega arith
accepted_outcome OutOfStep n = omega arith

-- a block taken is in exactly one of the middle five
pub exactly_one : (o : Outcome)
    → indicator (eqb (outcome_number o) 9) + indicator (eqb (outcome_number o) 0) + indicator (eqb (outcome_number o) 8) + indicator (eqb (outcome_number o) 10) + indicator (eqb (outcome_number o) 11) ≡ 1
exactly_one Filling = refl
exactly_one (Delivered p) = refl
exactly_one Lost = refl
exactly_one Waiting = refl
exactly_one OutOfStep = refl

-- a refused call counts nowhere
refused_event : (n : Counts) (k : ℕ) (d : Changed) → 0 < k → (k < 8) ⊎ (11 < k) → with_event n (record { number = k; changed = d }) ≡ n
refused_event n k d h (inl l) =
    simp (
      ne_eqb k 0 (λ e. omega arith),
      ne_eqb k 8 (λ e. omega arith),
      ne_eqb k 9 (λ e. omega arith),
      ne_eqb k 10 (λ e. omega arith),
      ne_eqb k 11 (λ e. omega arith),
      lt-ltb k 8 l,
      zero-mul,
      add-zero,
    )
refused_event n k d h (inr l) =
    simp (
      ne_eqb k 0 (λ e. omega arith),
      ne_eqb k 8 (λ e. omega arith),
      ne_eqb k 9 (λ e. omega arith),
      ne_eqb k 10 (λ e. omega arith),
      ne_eqb k 11 (λ e. omega arith),
      le-ltb k 8 (omega arith),
      le-ltb k 12 (omega arith),
      zero-mul,
      add-zero,
    )

taken_event : (n : Counts) (o : Outcome) (came left : List ℕ)
    → counted n (outcome_number o) (of_accepted o (differ came left)) (of_accepted o (differ_bits came left))
    ≡ with_event n (record { number = outcome_number o; changed = changes came left })
taken_event n o came left =
    ap₂ (counted n (outcome_number o)) (accepted_outcome o (differ came left)) (accepted_outcome o (differ_bits came left))
    ∙ ap (λ (t : ℕ). record {
      taken = n.taken + t;
      filling = n.filling + indicator (eqb (outcome_number o) 9);
      delivered = n.delivered + indicator (eqb (outcome_number o) 0);
      lost = n.lost + indicator (eqb (outcome_number o) 8);
      waiting = n.waiting + indicator (eqb (outcome_number o) 10);
      outofstep = n.outofstep + indicator (eqb (outcome_number o) 11);
      changed = n.changed + accepted_by (outcome_number o) * differ came left;
      bits = n.bits + accepted_by (outcome_number o) * differ_bits came left;
    }) (sym (taken_outcome o))

call_counts : (s : Receiver) (c : Call) → (after_call s c).counts ≡ with_event s.counts (event_of s c)
unfolding state_after
call_counts s c = by (ready_or_refused s c.block c.marks c.output)
  where
    by : Ready s c.block c.marks c.output ⊎ Refused s c.block c.marks c.output → (after_call s c).counts ≡ with_event s.counts (event_of s c)
    by (inl y) =
        ap (λ (r : Receiver). r.counts) (ready_state s c.block c.marks c.output y c.left c.decoded)
        ∙ taken_event s.counts (step_of s c.left c.decoded).outcome (delayed_block s c.block) c.left
        ∙ ap (λ (k : ℕ). with_event s.counts (record { number = k; changed = changes (delayed_block s c.block) c.left }))
        (sym (ready_number s c.block c.marks c.output y c.left c.decoded))
    by (inr f) =
        ap (λ (r : Receiver). r.counts) (refused_state s c.block c.marks c.output c.left c.decoded f)
        ∙ sym
        (ap (λ (k : ℕ). with_event s.counts (record { number = k; changed = changes (delayed_block s c.block) c.left }))
        (refused_number s c.block c.marks c.output c.left c.decoded f)
        ∙ refused_event s.counts (receive_refusal s c.block c.marks c.output) (changes (delayed_block s c.block) c.left) f.some f.apart)

-- ---- a list of calls

-- the counts with the events of a history more
abbrev pub with_history : Counts → List Event → Counts
with_history n es = record {
  taken = n.taken + total (λ e. taken_by e.number) es;
  filling = n.filling + answered 9 es;
  delivered = n.delivered + answered 0 es;
  lost = n.lost + answered 8 es;
  waiting = n.waiting + answered 10 es;
  outofstep = n.outofstep + answered 11 es;
  changed = n.changed + over_accepted (λ c. c.bytes) es;
  bits = n.bits + over_accepted (λ c. c.bits) es;
}

event_history : (n : Counts) (e : Event) (es : List Event) → with_history (with_event n e) es ≡ with_history n (e ∷ es)
event_history n e es = λ i. record {
  taken = add_assoc n.taken (taken_by e.number) (total (λ e. taken_by e.number) es) i;
  filling = add_assoc n.filling (indicator (eqb e.number 9)) (answered 9 es) i;
  delivered = add_assoc n.delivered (indicator (eqb e.number 0)) (answered 0 es) i;
  lost = add_assoc n.lost (indicator (eqb e.number 8)) (answered 8 es) i;
  waiting = add_assoc n.waiting (indicator (eqb e.number 10)) (answered 10 es) i;
  outofstep = add_assoc n.outofstep (indicator (eqb e.number 11)) (answered 11 es) i;
  changed = add_assoc n.changed (accepted_by e.number * e.changed.bytes) (over_accepted (λ c. c.bytes) es) i;
  bits = add_assoc n.bits (accepted_by e.number * e.changed.bits) (over_accepted (λ c. c.bits) es) i;
}

none_history : (n : Counts) → n ≡ with_history n []
none_history n = simp add-zero

calls_counts : (s : Receiver) (cs : List Call) → (after_calls s cs).counts ≡ with_history s.counts (history s cs)
calls_counts s [] = none_history s.counts
calls_counts s (c ∷ cs) =
    calls_counts (after_call s c) cs
    ∙ ap (λ (n : Counts). with_history n (history (after_call s c) cs)) (call_counts s c)
    ∙ event_history s.counts (event_of s c) (history (after_call s c) cs)

-- the counts of a state reached from the fresh one are those of its history, for every list of calls
pub history_counts : (cs : List Call) → (after_calls fresh_receiver cs).counts ≡ counts_of (history fresh_receiver cs)
unfolding fresh_receiver
history_counts cs = calls_counts fresh_receiver cs ∙ simp zero-add
