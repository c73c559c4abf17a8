-- The packets that calls of the receiver give, tell and leave waiting, by group synchronization, after eleven calls that are filling.
-- Assumes nothing.
use mathlib.Core.Path.{◌≡◌, refl, sym, ap, ap₂, ◌∙◌}
use mathlib.Core.Bool.{Bool, true, false}
use mathlib.Core.List.{List, [], ◌∷◌, ◌++◌, append_assoc, append-nil}
use Prim.Native.Nat.{ℕ, zero, suc, ◌+◌, ◌≤◌, ◌<◌}
use Prim.{tt}
use native.Mathlib.Omega.{arith}
use borrow.Author.Tests.{ne_eqb, lt-ltb}
use lib.Dec.{eqb}
use lib.ListN.{length, take, drop, replicate}
use lib.Seq.{take-nil}
use Rattle.common.specs.Choice.{pick}
use Rattle.group_sync.specs.Group.{fresh_sync}
use Rattle.group_sync.specs.declared.Outcome.{Outcome}
use Rattle.group_sync.specs.declared.Outcome.TheVariants.{Filling}
use Rattle.group_sync.specs.declared.GroupSync.{GroupSync}
use Rattle.receiver.specs.Receive.{fresh_receiver}
use Rattle.receiver.specs.Run.{Call, answer_of, after_call, after_calls, output_of, packets_given}
use Rattle.receiver.specs.Begun.{lefts, packet_of, delivered_packets}
use Rattle.receiver.specs.declared.Receiver.{Receiver}
use Rattle.receiver.proofs.Calls.{ready_number}
use Rattle.receiver.proofs.Outcomes.{Unrefused, next_unrefused, taken_after, come_to, filled_come_to}
use Rattle.losses.specs.Watch.{is_sure, start_due_at, started_at, certainty_after, certainty_of}
use Rattle.losses.specs.History.{blocks_of}
use Rattle.losses.specs.declared.Certainty.{Certainty}
use Rattle.losses.specs.declared.Certainty.TheVariants.{Unsure}
use Rattle.losses.proofs.Histories.{ready, number_is, started_is, sync_is, certainty_is, none_changed, sync_kept}
use Rattle.lock_receiver.specs.Take.{call_given, call_held}
use Rattle.lock_receiver.specs.History.{unlisted_from, doubtful_from}
use Rattle.lock_receiver.proofs.Meaning.{step_at, step_given, step_told, step_held, step_certainty, all_given, all_doubtful, given_mean, doubtful_mean}

-- ---- call after call

-- the packets that wait and are told
abbrev call_told : Receiver → Certainty → List (List ℕ) → Call → List (List ℕ)
call_told s k held c = pick (eqb (answer_of s c) 0) (pick (started_at (after_call s c).sync.place) (pick (start_due_at s.sync.place) [] held) []) held

abbrev pub given_of : Receiver → Certainty → List (List ℕ) → List Call → List (List ℕ)
given_of s k held [] = []
given_of s k held (c ∷ cs) = call_given s k held c ++ given_of (after_call s c) (certainty_after s k c) (call_held s k held c) cs

abbrev pub told_of : Receiver → Certainty → List (List ℕ) → List Call → List (List ℕ)
told_of s k held [] = []
told_of s k held (c ∷ cs) = call_told s k held c ++ told_of (after_call s c) (certainty_after s k c) (call_held s k held c) cs

abbrev pub held_of : Receiver → Certainty → List (List ℕ) → List Call → List (List ℕ)
held_of s k held [] = held
held_of s k held (c ∷ cs) = held_of (after_call s c) (certainty_after s k c) (call_held s k held c) cs

pub given_both : (s : Receiver) (k : Certainty) (held : List (List ℕ)) (a b : List Call)
    → given_of s k held (a ++ b) ≡ given_of s k held a ++ given_of (after_calls s a) (certainty_of s k a) (held_of s k held a) b
given_both s k held [] b = refl
given_both s k held (c ∷ a) b =
    ap (λ (l : List (List ℕ)). call_given s k held c ++ l) (given_both (after_call s c) (certainty_after s k c) (call_held s k held c) a b)
    ∙ sym (append_assoc (call_given s k held c) (given_of (after_call s c) (certainty_after s k c) (call_held s k held c) a)
    (given_of (after_calls (after_call s c) a) (certainty_of (after_call s c) (certainty_after s k c) a) (held_of (after_call s c) (certainty_after s k c) (call_held s k held c) a) b))

pub held_both : (s : Receiver) (k : Certainty) (held : List (List ℕ)) (a b : List Call)
    → held_of s k held (a ++ b) ≡ held_of (after_calls s a) (certainty_of s k a) (held_of s k held a) b
held_both s k held [] b = refl
held_both s k held (c ∷ a) b = held_both (after_call s c) (certainty_after s k c) (call_held s k held c) a b

-- ---- one call

-- a packet by itself, or the list of it
own_given : (b start due sure : Bool) (held own : List (List ℕ)) (p : List ℕ) → pick b (p ∷ []) [] ≡ own
    → pick b (pick start (pick due held [] ++ p ∷ []) (pick sure (p ∷ []) [])) [] ≡ pick b (pick start (pick due held [] ++ own) (pick sure own [])) []
own_given true start due sure held own p e = ap (λ (l : List (List ℕ)). pick start (pick due held [] ++ l) (pick sure l [])) e
own_given false start due sure held own p e = refl

own_held : (b start sure : Bool) (held own : List (List ℕ)) (p : List ℕ) → pick b (p ∷ []) [] ≡ own
    → pick b (pick start [] (pick sure [] (held ++ p ∷ []))) [] ≡ pick b (pick start [] (pick sure [] (held ++ own))) []
own_held true start sure held own p e = ap (λ (l : List (List ℕ)). pick start [] (pick sure [] (held ++ l))) e
own_held false start sure held own p e = refl

module _ (s : Receiver) (k : Certainty) (held : List (List ℕ)) (c : Call) (cs : List Call) (u : Unrefused s (c ∷ cs)) where
  alone : Unrefused s (c ∷ [])
  alone = record {
    sound = u.sound;
    most = let m = u.most in omega arith;
    sizes = (u.sizes.0, tt);
    marked = (u.marked.0, tt);
    outputs = (u.outputs.0, tt);
    decodes = (u.decodes.0, tt);
  }

  module _ (h : 11 ≤ s.counts.taken) where
    abbrev own : List (List ℕ)
    own = packet_of (step_at s.sync c).outcome c.left

    own_is : pick (eqb (answer_of s c) 0) (take 188 (output_of s c) ∷ []) [] ≡ own
    own_is = sym (append-nil (pick (eqb (answer_of s c) 0) (take 188 (output_of s c) ∷ []) [])) ∙ (come_to (c ∷ []) s alone h).given ∙ append-nil own

    given_is : call_given s k held c ≡ step_given s.sync.place k held (step_at s.sync c) own
    given_is =
        own_given (eqb (answer_of s c) 0) (started_at (after_call s c).sync.place) (start_due_at s.sync.place) (is_sure k) held own (take 188 (output_of s c)) own_is
        ∙ ap₂ (λ (n : ℕ) (t : Bool). pick (eqb n 0) (pick t (pick (start_due_at s.sync.place) held [] ++ own) (pick (is_sure k) own [])) []) (number_is s k c cs u h) (started_is s k c cs u h)

    held_is : call_held s k held c ≡ step_held k held (step_at s.sync c) own
    held_is =
        own_held (eqb (answer_of s c) 0) (started_at (after_call s c).sync.place) (is_sure k) held own (take 188 (output_of s c)) own_is
        ∙ ap₂ (λ (n : ℕ) (t : Bool). pick (eqb n 0) (pick t [] (pick (is_sure k) [] (held ++ own))) []) (number_is s k c cs u h) (started_is s k c cs u h)

    told_is : call_told s k held c ≡ step_told s.sync.place k held (step_at s.sync c)
    told_is = ap₂ (λ (n : ℕ) (t : Bool). pick (eqb n 0) (pick t (pick (start_due_at s.sync.place) [] held) []) held) (number_is s k c cs u h) (started_is s k c cs u h)

  module _ (h : s.counts.taken < 11) where
    filling : eqb (answer_of s c) 0 ≡ false
    filling =
        let n : answer_of s c ≡ 9 = ready_number s c.block c.marks c.output (ready s k c cs u) c.left c.decoded ∙ simp (lt-ltb s.counts.taken 11 h) in
        ne_eqb (answer_of s c) 0 (λ z. omega arith)

-- ---- after filling

-- what calls give, and what they tell and leave waiting, is this of them by group synchronization
record Comes (s : Receiver) (k : Certainty) (held : List (List ℕ)) (cs : List Call) (sync : GroupSync) (m : Certainty) (w : List (List ℕ)) (rest : List Call) : Type 0 where
  pub given : given_of s k held cs ≡ all_given sync m w rest
  pub doubtful : told_of s k held cs ++ held_of s k held cs ≡ all_doubtful sync m w rest

all_come : (cs : List Call) (s : Receiver) (k : Certainty) (held : List (List ℕ)) → Unrefused s cs → 11 ≤ s.counts.taken → Comes s k held cs s.sync k held cs
all_come [] s k held u h = record { given = refl; doubtful = refl }
all_come (c ∷ cs) s k held u h =
    let g = step_at s.sync c in
    let own = packet_of g.outcome c.left in
    let m = certainty_after s k c in
    let w = call_held s k held c in
    let r = all_come cs (after_call s c) m w (next_unrefused s c cs u) (omega (arith, taken_after s c cs u)) in
    record {
      given =
          ap₂ (λ (x y : List (List ℕ)). x ++ y) (given_is s k held c cs u h) r.given
          ∙ ap₂ (λ (x : GroupSync) (q : Certainty). step_given s.sync.place k held g own ++ all_given x q w cs) (sync_is s k c cs u h) (certainty_is s k c cs u h)
          ∙ ap (λ (x : List (List ℕ)). step_given s.sync.place k held g own ++ all_given g.sync (step_certainty k g) x cs) (held_is s k held c cs u h);
      doubtful =
          append_assoc (call_told s k held c) (told_of (after_call s c) m w cs) (held_of (after_call s c) m w cs)
          ∙ ap₂ (λ (x y : List (List ℕ)). x ++ y) (told_is s k held c cs u h) r.doubtful
          ∙ ap₂ (λ (x : GroupSync) (q : Certainty). step_told s.sync.place k held g ++ all_doubtful x q w cs) (sync_is s k c cs u h) (certainty_is s k c cs u h)
          ∙ ap (λ (x : List (List ℕ)). step_told s.sync.place k held g ++ all_doubtful g.sync (step_certainty k g) x cs) (held_is s k held c cs u h);
    }

-- n more blocks until the delays are full: nothing is given, and nothing waits
filled_come : (n : ℕ) (cs : List Call) (s : Receiver) (k : Certainty) → Unrefused s cs → s.counts.taken + n ≡ 11 → Comes s k [] cs s.sync k [] (drop n cs)
filled_come zero cs s k u h = all_come cs s k [] u (omega arith)
filled_come (suc n) [] s k u h = record { given = refl; doubtful = refl }
filled_come (suc n) (c ∷ cs) s k u h =
    let l : s.counts.taken < 11 = omega arith in
    let f = filling s k [] c cs u l in
    let m = certainty_after s k c in
    let w : call_held s k [] c ≡ [] = simp f in
    let g : call_given s k [] c ≡ [] = simp f in
    let t : call_told s k [] c ≡ [] = simp f in
    let r = filled_come n cs (after_call s c) m (next_unrefused s c cs u) (omega (arith, taken_after s c cs u)) in
    record {
      given =
          ap₂ (λ (x y : List (List ℕ)). x ++ given_of (after_call s c) m y cs) g w ∙ r.given
          ∙ ap₂ (λ (x : GroupSync) (q : Certainty). all_given x q [] (drop n cs)) (sync_kept s k c cs u l) (none_changed s k c cs u l);
      doubtful =
          ap₂ (λ (x y : List (List ℕ)). (x ++ told_of (after_call s c) m y cs) ++ held_of (after_call s c) m y cs) t w ∙ r.doubtful
          ∙ ap₂ (λ (x : GroupSync) (q : Certainty). all_doubtful x q [] (drop n cs)) (sync_kept s k c cs u l) (none_changed s k c cs u l);
    }

-- ---- of a fresh receiver

filled_packets : (n : ℕ) (cs : List Call) (os : List Outcome) → delivered_packets (take (length cs) (replicate n Filling) ++ os) (lefts cs) ≡ delivered_packets os (lefts (drop n cs))
filled_packets zero cs os = ap (λ (l : List Outcome). delivered_packets (l ++ os) (lefts cs)) (take-nil (length cs))
filled_packets (suc n) [] os = refl
filled_packets (suc n) (c ∷ cs) os = filled_packets n cs os

module _ (cs : List Call) (u : Unrefused fresh_receiver cs) where
  pub fresh_given : given_of fresh_receiver (Unsure 0) [] cs ≡ unlisted_from 0 false (blocks_of cs) (lefts (drop 11 cs))
  unfolding fresh_receiver
  fresh_given =
      (filled_come 11 cs fresh_receiver (Unsure 0) u refl).given ∙ given_mean (drop 11 cs) fresh_sync 0

  pub fresh_doubtful : told_of fresh_receiver (Unsure 0) [] cs ++ held_of fresh_receiver (Unsure 0) [] cs ≡ doubtful_from 0 false (blocks_of cs) (lefts (drop 11 cs))
  unfolding fresh_receiver
  fresh_doubtful =
      (filled_come 11 cs fresh_receiver (Unsure 0) u refl).doubtful ∙ doubtful_mean (drop 11 cs) fresh_sync 0

  pub fresh_packets : packets_given fresh_receiver cs ≡ delivered_packets (blocks_of cs) (lefts (drop 11 cs))
  unfolding fresh_receiver
  fresh_packets = (filled_come_to 11 cs fresh_receiver u refl).given ∙ filled_packets 11 cs (blocks_of cs)
