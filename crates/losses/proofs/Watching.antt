-- However calls go, no more packets wait than can, and there is a line or a packet that waits for each block at most.
-- Assumes nothing.
use mathlib.Core.Path.{◌≡◌, refl, sym, ap, ap₂, subst, subst₂, ◌∙◌}
use mathlib.Core.Bool.{Bool, true, false}
use mathlib.Core.List.{List, [], ◌∷◌, ◌++◌}
use mathlib.Core.Logic.{◌⊎◌, inl, inr}
use Prim.Native.Nat.{ℕ, ◌+◌, ◌-◌, ◌≤◌, ◌<◌}
use native.Mathlib.Decide.{dec_lt}
use native.Mathlib.Omega.{arith}
use borrow.Author.Tests.{ne_eqb, lt-ltb, le-ltb}
use lib.Dec.{eqb, ltb}
use lib.ListN.{length, get_or, length-append}
use Rattle.std.proofs.Common.{Option, Some}
use Rattle.common.specs.Choice.{pick}
use Rattle.group_sync.specs.Group.{later_place, sync_in_range, group_step}
use Rattle.group_sync.specs.declared.Outcome.TheVariants.{Filling, Delivered, Lost, Waiting, OutOfStep}
use Rattle.group_sync.specs.declared.GroupSync.{GroupSync}
use Rattle.group_sync.specs.declared.GroupStep.{GroupStep}
use Rattle.reception_counts.specs.Counts.{outcome_number}
use Rattle.receiver.specs.Receive.{decoding_of, step_of, state_after, receive_refusal, Ready}
use Rattle.receiver.specs.Run.{Call, answer_of, after_call, after_calls}
use Rattle.receiver.specs.declared.Receiver.{Receiver}
use Rattle.receiver.proofs.Calls.{state_range, ready_number, ready_state}
use Rattle.receiver.proofs.Reached.{Refused, ready_or_refused, refused_state}
use Rattle.losses.specs.List.{line}
use Rattle.losses.specs.Watch.{waiting_of, start_due_at, started_at, waiting_lines, lines_now, and_one_more, certainty_next, most_waiting, certainty_in_range, call_lines, certainty_after, lines_of, certainty_of}
use Rattle.losses.specs.Block.{Watched}
use Rattle.losses.specs.declared.Certainty.{Certainty}
use Rattle.losses.specs.declared.Certainty.TheVariants.{Sure, Unsure}
use Rattle.losses.proofs.Lines.{Fits, length_doubts, not_started, more_fits, place_small}
use Rattle.losses.proofs.Steps.{Stepped, passed, starts, follows, stepped}
use Rattle.losses.proofs.Decisions.{range_fits, fits_range}

range_none : (k : Certainty) (place : Option ℕ) (taken : ℕ) → waiting_of k ≡ 0 → certainty_in_range k place taken ≡ true
range_none k place taken z = fits_range k place taken (omega arith) (omega arith)

-- ---- after a block that is taken

module _ (s : GroupSync) (k : Certainty) (taken : ℕ) (full : 11 ≤ taken) (r : sync_in_range s ≡ true) (f : certainty_in_range k s.place taken ≡ true) where
  abbrev Kept : GroupStep → Type 0
  Kept g = certainty_in_range (certainty_next k (outcome_number g.outcome) (started_at g.sync.place)) g.sync.place (taken + 1) ≡ true

  follows_range : (p : ℕ) → s.place ≡ Some p → 0 < p → certainty_in_range (and_one_more k) (Some (later_place p)) (taken + 1) ≡ true
  follows_range p e h =
      let w = range_fits k s.place taken f in
      let m : Fits k (Some p) (taken - 11) = subst (λ (q : Option ℕ). Fits k q (taken - 11)) e (record { by_place = w.0; by_block = w.1 }) in
      let n = more_fits k p (taken - 11) h (place_small s p e r) m in
      fits_range (and_one_more k) (Some (later_place p)) (taken + 1) n.by_place (omega (arith, n.by_block))

  step_range : (d : Option ℕ) (g : GroupStep) → Stepped s.place d g → Kept g
  step_range d g (passed Filling x h) = absurd h
  step_range d g (passed (Delivered place) x h) = absurd h
  step_range d g (passed Lost x h) = range_none (Unsure 0) x.place (taken + 1) refl
  step_range d g (passed Waiting x h) = range_none (Unsure 0) x.place (taken + 1) refl
  step_range d g (passed OutOfStep x h) = range_none (Unsure 0) x.place (taken + 1) refl
  step_range d g (starts e) = range_none Sure (Some 1) (taken + 1) refl
  step_range d g (follows p e q h) =
      subst (λ (t : Bool). certainty_in_range (pick t Sure (and_one_more k)) (Some (later_place p)) (taken + 1) ≡ true) (sym (not_started p h)) (follows_range p q h)

-- ---- after any call

module _ (s : Receiver) (k : Certainty) (c : Call) (w : Watched s k) where
  -- while the delays fill, the place is untouched
  filling_range : s.counts.taken < 11 → (place : Option ℕ) (taken : ℕ) → place ≡ s.sync.place → s.counts.taken ≤ taken → certainty_in_range k place taken ≡ true
  filling_range h place taken e l =
      let f = range_fits k s.sync.place s.counts.taken w.range in
      let m : waiting_of k ≤ most_waiting place = subst (λ (q : Option ℕ). waiting_of k ≤ most_waiting q) (sym e) f.0 in
      fits_range k place taken m (omega (arith, f.1))

  after_filling : s.counts.taken < 11 → certainty_after s k c ≡ k
  after_filling h = ap (λ (t : Bool). pick t k (certainty_next k (answer_of s c) (started_at (after_call s c).sync.place))) (lt-ltb _ _ h)

  after_full : 11 ≤ s.counts.taken → certainty_after s k c ≡ certainty_next k (answer_of s c) (started_at (after_call s c).sync.place)
  after_full h = ap (λ (t : Bool). pick t k (certainty_next k (answer_of s c) (started_at (after_call s c).sync.place))) (le-ltb _ _ h)

  refused_watched : Refused s c.block c.marks c.output → Watched (after_call s c) (certainty_after s k c)
  refused_watched f =
      subst (λ (x : Receiver). Watched x (certainty_after s k c)) (sym (refused_state s c.block c.marks c.output c.left c.decoded f))
      (record { range = by (dec_lt s.counts.taken 11); most = w.most })
    where
      number : answer_of s c ≡ receive_refusal s c.block c.marks c.output
      number = simp (ne_eqb (receive_refusal s c.block c.marks c.output) 0 (λ e. omega (arith, f.some, e)))

      by : Dec (s.counts.taken < 11) → certainty_in_range (certainty_after s k c) s.sync.place s.counts.taken ≡ true
      by (yes h) = subst (λ (x : Certainty). certainty_in_range x s.sync.place s.counts.taken ≡ true) (sym (after_filling h)) w.range
      by (no h) =
          let e : certainty_after s k c ≡ Unsure 0
          = after_full (omega arith) ∙ ap (λ (z : Bool). pick z (pick (started_at (after_call s c).sync.place) Sure (and_one_more k)) (Unsure 0)) (ne_eqb (answer_of s c) 0 (λ y. omega (arith, number, f.some, y))) in
          subst (λ (x : Certainty). certainty_in_range x s.sync.place s.counts.taken ≡ true) (sym e) (range_none (Unsure 0) s.sync.place s.counts.taken refl)

  ready_watched : Ready s c.block c.marks c.output → Watched (after_call s c) (certainty_after s k c)
  unfolding state_after
  ready_watched y = record { range = by (dec_lt s.counts.taken 11); most = omega (arith, taken, y.more) }
    where
      state : after_call s c ≡ state_after s c.block c.marks c.left c.decoded
      state = ready_state s c.block c.marks c.output y c.left c.decoded

      taken : (after_call s c).counts.taken ≡ s.counts.taken + 1
      taken = ap (λ (x : Receiver). x.counts.taken) state

      by : Dec (s.counts.taken < 11) → certainty_in_range (certainty_after s k c) (after_call s c).sync.place (after_call s c).counts.taken ≡ true
      by (yes h) =
          let o : (step_of s c.left c.decoded).sync ≡ s.sync = simp (lt-ltb _ _ h) in
          let p : (after_call s c).sync.place ≡ s.sync.place = ap (λ (x : Receiver). x.sync.place) state ∙ ap (λ (x : GroupSync). x.place) o in
          subst (λ (x : Certainty). certainty_in_range x (after_call s c).sync.place (after_call s c).counts.taken ≡ true) (sym (after_filling h))
          (filling_range h (after_call s c).sync.place (after_call s c).counts.taken p (omega (arith, taken)))
      by (no h) =
          let l : 11 ≤ s.counts.taken = omega arith in
          let d = decoding_of c.decoded (get_or c.left 0 0) in
          let g = group_step s.sync d in
          let o : step_of s c.left c.decoded ≡ g = simp (le-ltb _ _ l) in
          let p : (after_call s c).sync.place ≡ g.sync.place = ap (λ (x : Receiver). x.sync.place) state ∙ ap (λ (x : GroupStep). x.sync.place) o in
          let n : answer_of s c ≡ outcome_number g.outcome
          = ready_number s c.block c.marks c.output y c.left c.decoded ∙ ap (λ (x : GroupStep). outcome_number x.outcome) o in
          let f = step_range s.sync k s.counts.taken l (state_range s y.range).sync w.range d g (stepped s.sync d) in
          let m = certainty_next k (outcome_number g.outcome) (started_at g.sync.place) in
          subst (λ (x : Certainty). certainty_in_range x (after_call s c).sync.place (after_call s c).counts.taken ≡ true)
          (sym (after_full l ∙ ap₂ (λ (i : ℕ) (q : Option ℕ). certainty_next k i (started_at q)) n p))
          (subst₂ (λ (q : Option ℕ) (t : ℕ). certainty_in_range m q t ≡ true) (sym p) (sym taken) f)

  pub watched_call : Watched (after_call s c) (certainty_after s k c)
  watched_call = by (ready_or_refused s c.block c.marks c.output)
    where
      by : Ready s c.block c.marks c.output ⊎ Refused s c.block c.marks c.output → Watched (after_call s c) (certainty_after s k c)
      by (inl y) = ready_watched y
      by (inr f) = refused_watched f

pub watched_calls : (cs : List Call) (s : Receiver) (k : Certainty) → Watched s k → Watched (after_calls s cs) (certainty_of s k cs)
watched_calls [] s k w = w
watched_calls (c ∷ cs) s k w = watched_calls cs (after_call s c) (certainty_after s k c) (watched_call s k c w)

-- ---- how many lines

pub more_waiting : (k : Certainty) → waiting_of (and_one_more k) ≤ waiting_of k + 1
more_waiting Sure = omega arith
more_waiting (Unsure n) = omega arith

now_few : (k : Certainty) (block number : ℕ) (due started : Bool) → length (lines_now k block number due started) + waiting_of (certainty_next k number started) ≤ waiting_of k + 1
now_few k block number due started = by (eqb number 0) started due
  where
    waits : length (waiting_lines k block) ≡ waiting_of k
    waits = length_doubts (block - waiting_of k) (waiting_of k)

    by : (z t d : Bool)
        → length (pick z (pick t (pick d [] (waiting_lines k block)) []) (waiting_lines k block ++ line block number ∷ [])) + waiting_of (pick z (pick t Sure (and_one_more k)) (Unsure 0)) ≤ waiting_of k + 1
    by false t d = omega (arith, length-append (waiting_lines k block) (line block number ∷ []), waits)
    by true true true = omega arith
    by true true false = omega (arith, waits)
    by true false d = omega (arith, more_waiting k)

call_few : (s : Receiver) (k : Certainty) (c : Call) → length (call_lines s k c) + waiting_of (certainty_after s k c) ≤ waiting_of k + 1
call_few s k c = by (ltb s.counts.taken 11)
  where
    by : (t : Bool) → length (pick t [] (lines_now k (s.counts.taken - 11) (answer_of s c) (start_due_at s.sync.place) (started_at (after_call s c).sync.place)))
        + waiting_of (pick t k (certainty_next k (answer_of s c) (started_at (after_call s c).sync.place))) ≤ waiting_of k + 1
    by true = omega arith
    by false = now_few k (s.counts.taken - 11) (answer_of s c) (start_due_at s.sync.place) (started_at (after_call s c).sync.place)

pub lines_few : (cs : List Call) (s : Receiver) (k : Certainty) → length (lines_of s k cs) + waiting_of (certainty_of s k cs) ≤ waiting_of k + length cs
lines_few [] s k = omega arith
lines_few (c ∷ cs) s k =
    omega (arith, length-append (call_lines s k c) (lines_of (after_call s c) (certainty_after s k c) cs), call_few s k c, lines_few cs (after_call s c) (certainty_after s k c))
