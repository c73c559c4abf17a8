-- Points fed through the bytes of a state are taken as by the library's own stream of locks, and the end is its own: the same packets and text, and bytes that stand for
-- the same lock.
-- Assumes nothing.
use Rattle.std.specs.Prelude.{Option, Some, None}
use mathlib.Core.Path.{◌≡◌, refl, sym, ◌∙◌, ap, subst}
use mathlib.Core.Bool.{Bool, false}
use mathlib.Core.List.{List, [], ◌++◌, map, append-nil}
use Prim.Native.Nat.{ℕ, ◌+◌, ◌≤◌, ◌<◌}
use Prim.{tt}
use native.Mathlib.Omega.{arith}
use borrow.Author.Tests.{eq-eqb, ne_eqb}
use lib.Ieee.{Float}
use lib.ListN.{length, get_or, take, drop, set, length-set, length-replicate}
use lib.Seq.{get_or-set_same, get_or-set_other, take-append_seam}
use Rattle.common.specs.Choice.{pick}
use Rattle.branch_metrics.specs.Cost.{received_of}
use Rattle.branch_metrics.specs.SoftPairs.{symbol_pair}
use Rattle.state_bytes.proofs.Calls.{own_call}
use Rattle.lock_stream.specs.Stream as stream
use Rattle.lock_stream.specs.Stream.{fresh_stream, StreamReady, LockSteps, LockEnds}
use Rattle.lock_stream.specs.Source.{came_of, fresh_source}
use Rattle.lock_stream.specs.Progress.{fresh_progress, closing_text}
use Rattle.lock_receiver.specs.Take.{fresh_lock}
use Rattle.acquisition.specs.Step.{fresh_acquisition}
use Rattle.acquisition.proofs.Ready.{searching_ready}
use Rattle.lock_stream.proofs.Sources.{fresh_ready}
use Rattle.lock_stream.proofs.Taking.{fresh_range}
use Rattle.receiver.proofs.Reached.{sound_fresh}
use Rattle.lock_stream.specs.declared.LockStream.{LockStream}
use Rattle.lock_state.specs.State.{state_bytes, StandsFor, NextSized}
use Rattle.dvbs_lock_stream.specs.Calls.{short_room, points_due, counted, GivesTold, FeedsPairs, refused, no_points, stepped, end_due, StepsEnd, goes_on, ended, EndsPairs, refused_end, end_stepped}
use Rattle.dvbs_lock_stream.specs.Pass.{written_in, LockPass, none, call, LockEnd, not_begun, end_call}
use Rattle.lock_state.proofs.Table.{reads}
use Rattle.dvbs_lock_stream.proofs.Feeding.{fresh_left, fresh_come, fresh_cleared, room_enough, points_pass, end_pass}
use Rattle.lock_state.proofs.Locks.{stands_cleared}

-- ---- what a call tells

tally_first : (counts : List ℕ) (p t : ℕ) → 2 ≤ length counts → get_or (counted counts p t) 0 0 ≡ p
tally_first counts p t h = get_or-set_other (set counts 0 p) 1 0 t 0 (λ e. absurd (omega arith)) ∙ get_or-set_same counts 0 p 0 (omega arith)

tally_second : (counts : List ℕ) (p t : ℕ) → 2 ≤ length counts → get_or (counted counts p t) 1 0 ≡ t
tally_second counts p t h = get_or-set_same (set counts 0 p) 1 t 0 (omega (arith, length-set counts 0 p))

-- a call that was not refused was lent two counts
counts_lent : (came : ℕ) (is qs : List Float) (lost : List ℕ) (packets text counts : ℕ) → points_due came is qs lost (short_room packets text counts) ≡ 0 → 2 ≤ counts
counts_lent came is qs lost packets text counts e =
    (room_enough packets text counts (points_pass came is qs lost (short_room packets text counts) e).1).2

-- what a call told that it wrote
module _ (room space counts given told tally said : List ℕ) where
  none_written : (get_or said 0 0 ≡ 0 → ⊥) → (count : ℕ) (l : List ℕ) → written_in said count l ≡ []
  none_written h count l = ap (λ (b : Bool). pick b (take count l) []) (ne_eqb (get_or said 0 0) 0 h)

  module _ (zero : get_or said 0 0 ≡ 0) (lent : 2 ≤ length counts) (front lines : List ℕ) (g : GivesTold room space counts front lines given told tally) where
    answered : (count : ℕ) (l : List ℕ) → written_in said count l ≡ take count l
    answered count l = ap (λ (b : Bool). pick b (take count l) []) (eq-eqb (get_or said 0 0) 0 zero)

    front_written : written_in said (get_or tally 0 0) given ≡ front
    front_written =
        let p : get_or tally 0 0 ≡ length front = ap (λ (l : List ℕ). get_or l 0 0) g.tally_is ∙ tally_first counts (length front) (length lines) lent in
        answered (get_or tally 0 0) given ∙ (λ i. take (p i) (g.given_is i)) ∙ take-append_seam front (drop (0 + length front) room)

    lines_written : written_in said (get_or tally 1 0) told ≡ lines
    lines_written =
        let p : get_or tally 1 0 ≡ length lines = ap (λ (l : List ℕ). get_or l 1 0) g.tally_is ∙ tally_second counts (length front) (length lines) lent in
        answered (get_or tally 1 0) told ∙ (λ i. take (p i) (g.told_is i)) ∙ take-append_seam lines (drop (0 + length lines) space)

nothing_more : (l x : List ℕ) → x ≡ [] → l ≡ l ++ x
nothing_more l x e = sym (append-nil l) ∙ ap (λ (y : List ℕ). l ++ y) (sym e)

-- ---- call after call

-- steps of the library's own stream with these decisions, packets and text, and a stream after them for which these bytes stand
pub record AsStepped (rate : ℕ) (came packets text state : List ℕ) : Type 0 where
  pub last : LockStream
  pub steps : LockSteps false rate came packets text last
  pub stands : StandsFor state last

same_steps : {rate : ℕ} {c c' p p' t t' : List ℕ} {s : LockStream} → c ≡ c' → p ≡ p' → t ≡ t' → LockSteps false rate c p t s → LockSteps false rate c' p' t' s
same_steps {rate} {c} {c'} {p} {p'} {t} {t'} {s} a b e h = subst (λ (x : List ℕ × List ℕ × List ℕ). LockSteps false rate x.0 x.1 x.2 s) (λ i. (a i, b i, e i)) h

module _ (rate : ℕ) {came packets text : List ℕ} {s : LockStream} (before : LockSteps false rate came packets text s) (is qs : List Float) (lost room space counts : List ℕ) (r : ℕ)
    (given told tally said : List ℕ) where
  abbrev pairs : List ℕ
  pairs = take 1632 (map symbol_pair (received_of is qs lost))

  abbrev Next : LockStream → Type 0
  Next next = LockSteps false rate (came ++ take r pairs) (packets ++ written_in said (get_or tally 0 0) given) (text ++ written_in said (get_or tally 1 0) told) next

  one_call : (next : LockStream) → FeedsPairs is qs lost room space counts s (get_or said 0 0) r next given told tally → Next next
  one_call next (refused e some nil same a b c) =
      let z = none_written room space counts given told tally said (λ q. absurd (omega arith)) in
      subst Next (sym same)
      (same_steps (nothing_more came (take r pairs) (ap (λ (n : ℕ). take n pairs) nil)) (nothing_more packets _ (z (get_or tally 0 0) given)) (nothing_more text _ (z (get_or tally 1 0) told)) before)
  one_call next (no_points due zero empty nil same g) =
      let lent = counts_lent (came_of s.source) is qs lost (length room) (length space) (length counts) due in
      subst Next (sym same)
      (same_steps (nothing_more came (take r pairs) (ap (λ (n : ℕ). take n pairs) nil)) (nothing_more packets _ (front_written room space counts given told tally said zero lent [] [] g))
      (nothing_more text _ (lines_written room space counts given told tally said zero lent [] [] g)) before)
  one_call next (stepped due zero some front lines h g) =
      let lent = counts_lent (came_of s.source) is qs lost (length room) (length space) (length counts) due in
      same_steps refl (ap (λ (l : List ℕ). packets ++ l) (sym (front_written room space counts given told tally said zero lent front lines g)))
      (ap (λ (l : List ℕ). text ++ l) (sym (lines_written room space counts given told tally said zero lent front lines g)))
      (stream.stepped pairs front lines r before h)

-- ---- the end

-- The library's own end, with these packets and this text: the closing lines stand behind the others where it is over.
pub data EndsAsOwn (s : LockStream) (rest : ℕ) : ℕ → List ℕ → List ℕ → LockStream → Type 0 where
  goes_on_so : {packets text : List ℕ} {last : LockStream} (over : ℕ) → over ≡ 0 → LockEnds s None packets text last → EndsAsOwn s rest over packets text last
  over_so : {packets lines text : List ℕ} {last : LockStream} (over left : ℕ) → over ≡ 1 → LockEnds s (Some left) packets lines last
      → text ≡ lines ++ closing_text false last.progress (came_of last.source) left rest → EndsAsOwn s rest over packets text last

-- it, and a stream after it for which these bytes stand
pub record AsEnded (s : LockStream) (rest over : ℕ) (packets text state : List ℕ) : Type 0 where
  pub last : LockStream
  pub ends : EndsAsOwn s rest over packets text last
  pub stands : StandsFor state last

same_ends : {s last : LockStream} {over : Option ℕ} {p p' t t' : List ℕ} → p ≡ p' → t ≡ t' → LockEnds s over p t last → LockEnds s over p' t' last
same_ends {s} {last} {over} {p} {p'} {t} {t'} a b h = subst (λ (x : List ℕ × List ℕ). LockEnds s over x.0 x.1 last) (λ i. (a i, b i)) h

end_lent : (packets text counts : ℕ) → end_due (short_room packets text counts) ≡ 0 → 2 ≤ counts
end_lent packets text counts e = (room_enough packets text counts (end_pass (short_room packets text counts) e)).2

module _ (s : LockStream) (rest : ℕ) {packets text : List ℕ} {t : LockStream} (before : LockEnds s None packets text t) (room space counts : List ℕ) (r : ℕ) (given told tally said : List ℕ) where
  abbrev EndNext : LockStream → Type 0
  EndNext next = EndsAsOwn s rest r (packets ++ written_in said (get_or tally 0 0) given) (text ++ written_in said (get_or tally 1 0) told) next

  end_one : (next : LockStream) → EndsPairs rest room space counts t (get_or said 0 0) r next given told tally → EndNext next
  end_one next (refused_end e some nil same a b c) =
      let z = none_written room space counts given told tally said (λ q. absurd (omega arith)) in
      subst EndNext (sym same) (goes_on_so r nil (same_ends (nothing_more packets _ (z (get_or tally 0 0) given)) (nothing_more text _ (z (get_or tally 1 0) told)) before))
  end_one next (end_stepped due zero front lines k g) = by k
    where
      lent : 2 ≤ length counts
      lent = end_lent (length room) (length space) (length counts) due

      fronts : packets ++ front ≡ packets ++ written_in said (get_or tally 0 0) given
      fronts = ap (λ (l : List ℕ). packets ++ l) (sym (front_written room space counts given told tally said zero lent front lines g))

      texts : written_in said (get_or tally 1 0) told ≡ lines
      texts = lines_written room space counts given told tally said zero lent front lines g

      by : StepsEnd rest t r front lines next → EndNext next
      by (goes_on nil e) = goes_on_so r nil (same_ends fronts (ap (λ (l : List ℕ). text ++ l) (sym texts)) (stream.ended None front lines before e))
      by (ended last one e q) =
          over_so r last one (same_ends fronts (append-nil text) (stream.ended (Some last) front [] before e)) (ap (λ (l : List ℕ). text ++ l) (texts ∙ q))

pub pass_ended : {start : List ℕ} {rest : ℕ} {packets text state : List ℕ} {over : ℕ} (s : LockStream) → StandsFor start s → LockEnd start rest over packets text state → AsEnded s rest over packets text state
pass_ended s h not_begun = record { last = s; ends = goes_on_so 0 refl stream.ending; stands = h }
pass_ended {start} {rest = rest} s h (end_call {packets} {text} {state} room space counts answer r after given told tally said p one f) =
    let w = pass_ended s h p in
    let o = own_call reads w.last w.stands one f in
    record { last = o.next; ends = by w.ends o.own; stands = o.stands }
  where
    by : {t next : LockStream} → EndsAsOwn s rest 0 packets text t → EndsPairs rest room space counts t (get_or said 0 0) r next given told tally
        → EndsAsOwn s rest r (packets ++ written_in said (get_or tally 0 0) given) (text ++ written_in said (get_or tally 1 0) told) next
    by {t} {next} (goes_on_so over z e) own = end_one s rest e room space counts r given told tally said next own
    by (over_so over left z e q) own = absurd (omega arith)

-- ---- a fresh state

fresh_stream_lem : (rate : ℕ) → rate < 6 → StreamReady (fresh_stream false rate)
unfolding fresh_stream fresh_source fresh_acquisition fresh_progress
fresh_stream_lem rate h = record { source = fresh_ready false rate (searching_ready rate false [] 0 h (omega arith) tt (omega arith) (omega arith)); receiver = fresh_range }

fresh_sized : (rate : ℕ) → NextSized (fresh_stream false rate)
unfolding fresh_stream fresh_progress fresh_lock
fresh_sized rate = record {
  blocks = record { cells = sound_fresh.branches.cells; positions = sound_fresh.branches.positions; marks = sound_fresh.marks };
  packets = length-replicate {A = ℕ} 1316 0;
  skipped = omega arith;
  end = omega arith;
}

-- The bytes that dvbs_lock_fresh writes stand for a fresh lock.
pub stands_fresh : (rate : ℕ) → rate < 6 → StandsFor (state_bytes (fresh_stream false rate)) (fresh_stream false rate)
stands_fresh rate h =
    subst (λ (s : LockStream). StandsFor (state_bytes s) s) (fresh_cleared rate)
    (stands_cleared (fresh_stream false rate) (fresh_stream_lem rate h) (fresh_come rate) (fresh_left rate) (fresh_sized rate))

-- begun with them
pub pass_stepped : (rate : ℕ) {came packets text state : List ℕ} → rate < 6 → LockPass (state_bytes (fresh_stream false rate)) came packets text state → AsStepped rate came packets text state
pass_stepped rate h none = record { last = fresh_stream false rate; steps = stream.fresh; stands = stands_fresh rate h }
pass_stepped rate h (call is qs lost room space counts answer r after given told tally said p one f) =
    let w = pass_stepped rate h p in
    let o = own_call reads w.last w.stands one f in
    record { last = o.next; steps = one_call rate w.steps is qs lost room space counts r given told tally said o.next o.own; stands = o.stands }
