-- `pass::receive_all` meets its contract.
-- Assumes nothing.
use mathlib.Core.Path.{◌≡◌, refl, sym, ap, ap₂, subst, ◌∙◌}
use mathlib.Core.Bool.{Bool, true≢false}
use Prim.Native.Nat.{ℕ, ◌≤◌, min}
use native.Mathlib.Omega.{arith}
use lib.Seq.{length-take-le}
use Rattle.common.specs.Choice.{pick}
use Rattle.answer.proofs.Positive.{number_not_zero}
use Rattle.receiver_stream.specs.Feed.{capacity_of}
use Rattle.receiver_stream.proofs.Laws.{reception_range}
use Rattle.pass.specs.Pass.{marks_failed, output_failed_lem, refused}
use Rattle.pass.proofs.Going.{came_none, came_taken, came_over, ended_read, came_bad, came_more, came_less, taken, hands_file, hands_nothing, hands_wanted, feeds_within}
use Rattle.pass.proofs.receive_all.Goals as goal

pub loop-ending-init : goal.loop-ending-init
loop-ending-init c =
    let p = c.requires in
    (came_none _ p.0 p.1 p.2 p.3 p.7 c.new-stream.ensures, p.4, p.5, p.6, refl, refl, refl, λ w. refl)

pub read-filled-requires : goal.read-filled-requires
read-filled-requires c =
    let l = c.loop-ending in
    omega (arith, c.min-most.ensures)

pub returns-then-n-eq0 : goal.returns-then-n-eq0
returns-then-n-eq0 c =
    let most_is : c.min-most.result ≡ min (capacity_of c.loop-ending.stream) 65536 = let l = c.loop-ending in
    c.min-most.ensures ∙ ap₂ min (c.capacity.ensures ∙ ap (λ (t : Bool). pick t (capacity_of l.stream) 0) (reception_range l.invariant.0.reception)) l.invariant.1 in
    let l = c.loop-ending in
    let r = c.read-filled in
    record {
      input_origin_lem = r.ensures.origin ∙ l.invariant.4;
      marks_origin = l.invariant.5;
      file = l.invariant.6;
      unwanted = l.invariant.7;
      ends = came_over l.invariant.0 (most_is) r.ensures c.if-n-eq0.true c.ending_of-ending.ensures;
    }

pub read_marks-marked-requires : goal.read_marks-marked-requires
read_marks-marked-requires c =
    let most_is : c.min-most.result ≡ min (capacity_of c.loop-ending.stream) 65536 = let l = c.loop-ending in
    c.min-most.ensures ∙ ap₂ min (c.capacity.ensures ∙ ap (λ (t : Bool). pick t (capacity_of l.stream) 0) (reception_range l.invariant.0.reception)) l.invariant.1 in
    let l = c.loop-ending in
    omega (arith, c.read-filled.ensures.within, most_is, l.invariant.2)

pub shape_of-bytes-then-failed : goal.shape_of-bytes-then-failed
shape_of-bytes-then-failed c = c.read-filled.auto.buffer ∙ c.loop-ending.invariant.1 ∙ sym c.requires.4

pub shape_of-own-then-failed : goal.shape_of-own-then-failed
shape_of-own-then-failed c = c.read_marks-marked.auto.buffer ∙ c.loop-ending.invariant.2 ∙ sym c.requires.5

pub shape_of-packets-then-failed : goal.shape_of-packets-then-failed
shape_of-packets-then-failed c = c.loop-ending.invariant.3 ∙ sym c.requires.6

pub returns-then-failed : goal.returns-then-failed
returns-then-failed c =
    let most_is : c.min-most.result ≡ min (capacity_of c.loop-ending.stream) 65536 = let l = c.loop-ending in
    c.min-most.ensures ∙ ap₂ min (c.capacity.ensures ∙ ap (λ (t : Bool). pick t (capacity_of l.stream) 0) (reception_range l.invariant.0.reception)) l.invariant.1 in
    let l = c.loop-ending in
    let failed = sym c.failed.ensures ∙ c.if-failed.true in
    record {
      input_origin_lem = c.read-filled.ensures.origin ∙ l.invariant.4;
      marks_origin = c.read_marks-marked.ensures.origin ∙ l.invariant.5;
      file = l.invariant.6;
      unwanted = l.invariant.7;
      ends =
          marks_failed refl failed
          (λ e. true≢false (sym failed ∙ (ended_read l.invariant.0 (most_is) c.read-filled.ensures c.read_marks-marked.ensures (c.read-filled.auto.buffer ∙ l.invariant.1) (c.read_marks-marked.auto.buffer ∙ l.invariant.2) e).0));
    }

pub slice_bounds-first_above-end : goal.slice_bounds-first_above-end
slice_bounds-first_above-end c =
    let most_is : c.min-most.result ≡ min (capacity_of c.loop-ending.stream) 65536 = let l = c.loop-ending in
    c.min-most.ensures ∙ ap₂ min (c.capacity.ensures ∙ ap (λ (t : Bool). pick t (capacity_of l.stream) 0) (reception_range l.invariant.0.reception)) l.invariant.1 in
    let m = c.read_marks-marked in
    omega (arith, m.ensures.within, m.auto.buffer, c.read-filled.ensures.within, most_is, c.loop-ending.invariant.2)

pub slice_bounds-first_above-end-in-loop-ending : goal.slice_bounds-first_above-end-in-loop-ending
slice_bounds-first_above-end-in-loop-ending c =
    let most_is : c.min-most.result ≡ min (capacity_of c.loop-ending.stream) 65536 = let l = c.loop-ending in
    c.min-most.ensures ∙ ap₂ min (c.capacity.ensures ∙ ap (λ (t : Bool). pick t (capacity_of l.stream) 0) (reception_range l.invariant.0.reception)) l.invariant.1 in
    let m = c.read_marks-marked in
    sym (length-take-le m.result.length m.new.buffer (omega (arith, m.ensures.within, m.auto.buffer, c.read-filled.ensures.within, most_is, c.loop-ending.invariant.2)))

pub block_of-requires : goal.block_of-requires
block_of-requires c =
    let most_is : c.min-most.result ≡ min (capacity_of c.loop-ending.stream) 65536 = let l = c.loop-ending in
    c.min-most.ensures ∙ ap₂ min (c.capacity.ensures ∙ ap (λ (t : Bool). pick t (capacity_of l.stream) 0) (reception_range l.invariant.0.reception)) l.invariant.1 in
    let l = c.loop-ending in
    let t = c.if-place-came.true in
    let w = came_taken l.invariant.0 in
    (omega (arith, t, w.0, c.read_marks-marked.ensures.within, c.read-filled.ensures.within, most_is), w.1)

pub shape_of-bytes-then-place-came : goal.shape_of-bytes-then-place-came
shape_of-bytes-then-place-came c = c.read-filled.auto.buffer ∙ c.loop-ending.invariant.1 ∙ sym c.requires.4

pub shape_of-own-then-place-came : goal.shape_of-own-then-place-came
shape_of-own-then-place-came c = c.read_marks-marked.auto.buffer ∙ c.loop-ending.invariant.2 ∙ sym c.requires.5

pub shape_of-packets-then-place-came : goal.shape_of-packets-then-place-came
shape_of-packets-then-place-came c = c.loop-ending.invariant.3 ∙ sym c.requires.6

pub returns-then-place-came : goal.returns-then-place-came
returns-then-place-came c =
    let most_is : c.min-most.result ≡ min (capacity_of c.loop-ending.stream) 65536 = let l = c.loop-ending in
    c.min-most.ensures ∙ ap₂ min (c.capacity.ensures ∙ ap (λ (t : Bool). pick t (capacity_of l.stream) 0) (reception_range l.invariant.0.reception)) l.invariant.1 in
    let l = c.loop-ending in
    let r = c.read-filled in
    let m = c.read_marks-marked in
    record {
      input_origin_lem = r.ensures.origin ∙ l.invariant.4;
      marks_origin = m.ensures.origin ∙ l.invariant.5;
      file = l.invariant.6;
      unwanted = l.invariant.7;
      ends =
          refused c.block_of.result refl
          (came_bad l.invariant.0 (most_is) r.ensures m.ensures (r.auto.buffer ∙ l.invariant.1) (m.auto.buffer ∙ l.invariant.2) c.first_above-place.result c.block_of.result c.first_above-place.ensures c.if-place-came.true c.block_of.ensures)
          (λ e. let t = c.if-place-came.true in omega (arith, t, (ended_read l.invariant.0 (most_is) r.ensures m.ensures (r.auto.buffer ∙ l.invariant.1) (m.auto.buffer ∙ l.invariant.2) e).1));
    }

pub slice_bounds-feed-end : goal.slice_bounds-feed-end
slice_bounds-feed-end c =
    let most_is : c.min-most.result ≡ min (capacity_of c.loop-ending.stream) 65536 = let l = c.loop-ending in
    c.min-most.ensures ∙ ap₂ min (c.capacity.ensures ∙ ap (λ (t : Bool). pick t (capacity_of l.stream) 0) (reception_range l.invariant.0.reception)) l.invariant.1 in
    let r = c.read-filled in
    omega (arith, r.ensures.within, r.auto.buffer, most_is, c.loop-ending.invariant.1)

pub slice_bounds-feed-end-in-loop-ending : goal.slice_bounds-feed-end-in-loop-ending
slice_bounds-feed-end-in-loop-ending c =
    let most_is : c.min-most.result ≡ min (capacity_of c.loop-ending.stream) 65536 = let l = c.loop-ending in
    c.min-most.ensures ∙ ap₂ min (c.capacity.ensures ∙ ap (λ (t : Bool). pick t (capacity_of l.stream) 0) (reception_range l.invariant.0.reception)) l.invariant.1 in
    let r = c.read-filled in
    sym (length-take-le r.result.length r.new.buffer (omega (arith, r.ensures.within, r.auto.buffer, most_is, c.loop-ending.invariant.1)))

pub slice_bounds-feed-end-in-loop-ending-2 : goal.slice_bounds-feed-end-in-loop-ending-2
slice_bounds-feed-end-in-loop-ending-2 c =
    let most_is : c.min-most.result ≡ min (capacity_of c.loop-ending.stream) 65536 = let l = c.loop-ending in
    c.min-most.ensures ∙ ap₂ min (c.capacity.ensures ∙ ap (λ (t : Bool). pick t (capacity_of l.stream) 0) (reception_range l.invariant.0.reception)) l.invariant.1 in
    let r = c.read-filled in
    omega (arith, r.ensures.within, most_is, c.read_marks-marked.auto.buffer, c.loop-ending.invariant.2)

pub slice_bounds-feed-end-in-loop-ending-3 : goal.slice_bounds-feed-end-in-loop-ending-3
slice_bounds-feed-end-in-loop-ending-3 c =
    let most_is : c.min-most.result ≡ min (capacity_of c.loop-ending.stream) 65536 = let l = c.loop-ending in
    c.min-most.ensures ∙ ap₂ min (c.capacity.ensures ∙ ap (λ (t : Bool). pick t (capacity_of l.stream) 0) (reception_range l.invariant.0.reception)) l.invariant.1 in
    let r = c.read-filled in
    let m = c.read_marks-marked in
    sym (length-take-le r.result.length m.new.buffer (omega (arith, r.ensures.within, most_is, m.auto.buffer, c.loop-ending.invariant.2)))

pub hand_on-output-requires : goal.hand_on-output-requires
hand_on-output-requires c =
    feeds_within c.in-Ok.ensures

pub shape_of-bytes-then-failed-2 : goal.shape_of-bytes-then-failed-2
shape_of-bytes-then-failed-2 c = c.read-filled.auto.buffer ∙ c.loop-ending.invariant.1 ∙ sym c.requires.4

pub shape_of-own-then-failed-2 : goal.shape_of-own-then-failed-2
shape_of-own-then-failed-2 c = c.read_marks-marked.auto.buffer ∙ c.loop-ending.invariant.2 ∙ sym c.requires.5

pub shape_of-packets-then-failed-2 : goal.shape_of-packets-then-failed-2
shape_of-packets-then-failed-2 c = c.feed.auto.output ∙ c.loop-ending.invariant.3 ∙ sym c.requires.6

pub returns-then-failed-2 : goal.returns-then-failed-2
returns-then-failed-2 c =
    let l = c.loop-ending in
    record {
      input_origin_lem = c.read-filled.ensures.origin ∙ l.invariant.4;
      marks_origin = c.read_marks-marked.ensures.origin ∙ l.invariant.5;
      file = hands_file c.hand_on-output.ensures ∙ l.invariant.6;
      unwanted = λ w. hands_nothing c.hand_on-output.ensures w ∙ l.invariant.7 w;
      ends = output_failed_lem refl (sym c.failed-in-loop-ending.ensures ∙ c.if-failed-2.true) (hands_wanted c.hand_on-output.ensures l.invariant.0.unfailed (sym c.failed-in-loop-ending.ensures ∙ c.if-failed-2.true));
    }

pub loop-ending-smaller : goal.loop-ending-smaller
loop-ending-smaller c =
    let most_is : c.min-most.result ≡ min (capacity_of c.loop-ending.stream) 65536 = let l = c.loop-ending in
    c.min-most.ensures ∙ ap₂ min (c.capacity.ensures ∙ ap (λ (t : Bool). pick t (capacity_of l.stream) 0) (reception_range l.invariant.0.reception)) l.invariant.1 in
    let l = c.loop-ending in
    let r = c.read-filled in
    let m = c.read_marks-marked in
    let n = c.if-n-eq0.false in
    came_less l.invariant.0 (most_is) r.ensures m.ensures (r.auto.buffer ∙ l.invariant.1) (m.auto.buffer ∙ l.invariant.2) (omega (arith, n))
    (let z = c.if-place-came.false in subst (λ (k : ℕ). m.result.length ≤ k) c.first_above-place.ensures z) l.invariant.3 c.in-Ok.ensures

pub loop-ending-preserved : goal.loop-ending-preserved
loop-ending-preserved c =
    let most_is : c.min-most.result ≡ min (capacity_of c.loop-ending.stream) 65536 = let l = c.loop-ending in
    c.min-most.ensures ∙ ap₂ min (c.capacity.ensures ∙ ap (λ (t : Bool). pick t (capacity_of l.stream) 0) (reception_range l.invariant.0.reception)) l.invariant.1 in
    let l = c.loop-ending in
    let r = c.read-filled in
    let m = c.read_marks-marked in
    let f = c.feed in
    let n = c.if-n-eq0.false in (
      came_more l.invariant.0 (most_is) r.ensures m.ensures (r.auto.buffer ∙ l.invariant.1) (m.auto.buffer ∙ l.invariant.2) (omega (arith, n))
          (let z = c.if-place-came.false in subst (λ (k : ℕ). m.result.length ≤ k) c.first_above-place.ensures z) l.invariant.3 c.in-Ok.ensures c.hand_on-output.ensures (sym c.failed-in-loop-ending.ensures ∙ c.if-failed-2.false) (sym c.failed.ensures ∙ c.if-failed.false),
      r.auto.buffer ∙ l.invariant.1,
      m.auto.buffer ∙ l.invariant.2,
      f.auto.output ∙ l.invariant.3,
      r.ensures.origin ∙ l.invariant.4,
      m.ensures.origin ∙ l.invariant.5,
      hands_file c.hand_on-output.ensures ∙ l.invariant.6,
      λ w. hands_nothing c.hand_on-output.ensures w ∙ l.invariant.7 w,
    )

pub unreachable-requires : goal.unreachable-requires
unreachable-requires c =
    let most_is : c.min-most.result ≡ min (capacity_of c.loop-ending.stream) 65536 = let l = c.loop-ending in
    c.min-most.ensures ∙ ap₂ min (c.capacity.ensures ∙ ap (λ (t : Bool). pick t (capacity_of l.stream) 0) (reception_range l.invariant.0.reception)) l.invariant.1 in
    let l = c.loop-ending in
    let r = c.read-filled in
    let m = c.read_marks-marked in
    let n = c.if-n-eq0.false in
    absurd (number_not_zero _
    (taken l.invariant.0 (most_is) r.ensures m.ensures (r.auto.buffer ∙ l.invariant.1) (m.auto.buffer ∙ l.invariant.2) (omega (arith, n))
    (let z = c.if-place-came.false in subst (λ (k : ℕ). m.result.length ≤ k) c.first_above-place.ensures z) l.invariant.3 c.in_default.ensures))
