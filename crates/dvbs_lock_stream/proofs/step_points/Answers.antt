-- `dvbs_lock_stream::step_points` meets its contract.
-- Assumes nothing.
use mathlib.Core.Path.{◌≡◌, sym, subst}
use mathlib.Core.List.{List, map}
use Prim.Native.Nat.{ℕ, ◌≤◌, ◌<◌}
use native.Mathlib.Omega.{arith}
use lib.ListN.{length, take, length-replicate}
use lib.Seq.{length-take-le}
use Rattle.branch_metrics.specs.Cost.{received_of}
use Rattle.branch_metrics.specs.SoftPairs.{symbol_pair}
use lib.Ieee.{Float}
use Rattle.reader.proofs.SoftDecisions.{OneLength}
use Rattle.lock_stream.specs.Source.{came_of}
use Rattle.lock_stream.specs.Stream.{StepsStream}
use Rattle.dvbs_lock_stream.specs.Calls.{short_room, points_due}
use Rattle.dvbs_lock_stream.proofs.Feeding.{points_pass, room_enough, writes, step_leaves}
use Rattle.lock_state.proofs.Locks.{range_stream, step_come, step_left}
use Rattle.dvbs_lock_stream.proofs.step_points.Goals as goal

-- What holds of points that no test refused: the lists are of one length, few enough points came, and the rooms are long enough.
passed : (came : ℕ) (i q : List Float) (lost : List ℕ) (packets text counts : ℕ) → points_due came i q lost (short_room packets text counts) ≡ 0
    → OneLength i q lost × (came < 1152921504606845344) × (1504 ≤ packets) × (2048 ≤ text) × (2 ≤ counts)
passed came i q lost packets text counts e =
    let p = points_pass came i q lost (short_room packets text counts) e in
    let r = room_enough packets text counts p.1 in
    (p.0, p.2, r.0, r.1, r.2)

pub decide-some-requires : goal.decide-some-requires
decide-some-requires c =
    let p = passed (came_of c.args.stream.source) c.args.i.now c.args.q.now c.args.lost.now (length c.args.packets.now) (length c.args.text.now) (length c.args.counts.now) c.requires.4 in
    (p.0.qs_size, p.0.lost_size, omega (arith, length-replicate {A = ℕ} 1632 0))

pub slice_bounds-step-end : goal.slice_bounds-step-end
slice_bounds-step-end c =
    let decided : (c.decide-some.result ≤ 1632) × (c.decide-some.result ≤ length c.decide-some.new.pairs) × (length (take c.decide-some.result c.decide-some.new.pairs) ≡ c.decide-some.result) = let few : c.decide-some.result ≤ 1632 = omega (arith, c.decide-some.ensures.0) in
    let long : c.decide-some.result ≤ length c.decide-some.new.pairs = omega (arith, few, c.decide-some.auto, length-replicate {A = ℕ} 1632 0) in
    (few, long, length-take-le _ _ long) in
    sym (decided).2

pub step-step-requires : goal.step-step-requires
step-step-requires c =
    let p = passed (came_of c.args.stream.source) c.args.i.now c.args.q.now c.args.lost.now (length c.args.packets.now) (length c.args.text.now) (length c.args.counts.now) c.requires.4 in
    let decided : (c.decide-some.result ≤ 1632) × (c.decide-some.result ≤ length c.decide-some.new.pairs) × (length (take c.decide-some.result c.decide-some.new.pairs) ≡ c.decide-some.result) = let few : c.decide-some.result ≤ 1632 = omega (arith, c.decide-some.ensures.0) in
    let long : c.decide-some.result ≤ length c.decide-some.new.pairs = omega (arith, few, c.decide-some.auto, length-replicate {A = ℕ} 1632 0) in
    (few, long, length-take-le _ _ long) in
    let d = decided in
    let some : 0 < c.decide-some.result = omega (arith, c.decide-some.ensures.0, c.requires.3) in
    (range_stream c.args.stream c.requires.0 c.requires.1, c.decide-some.ensures.2, omega (arith, d.2, some), omega (arith, d.0, d.2, p.1), omega (arith, length-replicate {A = ℕ} 1504 0), omega (arith, length-replicate {A = ℕ} 2048 0))

pub write_state-requires : goal.write_state-requires
write_state-requires c =
    let stepped_so : StepsStream c.args.stream (take 1632 (map symbol_pair (received_of c.args.i.now c.args.q.now c.args.lost.now))) c.step-step.result c.step-step.new.packets c.step-step.new.text = subst (λ (l : List ℕ). StepsStream c.args.stream l c.step-step.result c.step-step.new.packets c.step-step.new.text) c.decide-some.ensures.1 c.step-step.ensures in
    let h = stepped_so in
    let r = c.step-step.result in
    let w = writes r.stream h.ready (step_come c.args.stream c.requires.0 c.requires.1 r h) (step_left c.args.stream c.requires.0 c.requires.1 r h) in
    (w.0, w.1, c.requires.2)

pub slice_bounds-put_told-end : goal.slice_bounds-put_told-end
slice_bounds-put_told-end c =
    let fronts : (length (take c.step-step.result.packets c.step-step.new.packets) ≡ c.step-step.result.packets) × (length (take c.step-step.result.text c.step-step.new.text) ≡ c.step-step.result.text) = let h = c.step-step.ensures in
    (length-take-le _ _ (omega (arith, h.packets_fit, c.step-step.auto, length-replicate {A = ℕ} 1504 0)), length-take-le _ _ (omega (arith, h.text_fits, c.step-step.auto, length-replicate {A = ℕ} 2048 0))) in
    sym (fronts).0

pub slice_bounds-put_told-end-2 : goal.slice_bounds-put_told-end-2
slice_bounds-put_told-end-2 c =
    let fronts : (length (take c.step-step.result.packets c.step-step.new.packets) ≡ c.step-step.result.packets) × (length (take c.step-step.result.text c.step-step.new.text) ≡ c.step-step.result.text) = let h = c.step-step.ensures in
    (length-take-le _ _ (omega (arith, h.packets_fit, c.step-step.auto, length-replicate {A = ℕ} 1504 0)), length-take-le _ _ (omega (arith, h.text_fits, c.step-step.auto, length-replicate {A = ℕ} 2048 0))) in
    sym (fronts).1

pub put_told-requires : goal.put_told-requires
put_told-requires c =
    let p = passed (came_of c.args.stream.source) c.args.i.now c.args.q.now c.args.lost.now (length c.args.packets.now) (length c.args.text.now) (length c.args.counts.now) c.requires.4 in
    let fronts : (length (take c.step-step.result.packets c.step-step.new.packets) ≡ c.step-step.result.packets) × (length (take c.step-step.result.text c.step-step.new.text) ≡ c.step-step.result.text) = let h = c.step-step.ensures in
    (length-take-le _ _ (omega (arith, h.packets_fit, c.step-step.auto, length-replicate {A = ℕ} 1504 0)), length-take-le _ _ (omega (arith, h.text_fits, c.step-step.auto, length-replicate {A = ℕ} 2048 0))) in
    let f = fronts in
    let h = c.step-step.ensures in
    (omega (arith, f.0, h.packets_fit, p.2), omega (arith, f.1, h.text_fits, p.3), p.4)

pub returns : goal.returns
returns c =
    let stepped_so : StepsStream c.args.stream (take 1632 (map symbol_pair (received_of c.args.i.now c.args.q.now c.args.lost.now))) c.step-step.result c.step-step.new.packets c.step-step.new.text = subst (λ (l : List ℕ). StepsStream c.args.stream l c.step-step.result c.step-step.new.packets c.step-step.new.text) c.decide-some.ensures.1 c.step-step.ensures in
    let h = stepped_so in
    let w = c.write_state in
    let g = c.put_told in
    step_leaves c.args.stream c.requires.0 c.requires.1 c.args.packets.now c.args.text.now c.args.counts.now c.step-step.new.packets c.step-step.new.text w.new.bytes g.new.packets g.new.text g.new.counts
    c.args.i.now c.args.q.now c.args.lost.now c.requires.4 c.requires.3 c.step-step.result h w.ensures.1 w.ensures.0 g.ensures
