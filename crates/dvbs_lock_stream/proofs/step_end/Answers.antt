-- `dvbs_lock_stream::step_end` meets its contract.
-- Assumes nothing.
use Rattle.std.specs.Prelude.{Option, is_some, IfSome}
use mathlib.Core.Path.{◌≡◌, sym, ap, subst}
use Prim.Native.Nat.{ℕ, ◌≤◌, ◌<◌}
use native.Mathlib.Omega.{arith}
use lib.ListN.{length, take, length-replicate}
use lib.Seq.{length-take-le}
use Rattle.common.specs.Choice.{indicator}
use Rattle.dvbs_lock_stream.specs.Calls.{short_room, LeavesEnd, ClosesLines, not_over, closed}
use Rattle.dvbs_lock_stream.proofs.Feeding.{end_pass, room_enough, writes, end_leaves}
use Rattle.lock_state.proofs.Locks.{range_stream, end_come, end_left}
use mathlib.Core.List.{List}
use Rattle.lock_stream.specs.declared.LockStream.{LockStream}
use Rattle.dvbs_lock_stream.proofs.step_end.Goals as goal

-- the closing lines fit where the text before them does
closed_fits : {s : LockStream} {over : Option ℕ} {rest told : ℕ} {lines : List ℕ} {r : ℕ} {exit : List ℕ} → told ≤ 2048 → told ≤ length exit
    → ClosesLines s over rest told lines r exit → (r ≤ 2048) × (r ≤ length exit)
closed_fits few fit (not_over o e q) = (omega (arith, e), omega (arith, e))
closed_fits few fit (closed left o fits long q) = (fits, long)

pub end_step-step-requires : goal.end_step-step-requires
end_step-step-requires c =
    (range_stream c.args.stream c.requires.0 c.requires.1, omega (arith, length-replicate {A = ℕ} 1504 0), omega (arith, length-replicate {A = ℕ} 2048 0))

pub close_over-told-requires : goal.close_over-told-requires
close_over-told-requires c = (c.end_step-step.ensures.ready, subst (λ (o : Option ℕ). IfSome o (λ left. left < 1632)) (sym c.end_step-step.ensures.ends.over_is) c.end_step-step.ensures.ends.source_ends.few, omega (arith, c.end_step-step.ensures.text_fits), omega (arith, c.end_step-step.auto, length-replicate {A = ℕ} 2048 0))

pub write_state-requires : goal.write_state-requires
write_state-requires c =
    let r = c.end_step-step.result in
    let h = c.end_step-step.ensures in
    let w = writes r.stream h.ready (end_come c.args.stream c.requires.0 c.requires.1 r h) (end_left c.args.stream c.requires.0 c.requires.1 r h) in
    (w.0, w.1, c.requires.2)

pub slice_bounds-put_told-end : goal.slice_bounds-put_told-end
slice_bounds-put_told-end c =
    let front : (length (take c.end_step-step.result.packets c.end_step-step.new.packets) ≡ c.end_step-step.result.packets) × (length c.end_step-step.new.text ≡ 2048) = let h = c.end_step-step.ensures in
    (length-take-le _ _ (omega (arith, h.packets_fit, c.end_step-step.auto, length-replicate {A = ℕ} 1504 0)), omega (arith, c.end_step-step.auto, length-replicate {A = ℕ} 2048 0)) in
    sym (front).0

pub slice_bounds-lines-end : goal.slice_bounds-lines-end
slice_bounds-lines-end c =
    let front : (length (take c.end_step-step.result.packets c.end_step-step.new.packets) ≡ c.end_step-step.result.packets) × (length c.end_step-step.new.text ≡ 2048) = let h = c.end_step-step.ensures in
    (length-take-le _ _ (omega (arith, h.packets_fit, c.end_step-step.auto, length-replicate {A = ℕ} 1504 0)), omega (arith, c.end_step-step.auto, length-replicate {A = ℕ} 2048 0)) in
    let text_fits : (c.close_over-told.result ≤ 2048) × (c.close_over-told.result ≤ length c.close_over-told.new.lines) × (length (take c.close_over-told.result c.close_over-told.new.lines) ≡ c.close_over-told.result) =
    let few : c.end_step-step.result.text ≤ 2048 = omega (arith, c.end_step-step.ensures.text_fits) in
    let fit : c.end_step-step.result.text ≤ length c.close_over-told.new.lines = omega (arith, c.end_step-step.ensures.text_fits, c.close_over-told.auto, (front).1) in
    let b = closed_fits few fit c.close_over-told.ensures in
    (b.0, b.1, length-take-le _ _ b.1) in
    (text_fits).1

pub slice_bounds-put_told-end-2 : goal.slice_bounds-put_told-end-2
slice_bounds-put_told-end-2 c =
    let front : (length (take c.end_step-step.result.packets c.end_step-step.new.packets) ≡ c.end_step-step.result.packets) × (length c.end_step-step.new.text ≡ 2048) = let h = c.end_step-step.ensures in
    (length-take-le _ _ (omega (arith, h.packets_fit, c.end_step-step.auto, length-replicate {A = ℕ} 1504 0)), omega (arith, c.end_step-step.auto, length-replicate {A = ℕ} 2048 0)) in
    let text_fits : (c.close_over-told.result ≤ 2048) × (c.close_over-told.result ≤ length c.close_over-told.new.lines) × (length (take c.close_over-told.result c.close_over-told.new.lines) ≡ c.close_over-told.result) =
    let few : c.end_step-step.result.text ≤ 2048 = omega (arith, c.end_step-step.ensures.text_fits) in
    let fit : c.end_step-step.result.text ≤ length c.close_over-told.new.lines = omega (arith, c.end_step-step.ensures.text_fits, c.close_over-told.auto, (front).1) in
    let b = closed_fits few fit c.close_over-told.ensures in
    (b.0, b.1, length-take-le _ _ b.1) in
    sym (text_fits).2

pub put_told-requires : goal.put_told-requires
put_told-requires c =
    let room : (1504 ≤ length c.args.packets.now) × (2048 ≤ length c.args.text.now) × (2 ≤ length c.args.counts.now) = let short = short_room (length c.args.packets.now) (length c.args.text.now) (length c.args.counts.now) in
    room_enough (length c.args.packets.now) (length c.args.text.now) (length c.args.counts.now) (end_pass short c.requires.3) in
    let front : (length (take c.end_step-step.result.packets c.end_step-step.new.packets) ≡ c.end_step-step.result.packets) × (length c.end_step-step.new.text ≡ 2048) = let h = c.end_step-step.ensures in
    (length-take-le _ _ (omega (arith, h.packets_fit, c.end_step-step.auto, length-replicate {A = ℕ} 1504 0)), omega (arith, c.end_step-step.auto, length-replicate {A = ℕ} 2048 0)) in
    let text_fits : (c.close_over-told.result ≤ 2048) × (c.close_over-told.result ≤ length c.close_over-told.new.lines) × (length (take c.close_over-told.result c.close_over-told.new.lines) ≡ c.close_over-told.result) =
    let few : c.end_step-step.result.text ≤ 2048 = omega (arith, c.end_step-step.ensures.text_fits) in
    let fit : c.end_step-step.result.text ≤ length c.close_over-told.new.lines = omega (arith, c.end_step-step.ensures.text_fits, c.close_over-told.auto, (front).1) in
    let b = closed_fits few fit c.close_over-told.ensures in
    (b.0, b.1, length-take-le _ _ b.1) in
    let p = room in
    let f = front in
    let t = text_fits in
    (omega (arith, f.0, c.end_step-step.ensures.packets_fit, p.0), omega (arith, t.0, t.2, p.1), p.2)

pub returns-in-Some : goal.returns-in-Some
returns-in-Some c =
    let front : (length (take c.end_step-step.result.packets c.end_step-step.new.packets) ≡ c.end_step-step.result.packets) × (length c.end_step-step.new.text ≡ 2048) = let h = c.end_step-step.ensures in
    (length-take-le _ _ (omega (arith, h.packets_fit, c.end_step-step.auto, length-replicate {A = ℕ} 1504 0)), omega (arith, c.end_step-step.auto, length-replicate {A = ℕ} 2048 0)) in
    let left_so : LeavesEnd c.args.rest c.args.stream c.args.packets.now c.args.text.now c.args.counts.now (indicator (is_some c.end_step-step.result.over)) c.write_state.new.bytes c.put_told.new.packets c.put_told.new.text c.put_told.new.counts = let e = c.end_step-step in
    let o = c.close_over-told in
    let w = c.write_state in
    let g = c.put_told in
    end_leaves c.args.stream c.requires.0 c.requires.1 c.args.packets.now c.args.text.now c.args.counts.now e.new.packets o.new.lines w.new.bytes g.new.packets g.new.text g.new.counts
    c.args.rest c.requires.3 e.result e.new.text o.result e.ensures (omega (arith, (front).1)) w.ensures.1 w.ensures.0 o.ensures g.ensures in
    subst (λ (n : ℕ). LeavesEnd c.args.rest c.args.stream c.args.packets.now c.args.text.now c.args.counts.now n c.write_state.new.bytes c.put_told.new.packets c.put_told.new.text c.put_told.new.counts) (ap (λ (x : Option ℕ). indicator (is_some x)) c.in-Some.is) (left_so)

pub returns-in-None : goal.returns-in-None
returns-in-None c =
    let front : (length (take c.end_step-step.result.packets c.end_step-step.new.packets) ≡ c.end_step-step.result.packets) × (length c.end_step-step.new.text ≡ 2048) = let h = c.end_step-step.ensures in
    (length-take-le _ _ (omega (arith, h.packets_fit, c.end_step-step.auto, length-replicate {A = ℕ} 1504 0)), omega (arith, c.end_step-step.auto, length-replicate {A = ℕ} 2048 0)) in
    let left_so : LeavesEnd c.args.rest c.args.stream c.args.packets.now c.args.text.now c.args.counts.now (indicator (is_some c.end_step-step.result.over)) c.write_state.new.bytes c.put_told.new.packets c.put_told.new.text c.put_told.new.counts = let e = c.end_step-step in
    let o = c.close_over-told in
    let w = c.write_state in
    let g = c.put_told in
    end_leaves c.args.stream c.requires.0 c.requires.1 c.args.packets.now c.args.text.now c.args.counts.now e.new.packets o.new.lines w.new.bytes g.new.packets g.new.text g.new.counts
    c.args.rest c.requires.3 e.result e.new.text o.result e.ensures (omega (arith, (front).1)) w.ensures.1 w.ensures.0 o.ensures g.ensures in
    subst (λ (n : ℕ). LeavesEnd c.args.rest c.args.stream c.args.packets.now c.args.text.now c.args.counts.now n c.write_state.new.bytes c.put_told.new.packets c.put_told.new.text c.put_told.new.counts) (ap (λ (x : Option ℕ). indicator (is_some x)) c.in-None.is) (left_so)
