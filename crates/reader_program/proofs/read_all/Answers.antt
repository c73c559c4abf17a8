-- `reader_program::read_all` meets its contract.
-- Assumes nothing.
use mathlib.Core.Path.{refl, sym, ◌∙◌}
use Prim.Native.Nat.{ℕ, ◌≤◌}
use native.Mathlib.Omega.{arith}
use lib.ListN.{take, length-append, length-take, length-replicate}
use Rattle.reader_program.specs.Ends.{output_failed_lem, part}
use Rattle.reader_program.proofs.Turning.{few_held}
use Rattle.received_symbols.proofs.Pieces.{taken_ready, taken_few}
use Rattle.reader_program.proofs.Going.{files_none, untold_none, files_read, files_written, going_none, going_over, going_more, going_refused}
use Rattle.reader_program.proofs.read_all.Goals as goal

pub new-stream-requires : goal.new-stream-requires
new-stream-requires c = c.requires.0

pub loop-came-init : goal.loop-came-init
loop-came-init c =
    let p = c.requires in (
      going_none c.args.soft p.1 p.2 c.new-stream.ensures refl refl,
      files_none p.1 p.2 p.3,
      length-replicate {A = ℕ} 262152 0,
      length-replicate {A = ℕ} 32768 0,
      length-replicate {A = ℕ} 1632 0,
      length-replicate {A = ℕ} 8600 0,
      omega arith,
    )

pub next_turn-turn-requires : goal.next_turn-turn-requires
next_turn-turn-requires c =
    let l = c.loop-came in
    let g = l.invariant.0 in
    record {
      ready = taken_ready g.taken;
      few = taken_few c.args.soft g.taken;
      size = g.taken.holds.size;
      piece = l.invariant.2;
      numbers = l.invariant.3;
      run = l.invariant.4;
      bytes = l.invariant.5;
    }

pub overflow_add-place : goal.overflow_add-place
overflow_add-place c =
    let few_taken : c.next_turn-turn.result.taken.taken ≤ 262151 = let t = c.next_turn-turn.ensures in
    let p = c.loop-came.pass in
    let g = c.loop-came.invariant.0 in
    omega (arith, t.takes.most, length-append (take p.held p.tail) t.piece, length-take p.held p.tail, few_held c.args.soft (taken_few c.args.soft g.taken), t.piece_length, t.short) in
    omega (arith, few_taken, c.loop-came.invariant.6)

pub finish-requires : goal.finish-requires
finish-requires c =
    let l = c.loop-came in
    let k = c.next_turn-turn in
    let z = c.if-length-eq0.true in
    let p = c.requires in (
      files_read l.invariant.1 k.ensures.origin,
      going_over l.invariant.0 k.ensures z,
      untold_none p.3,
      k.ensures.none z,
      omega (arith, k.auto.bits, l.invariant.4),
      omega (arith, k.auto.output, l.invariant.5),
    )

pub returns-then-length-eq0 : goal.returns-then-length-eq0
returns-then-length-eq0 c = c.finish.ensures

pub slice_bounds-bytes-end : goal.slice_bounds-bytes-end
slice_bounds-bytes-end c = c.next_turn-turn.ensures.fits

pub returns-then-failed : goal.returns-then-failed
returns-then-failed c =
    let l = c.loop-came in
    let p = c.requires in
    record {
      files = files_written (files_read l.invariant.1 c.next_turn-turn.ensures.origin) c.write-output.ensures.file;
      status = part refl (output_failed_lem (sym c.failed.ensures ∙ c.if-failed.true) p.3.trace);
    }

pub refuse-requires : goal.refuse-requires
refuse-requires c =
    let l = c.loop-came in
    let p = c.requires in
    let w = c.write-output.ensures in
    let u = sym c.failed.ensures ∙ c.if-failed.false in
    (files_written (files_read l.invariant.1 c.next_turn-turn.ensures.origin) w.file, going_refused l.invariant.0 c.next_turn-turn.ensures w u c.if-stopped.true, untold_none p.3)

pub returns-then-stopped : goal.returns-then-stopped
returns-then-stopped c = c.refuse.ensures

pub overflow_add-came : goal.overflow_add-came
overflow_add-came c = omega (arith, c.next_turn-turn.ensures.short, c.loop-came.invariant.6)

pub loop-came-smaller : goal.loop-came-smaller
loop-came-smaller c =
    let l = c.loop-came in
    let e = c.if-length-eq0.false in
    omega (arith, e, l.invariant.6, c.next_turn-turn.ensures.short)

pub loop-came-preserved : goal.loop-came-preserved
loop-came-preserved c =
    let k = c.next_turn-turn in
    let l = c.loop-came in
    let w = c.write-output.ensures in
    let u = sym c.failed.ensures ∙ c.if-failed.false in (
      going_more l.invariant.0 k.ensures w u c.if-stopped.false,
      files_written (files_read l.invariant.1 k.ensures.origin) w.file,
      k.auto.buffer ∙ l.invariant.2,
      k.auto.pairs ∙ l.invariant.3,
      k.auto.bits ∙ l.invariant.4,
      k.auto.output ∙ l.invariant.5,
      omega (arith, k.ensures.short, c.loop-came-test.true),
    )

pub stop-requires : goal.stop-requires
stop-requires c =
    let l = c.loop-came in
    let p = c.requires in
    (l.invariant.1, l.invariant.0, untold_none p.3, omega (arith, c.loop-came-test.false))

pub returns : goal.returns
returns c = c.stop.ensures
