-- `dvbs_send::send_all` meets its contract.
-- Assumes nothing.
use mathlib.Core.Path.{◌≡◌, refl, sym, ◌∙◌}
use Prim.Native.Nat.{◌+◌, ◌≤◌}
use native.Mathlib.Omega.{arith}
use lib.ListN.{length}
use lib.Seq.{length-take-le}
use mathlib.Core.Bool.{false}
use Rattle.program_io.specs.Files.{output_failed}
use Rattle.dvbs_send.proofs.Going.{sent_none, going_none, some_sent, going_over, going_more, came_more, ends_piece, ends_long}
use Rattle.dvbs_send.proofs.send_all.Goals as goal

pub loop-came-init : goal.loop-came-init
loop-came-init c =
    (going_none c.requires.1 (sent_none c.args.mode c.requires.0 c.fresh-stream.ensures c.requires.2 c.requires.3), refl, refl, refl, refl)

pub read-read-requires : goal.read-read-requires
read-read-requires c = omega (arith, c.loop-came.invariant.2)

pub finish-requires : goal.finish-requires
finish-requires c =
    let r = c.read-read.ensures in
    (going_over c.loop-came.invariant.0 r c.if-n-eq0.true, r.none c.if-n-eq0.true (omega arith))

pub returns-then-n-eq0 : goal.returns-then-n-eq0
returns-then-n-eq0 c = c.finish.ensures

pub slice_bounds-buffer-end : goal.slice_bounds-buffer-end
slice_bounds-buffer-end c =
    let within : c.read-read.result.length ≤ length c.read-read.new.buffer = omega (arith, c.read-read.ensures.within, c.read-read.auto.buffer, c.loop-came.invariant.2) in
    within

pub slice_bounds-send_piece-end : goal.slice_bounds-send_piece-end
slice_bounds-send_piece-end c =
    let within : c.read-read.result.length ≤ length c.read-read.new.buffer = omega (arith, c.read-read.ensures.within, c.read-read.auto.buffer, c.loop-came.invariant.2) in
    sym (length-take-le _ _ (within))

pub slice_bounds-send_piece-end-in-loop-came : goal.slice_bounds-send_piece-end-in-loop-came
slice_bounds-send_piece-end-in-loop-came c = sym c.loop-came.invariant.3

pub slice_bounds-send_piece-end-in-loop-came-2 : goal.slice_bounds-send_piece-end-in-loop-came-2
slice_bounds-send_piece-end-in-loop-came-2 c = sym c.loop-came.invariant.4

pub send_piece-next-requires : goal.send_piece-next-requires
send_piece-next-requires c =
    let within : c.read-read.result.length ≤ length c.read-read.new.buffer = omega (arith, c.read-read.ensures.within, c.read-read.auto.buffer, c.loop-came.invariant.2) in
    let l = c.loop-came in
    let r = c.read-read in
    let n = length-take-le r.result.length r.new.buffer (within) in
    (some_sent l.invariant.0, omega (arith, l.invariant.1, c.loop-came-test.true), omega (arith, n, r.ensures.within), l.invariant.3, l.invariant.4)

pub returns-then-failed : goal.returns-then-failed
returns-then-failed c =
    ends_piece c.loop-came.invariant.0 c.read-read.ensures c.send_piece-next.ensures c.args.flush (sym c.failed.ensures ∙ c.if-failed.true)

pub loop-came-smaller : goal.loop-came-smaller
loop-came-smaller c =
    let within : c.read-read.result.length ≤ length c.read-read.new.buffer = omega (arith, c.read-read.ensures.within, c.read-read.auto.buffer, c.loop-came.invariant.2) in
    let unfailed : output_failed c.send_piece-next.result.output ≡ false = sym c.failed.ensures ∙ c.if-failed.false in
    let on : c.send_piece-next.result.came ≡ c.loop-came.sending.came + c.read-read.result.length = came_more c.loop-came.invariant.0 c.read-read.ensures c.send_piece-next.ensures (unfailed) (within) in
    let h = on in omega (arith, h, c.loop-came.invariant.1, c.if-n-eq0.false, c.loop-came-test.true)

pub loop-came-preserved : goal.loop-came-preserved
loop-came-preserved c =
    let unfailed : output_failed c.send_piece-next.result.output ≡ false = sym c.failed.ensures ∙ c.if-failed.false in (
      going_more c.loop-came.invariant.0 c.read-read.ensures c.send_piece-next.ensures (unfailed),
      refl,
      c.read-read.auto.buffer ∙ c.loop-came.invariant.2,
      c.send_piece-next.auto.symbols ∙ c.loop-came.invariant.3,
      c.send_piece-next.auto.answers ∙ c.loop-came.invariant.4,
    )

pub returns : goal.returns
returns c =
    let l = c.loop-came in
    ends_long l.invariant.0 c.args.flush (omega (arith, l.invariant.1, c.loop-came-test.false)) c.write_text-errors.ensures
