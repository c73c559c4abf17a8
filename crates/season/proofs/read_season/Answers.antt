-- `season::read_season` meets its contract.
-- Assumes nothing.
use mathlib.Core.Path.{refl, sym, ap, ◌∙◌}
use mathlib.Core.Bool.{not}
use Prim.Native.Nat.{◌≤◌}
use native.Mathlib.Omega.{arith}
use lib.ListN.{length}
use lib.Seq.{length-take-le}
use Rattle.season.proofs.Going.{going_none, some_came, comes_over, going_more, comes_refused}
use Rattle.season.proofs.read_season.Goals as goal

pub loop-buffer-init : goal.loop-buffer-init
loop-buffer-init c = (going_none c.requires c.new-season.ensures, refl)

pub read-read-requires : goal.read-read-requires
read-read-requires c = omega (arith, c.loop-buffer.invariant.1)

pub returns-then-n-eq0 : goal.returns-then-n-eq0
returns-then-n-eq0 c = comes_over c.loop-buffer.invariant.0 c.read-read.ensures c.if-n-eq0.true (omega arith)

pub slice_bounds-buffer-end : goal.slice_bounds-buffer-end
slice_bounds-buffer-end c =
    let room : 65536 ≤ length c.read-read.new.buffer = omega (arith, c.read-read.auto.buffer, c.loop-buffer.invariant.1) in
    let within : c.read-read.result.length ≤ length c.read-read.new.buffer = omega (arith, c.read-read.ensures.within, room) in
    within

pub slice_bounds-feed-end : goal.slice_bounds-feed-end
slice_bounds-feed-end c =
    let room : 65536 ≤ length c.read-read.new.buffer = omega (arith, c.read-read.auto.buffer, c.loop-buffer.invariant.1) in
    let within : c.read-read.result.length ≤ length c.read-read.new.buffer = omega (arith, c.read-read.ensures.within, room) in
    sym (length-take-le _ _ (within))

pub feed-season-requires : goal.feed-season-requires
feed-season-requires c = some_came c.loop-buffer.invariant.0

pub overflow_add-came : goal.overflow_add-came
overflow_add-came c = record { fits = omega (arith, c.loop-buffer.invariant.0.few, c.read-read.ensures.within) }

pub returns-then-is_err : goal.returns-then-is_err
returns-then-is_err c =
    let room : 65536 ≤ length c.read-read.new.buffer = omega (arith, c.read-read.auto.buffer, c.loop-buffer.invariant.1) in
    comes_refused c.loop-buffer.invariant.0 c.read-read.ensures (room) c.feed-season.ensures (c.is_err.ensures.negation ∙ ap not c.if-is_err.true)

pub loop-buffer-smaller : goal.loop-buffer-smaller
loop-buffer-smaller c =
    let room : 65536 ≤ length c.read-read.new.buffer = omega (arith, c.read-read.auto.buffer, c.loop-buffer.invariant.1) in
    let g = going_more c.loop-buffer.invariant.0 c.read-read.ensures (room) c.feed-season.ensures (c.is_err.ensures.negation ∙ ap not c.if-is_err.false) in
    omega (arith, g.few, c.if-n-eq0.false)

pub loop-buffer-preserved : goal.loop-buffer-preserved
loop-buffer-preserved c =
    let room : 65536 ≤ length c.read-read.new.buffer = omega (arith, c.read-read.auto.buffer, c.loop-buffer.invariant.1) in (
      going_more c.loop-buffer.invariant.0 c.read-read.ensures (room) c.feed-season.ensures (c.is_err.ensures.negation ∙ ap not c.if-is_err.false),
      c.read-read.auto.buffer ∙ c.loop-buffer.invariant.1,
    )
