-- `acquisition::bit_source::BitSource::step` meets its contract.
-- Assumes nothing.
use mathlib.Core.Path.{refl}
use Prim.Native.Nat.{◌+◌}
use native.Mathlib.Omega.{arith}
use Rattle.acquisition.specs.Bits.{StepsBits}
use Rattle.acquisition.proofs.Bits.{feed_counts}
use Rattle.acquisition.proofs.BitSteps.{bits_step}
use Rattle.acquisition.proofs.bit_source.BitSource.step.Goals as goal

pub bits_found-found-requires : goal.bits_found-found-requires
bits_found-found-requires c = (omega (arith, c.requires.0.bits_counted, c.requires.0.counts), (feed_counts c.args.self.sync c.args.piece.now c.in-Ok.decided c.requires.0.sync_sized c.requires.0.sync_small c.in-Ok.ensures).skipped_few)

pub used_by-more-requires : goal.used_by-more-requires
used_by-more-requires c = (feed_counts c.args.self.sync c.args.piece.now c.in-Ok.decided c.requires.0.sync_sized c.requires.0.sync_small c.in-Ok.ensures).skipped_few

pub overflow_add-result : goal.overflow_add-result
overflow_add-result c = omega (arith, c.requires.0.bits_counted, c.requires.1, (feed_counts c.args.self.sync c.args.piece.now c.in-Ok.decided c.requires.0.sync_sized c.requires.0.sync_small c.in-Ok.ensures).whole, (feed_counts c.args.self.sync c.args.piece.now c.in-Ok.decided c.requires.0.sync_sized c.requires.0.sync_small c.in-Ok.ensures).taken_most, c.used_by-more.ensures)

pub overflow_add-result-2 : goal.overflow_add-result-2
overflow_add-result-2 c = omega (arith, c.requires.1, (feed_counts c.args.self.sync c.args.piece.now c.in-Ok.decided c.requires.0.sync_sized c.requires.0.sync_small c.in-Ok.ensures).taken_most)

pub returns : goal.returns
returns c =
    let d = c.in-Ok.decided in
    let x : StepsBits c.args.self c.args.piece.now (record { source = record { sync = d.sync; used = c.args.self.used + c.used_by-more.result; came = c.args.self.came + d.taken }; taken = d.taken; event = c.event_of-event.result }) =
    record { decided = d; feeds = c.in-Ok.ensures; result = rw (c.used_by-more.ensures, c.event_of-event.ensures, c.bits_found-found.ensures) refl } in
    let y = bits_step c.args.self c.args.piece.now _ c.requires.0 c.requires.1 x in
    (x, y.0, y.1)
