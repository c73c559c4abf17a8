-- `acquisition::settle` meets its contract.
-- Assumes nothing.
use Rattle.acquisition.proofs.Bits.{taken_few}
use native.Mathlib.Omega.{arith}
use Prim.Native.Nat.{ℕ, ◌+◌}
use mathlib.Core.Path.{refl, ap, ◌∙◌}
use Rattle.std.specs.Prelude.{Option}
use Rattle.acquisition.specs.Reading.{event_of}
use Rattle.acquisition.specs.declared.FoundBlock.{FoundBlock}
use Rattle.acquisition.proofs.settle.Goals as goal

pub block_found-found-requires : goal.block_found-found-requires
block_found-found-requires c = (c.requires.0.runs_ready.known, c.requires.0.turn_small, c.requires.0.counts, (taken_few c.args.reading.sync c.args.bits.now c.take_bits-decided.result c.requires.0.sync_sized c.requires.0.sync_small c.take_bits-decided.ensures).skipped_few)

pub used_by-more-requires : goal.used_by-more-requires
used_by-more-requires c = (taken_few c.args.reading.sync c.args.bits.now c.take_bits-decided.result c.requires.0.sync_sized c.requires.0.sync_small c.take_bits-decided.ensures).skipped_few

pub overflow_add-result : goal.overflow_add-result
overflow_add-result c = omega (arith, c.requires.0.counts, c.used_by-more.ensures, (taken_few c.args.reading.sync c.args.bits.now c.take_bits-decided.result c.requires.0.sync_sized c.requires.0.sync_small c.take_bits-decided.ensures).used_few)

pub returns : goal.returns
returns c = let k = c.args.reading in record { decided = c.take_bits-decided.result; takes = c.take_bits-decided.ensures; reading = ap (λ (n : ℕ). record { turn = k.turn; runs = c.args.runs; sync = c.take_bits-decided.result.sync; first = k.first; used = k.used + n }) c.used_by-more.ensures; taken_is = refl; event_is = c.event_of-event.ensures ∙ ap (λ (o : Option FoundBlock). event_of o c.take_bits-decided.result.skipped) c.block_found-found.ensures }
