-- `acquisition::close_blocks` meets its contract.
-- Assumes nothing.
use mathlib.Core.Path.{refl, ap, ◌∙◌}
use Prim.Native.Nat.{ℕ, ◌+◌}
use native.Mathlib.Omega.{arith}
use Rattle.acquisition.proofs.Ends.{finish_counts}
use Rattle.std.specs.Prelude.{Option}
use Rattle.acquisition.specs.End.{last_event}
use Rattle.acquisition.specs.declared.FoundBlock.{FoundBlock}
use Rattle.acquisition.proofs.close_blocks.Goals as goal

pub block_found-found-requires : goal.block_found-found-requires
block_found-found-requires c = (c.requires.runs_ready.known, c.requires.turn_small, c.requires.counts, (finish_counts c.args.reading.sync c.in-Ok.decided c.requires.sync_sized c.requires.sync_small c.in-Ok.ensures).skipped_few)

pub used_by-more-requires : goal.used_by-more-requires
used_by-more-requires c = (finish_counts c.args.reading.sync c.in-Ok.decided c.requires.sync_sized c.requires.sync_small c.in-Ok.ensures).skipped_few

pub overflow_add-result : goal.overflow_add-result
overflow_add-result c = omega (arith, c.requires.counts, c.requires.sync_small, c.used_by-more.ensures, (finish_counts c.args.reading.sync c.in-Ok.decided c.requires.sync_sized c.requires.sync_small c.in-Ok.ensures).whole)

pub returns : goal.returns
returns c = let k = c.args.reading in record { decided = c.in-Ok.decided; finishes = c.in-Ok.ensures; reading = ap (λ (n : ℕ). record { turn = k.turn; runs = k.runs; sync = c.in-Ok.decided.sync; first = k.first; used = k.used + n }) c.used_by-more.ensures; taken_is = refl; event_is = c.last_event-event.ensures ∙ ap (λ (o : Option FoundBlock). last_event o k.sync.held) c.block_found-found.ensures }
