-- `acquisition::bit_source::BitSource::end_step` meets its contract.
-- Assumes nothing.
use mathlib.Core.Path.{◌≡◌, sym, ap, ap₂, ◌∙◌}
use Rattle.std.specs.Prelude.{Option, Some, None}
use Rattle.acquisition.specs.End.{last_event}
use Rattle.block_sync.specs.declared.SyncStep.{SyncStep}
use Rattle.acquisition.specs.declared.bit_source.BitSource.{BitSource}
use Prim.Native.Nat.{ℕ, ◌+◌}
use native.Mathlib.Omega.{arith}
use Rattle.block_sync.specs.declared.BlockSync.{BlockSync}
use Rattle.acquisition.specs.Bits.{bits_found, bits_end, EndsBits}
use Rattle.acquisition.specs.declared.FoundBlock.{FoundBlock}
use Rattle.acquisition.specs.declared.Event.{Event}
use Rattle.acquisition.proofs.Ends.{finish_counts}
use Rattle.acquisition.proofs.BitSteps.{bits_end_lem}
use Rattle.acquisition.proofs.bit_source.BitSource.end_step.Goals as goal

pub bits_found-found-requires : goal.bits_found-found-requires
bits_found-found-requires c = (omega (arith, c.requires.bits_counted, c.requires.counts), (finish_counts c.args.self.sync c.in-Ok.decided c.requires.sync_sized c.requires.sync_small c.in-Ok.ensures).skipped_few)

pub used_by-more-requires : goal.used_by-more-requires
used_by-more-requires c = (finish_counts c.args.self.sync c.in-Ok.decided c.requires.sync_sized c.requires.sync_small c.in-Ok.ensures).skipped_few

pub overflow_add-result : goal.overflow_add-result
overflow_add-result c = omega (arith, c.requires.bits_counted, c.requires.counts, (finish_counts c.args.self.sync c.in-Ok.decided c.requires.sync_sized c.requires.sync_small c.in-Ok.ensures).whole, c.used_by-more.ensures)

pub overflow_add-result-in-Lost : goal.overflow_add-result-in-Lost
overflow_add-result-in-Lost c = omega (arith, c.requires.bits_counted, c.requires.counts)

what : (s : BitSource) (d : SyncStep) {o : Option FoundBlock} {e e' : Event} → e ≡ last_event o s.sync.held → o ≡ bits_found s.used d → e ≡ e' → last_event (bits_found s.used d) s.sync.held ≡ e'
what s d p q r = sym (p ∙ ap (λ (o : Option FoundBlock). last_event o s.sync.held) q) ∙ r

pub returns-in-Waits : goal.returns-in-Waits
returns-in-Waits c =
    let s = c.args.self in
    let d = c.in-Ok.decided in
    let v = what s d c.last_event-event.ensures c.bits_found-found.ensures c.in-Waits.is in
    let x : EndsBits s (record { source = s; event = c.last_event-event.result; over = Some s.sync.held }) = record {
      decided = d;
      finishes = c.in-Ok.ensures;
      result = ap (λ (e : Event). record { source = s; event = e; over = Some s.sync.held }) c.in-Waits.is ∙ ap (bits_end s d) (sym v);
    } in
    let y = bits_end_lem s _ c.requires x in
    (x, y.0, y.1)

pub returns-in-Block : goal.returns-in-Block
returns-in-Block c =
    let s = c.args.self in
    let d = c.in-Ok.decided in
    let v = what s d c.last_event-event.ensures c.bits_found-found.ensures c.in-Block.is in
    let x : EndsBits s (record { source = record { sync = d.sync; used = s.used + c.used_by-more.result; came = s.came }; event = c.last_event-event.result; over = None }) = record {
      decided = d;
      finishes = c.in-Ok.ensures;
      result =
          ap₂ (λ (e : Event) (n : ℕ). record { source = record { sync = d.sync; used = s.used + n; came = s.came }; event = e; over = None }) c.in-Block.is c.used_by-more.ensures ∙ ap (bits_end s d) (sym v);
    } in
    let y = bits_end_lem s _ c.requires x in
    (x, y.0, y.1)

pub returns-in-Lost : goal.returns-in-Lost
returns-in-Lost c =
    let s = c.args.self in
    let d = c.in-Ok.decided in
    let v = what s d c.last_event-event.ensures c.bits_found-found.ensures c.in-Lost.is in
    let x : EndsBits s (record { source = record { sync = c.new-fresh.result; used = s.used + s.sync.held; came = s.came }; event = c.last_event-event.result; over = None }) = record {
      decided = d;
      finishes = c.in-Ok.ensures;
      result =
          ap₂ (λ (e : Event) (k : BlockSync). record { source = record { sync = k; used = s.used + s.sync.held; came = s.came }; event = e; over = None }) c.in-Lost.is c.new-fresh.ensures ∙ ap (bits_end s d) (sym v);
    } in
    let y = bits_end_lem s _ c.requires x in
    (x, y.0, y.1)
