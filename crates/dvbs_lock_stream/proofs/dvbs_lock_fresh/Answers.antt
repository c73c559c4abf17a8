-- `dvbs_lock_stream::dvbs_lock_fresh` meets its contract.
-- Assumes nothing.
use mathlib.Core.Path.{refl, sym, ap, subst, ◌∙◌}
use borrow.Author.Tests.{eq-eqb, ne_eqb, lt-ltb, le-ltb}
use Rattle.lock_stream.specs.declared.LockStream.{LockStream}
use Rattle.lock_state.specs.State.{state_bytes, cleared}
use Rattle.acquisition_state.proofs.Ranges.{Left}
use Rattle.dvbs_lock_stream.proofs.Feeding.{fresh_come, fresh_left, fresh_cleared, writes}
use Rattle.dvbs_lock_stream.proofs.dvbs_lock_fresh.Goals as goal

pub returns-then-state-ne-STATE_LENGTH : goal.returns-then-state-ne-STATE_LENGTH
returns-then-state-ne-STATE_LENGTH c = simp (ne_eqb _ _ c.if-state-ne-STATE_LENGTH.true) (c.number.ensures, refl)

pub returns-then-rate-ge6 : goal.returns-then-rate-ge6
returns-then-rate-ge6 c = simp (eq-eqb _ _ c.if-state-ne-STATE_LENGTH.false, le-ltb _ _ c.if-rate-ge6.true) (c.number-then-rate-ge6.ensures, refl)

pub write_state-requires : goal.write_state-requires
write_state-requires c = let s = c.new-stream.result in let e = c.new-stream.ensures.0 in let w = writes s c.new-stream.ensures.1 (ap (λ (s : LockStream). s.source.bits) e ∙ fresh_come c.args.rate) (subst (λ (s : LockStream). Left s.source.symbols) (sym e) (fresh_left c.args.rate)) in (w.0, w.1, c.if-state-ne-STATE_LENGTH.false)

pub returns : goal.returns
returns c = simp (eq-eqb _ _ c.if-state-ne-STATE_LENGTH.false, lt-ltb _ _ c.if-rate-ge6.false) (refl, c.write_state.ensures.0 ∙ ap (λ (s : LockStream). state_bytes (cleared s)) c.new-stream.ensures.0 ∙ ap state_bytes (fresh_cleared c.args.rate))
