-- `dvbs_reader_stream::dvbs_reader_fresh` meets its contract.
-- Assumes nothing.
use mathlib.Core.Path.{refl, ap, ◌∙◌}
use borrow.Author.Tests.{eq-eqb, ne_eqb, lt-ltb, le-ltb}
use Rattle.dvbs_reader_stream.specs.State.{state_bytes}
use Rattle.dvbs_reader_stream.proofs.States.{fresh_cleared}
use Rattle.dvbs_reader_stream.proofs.dvbs_reader_fresh.Goals as goal

pub returns-then-state-ne-STATE_LENGTH : goal.returns-then-state-ne-STATE_LENGTH
returns-then-state-ne-STATE_LENGTH c = simp (ne_eqb _ _ c.if-state-ne-STATE_LENGTH.true) (c.number.ensures, refl)

pub returns-then-rate-ge-QPSK_MODES : goal.returns-then-rate-ge-QPSK_MODES
returns-then-rate-ge-QPSK_MODES c = simp (eq-eqb _ _ c.if-state-ne-STATE_LENGTH.false, le-ltb _ _ c.if-rate-ge-QPSK_MODES.true) (c.number-then-rate-ge-QPSK_MODES.ensures, refl)

pub returns : goal.returns
returns c = simp (eq-eqb _ _ c.if-state-ne-STATE_LENGTH.false, lt-ltb _ _ c.if-rate-ge-QPSK_MODES.false) (refl, c.write_state.ensures ∙ ap state_bytes (fresh_cleared c.args.rate c.new-stream.result c.new-stream.ensures))
