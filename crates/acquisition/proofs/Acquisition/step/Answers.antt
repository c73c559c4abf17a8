-- `acquisition::Acquisition::step` meets its contract.
-- Assumes nothing.
use native.Mathlib.Omega.{arith}
use Rattle.acquisition.specs.Step.{hunts, drains, reads}
use Rattle.acquisition.specs.declared.Phase.TheVariants.{Searches, Reads}
use Rattle.acquisition.proofs.Ready.{phase_of_lem}
use Rattle.acquisition.proofs.Counts.{searches_counts, pending_counts, piece_counts}
use Rattle.acquisition.proofs.Acquisition.step.Goals as goal

pub search_step-requires : goal.search_step-requires
search_step-requires c = (phase_of_lem c.args.self Searches c.in-Searches.is c.requires.0.phase_ready, c.requires.2, c.requires.1)

pub pending_step-requires : goal.pending_step-requires
pending_step-requires c = (phase_of_lem c.args.self Reads c.in-Reads.is c.requires.0.phase_ready, c.requires.0.counts, c.if-held-gt0.true)

pub returns-then-held-gt0 : goal.returns-then-held-gt0
returns-then-held-gt0 c = (drains c.in-Reads.is c.if-held-gt0.true c.pending_step.ensures.0, c.pending_step.ensures.1, pending_counts c.args.self c.args.piece.now c.pending_step.result (phase_of_lem c.args.self Reads c.in-Reads.is c.requires.0.phase_ready) c.if-held-gt0.true c.pending_step.ensures.0)

pub piece_step-requires : goal.piece_step-requires
piece_step-requires c = (phase_of_lem c.args.self Reads c.in-Reads.is c.requires.0.phase_ready, c.requires.1, c.requires.2, omega (arith, c.if-held-gt0.false))

pub returns-in-Searches : goal.returns-in-Searches
returns-in-Searches c = (hunts c.in-Searches.is c.search_step.ensures.0, c.search_step.ensures.1, searches_counts c.args.self c.args.piece.now c.search_step.result (phase_of_lem c.args.self Searches c.in-Searches.is c.requires.0.phase_ready) c.search_step.ensures.2 c.search_step.ensures.0)

pub returns-else-held-gt0 : goal.returns-else-held-gt0
returns-else-held-gt0 c = (reads c.in-Reads.is (omega (arith, c.if-held-gt0.false)) c.piece_step.ensures.0, c.piece_step.ensures.1, piece_counts c.args.self c.args.piece.now c.piece_step.result (phase_of_lem c.args.self Reads c.in-Reads.is c.requires.0.phase_ready) c.piece_step.ensures.2 c.piece_step.ensures.0)
