-- `acquisition::Acquisition::end_step` meets its contract.
-- Assumes nothing.
use mathlib.Core.Path.{refl, sym, subst}
use Rattle.std.specs.Prelude.{None}
use native.Mathlib.Omega.{arith}
use Rattle.acquisition.specs.Step.{AcquisitionReady}
use Rattle.acquisition.specs.End.{EndsPending, EndsRuns, EndCounts, no_reading, pending_end, runs_end, blocks_end}
use Rattle.acquisition.specs.declared.Phase.TheVariants.{Reads}
use Rattle.acquisition.specs.declared.EndStep.{EndStep}
use Rattle.acquisition.proofs.Ready.{phase_of_lem}
use Rattle.acquisition.proofs.Counts.{closed_ready, runs_closed}
use Rattle.acquisition.proofs.Ending.{over_counts, pending_end_counts, runs_end_counts, blocks_end_counts, blocks_ready}
use Rattle.acquisition.proofs.Acquisition.end_step.Goals as goal

pub pending_step-step-requires : goal.pending_step-step-requires
pending_step-step-requires c = ((phase_of_lem c.args.self Reads c.in-Reads.is c.requires.phase_ready), c.requires.counts, c.if-held-gt0.true)

pub returns-then-held-gt0 : goal.returns-then-held-gt0
returns-then-held-gt0 c = let x : EndsPending c.args.self (record { acquisition = c.pending_step-step.result.acquisition; event = c.pending_step-step.result.event; over = None }) = record { step = c.pending_step-step.result; reads = c.pending_step-step.ensures.0; result = refl } in (pending_end c.in-Reads.is c.if-held-gt0.true x, c.pending_step-step.ensures.1, pending_end_counts c.args.self _ (phase_of_lem c.args.self Reads c.in-Reads.is c.requires.phase_ready) c.in-Reads.is c.if-held-gt0.true x)

pub close_runs-step-requires : goal.close_runs-step-requires
close_runs-step-requires c = (phase_of_lem c.args.self Reads c.in-Reads.is c.requires.phase_ready).reading_of.ready

pub returns-then-count-gt0 : goal.returns-then-count-gt0
returns-then-count-gt0 c = let g = (phase_of_lem c.args.self Reads c.in-Reads.is c.requires.phase_ready) in let x : EndsRuns c.args.self c.goes_on.result = record { step = c.close_runs-step.result; closes = c.close_runs-step.ensures; result = c.goes_on.ensures } in (runs_end c.in-Reads.is (omega (arith, c.if-held-gt0.false)) c.if-count-gt0.true x, subst (λ (y : EndStep). AcquisitionReady y.acquisition) (sym c.goes_on.ensures) (closed_ready c.args.self c.close_runs-step.result g c.requires.counts (omega (arith, c.if-held-gt0.false)) (runs_closed c.args.self.reading c.close_runs-step.result g.reading_of.ready c.close_runs-step.ensures) c.close_runs-step.result.event), runs_end_counts c.args.self c.goes_on.result g c.in-Reads.is c.if-count-gt0.true (omega (arith, c.if-held-gt0.false)) x)

pub end_blocks-requires : goal.end_blocks-requires
end_blocks-requires c = ((phase_of_lem c.args.self Reads c.in-Reads.is c.requires.phase_ready), c.requires.counts)

pub returns-in-Searches : goal.returns-in-Searches
returns-in-Searches c = (no_reading c.in-Searches.is c.over.ensures, subst (λ (y : EndStep). AcquisitionReady y.acquisition) (sym c.over.ensures) c.requires, subst (EndCounts c.args.self) (sym c.over.ensures) (over_counts c.args.self 0 c.args.self refl (omega arith)))

pub returns-else-count-gt0 : goal.returns-else-count-gt0
returns-else-count-gt0 c = let g = (phase_of_lem c.args.self Reads c.in-Reads.is c.requires.phase_ready) in let x = c.end_blocks.ensures in (blocks_end c.in-Reads.is (omega (arith, c.if-held-gt0.false)) (omega (arith, c.if-count-gt0.false)) x, blocks_ready c.args.self c.end_blocks.result g c.requires.counts (omega (arith, c.if-held-gt0.false)) x, blocks_end_counts c.args.self c.end_blocks.result g c.in-Reads.is x)
