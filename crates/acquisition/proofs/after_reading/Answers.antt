-- `acquisition::after_reading` meets its contract.
-- Assumes nothing.
use mathlib.Core.Path.{sym, ap, ◌∙◌}
use Rattle.acquisition.specs.Step.{after_reading}
use Rattle.acquisition.proofs.after_reading.Goals as goal

pub returns-in-Waits : goal.returns-in-Waits
returns-in-Waits c = c.reading_on.ensures ∙ ap (after_reading c.args.state c.args.step c.args.pending.now c.args.came) (sym c.in-Waits.is)

pub returns-in-Block : goal.returns-in-Block
returns-in-Block c = c.reading_on-in-Block.ensures ∙ ap (after_reading c.args.state c.args.step c.args.pending.now c.args.came) (sym c.in-Block.is)

pub returns-in-Lost : goal.returns-in-Lost
returns-in-Lost c = c.lost_reading.ensures ∙ ap (after_reading c.args.state c.args.step c.args.pending.now c.args.came) (sym c.in-Lost.is)
