-- `acquisition::lost_reading` meets its contract.
-- Assumes nothing.
use mathlib.Core.Path.{sym, ap, ◌∙◌}
use mathlib.Core.Bool.{Bool}
use Rattle.acquisition.specs.Step.{searching_on, lost_reading}
use Rattle.acquisition.proofs.lost_reading.Goals as goal

pub returns-then-ends_reading : goal.returns-then-ends_reading
returns-then-ends_reading c = c.searching_on.ensures ∙ ap (λ (m : Bool). searching_on c.args.state.rate m c.args.pending.now c.args.came) c.mirrored_next.ensures ∙ ap (lost_reading c.args.state c.args.next c.args.pending.now c.args.came) (sym c.if-ends_reading.true ∙ c.ends_reading.ensures)

pub returns : goal.returns
returns c = c.reading_on.ensures ∙ ap (lost_reading c.args.state c.args.next c.args.pending.now c.args.came) (sym c.if-ends_reading.false ∙ c.ends_reading.ensures)
