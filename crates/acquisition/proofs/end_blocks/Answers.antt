-- `acquisition::end_blocks` meets its contract.
-- Assumes nothing.
use mathlib.Core.Path.{sym, ap, ◌∙◌}
use Rattle.acquisition.specs.End.{over_with, end_of_blocks}
use Rattle.acquisition.specs.declared.Acquisition.{Acquisition}
use Rattle.std.specs.Prelude.{None}
use Rattle.acquisition.specs.declared.Event.TheVariants.{Lost}
use Rattle.acquisition.proofs.end_blocks.Goals as goal

pub returns-in-Waits : goal.returns-in-Waits
returns-in-Waits c = record { step = c.close_blocks-step.result; closes = c.close_blocks-step.ensures; result = c.over.ensures ∙ ap (λ (x : Acquisition). over_with x c.args.state.reading.sync.held) c.ended-over_then.ensures ∙ ap (end_of_blocks c.args.state c.close_blocks-step.result) (sym c.in-Waits.is) }

pub returns-in-Block : goal.returns-in-Block
returns-in-Block c = record { step = c.close_blocks-step.result; closes = c.close_blocks-step.ensures; result = c.goes_on.ensures ∙ ap (end_of_blocks c.args.state c.close_blocks-step.result) (sym c.in-Block.is) }

pub returns-in-Lost : goal.returns-in-Lost
returns-in-Lost c =
    let t = c.close_blocks-step.result in
    record { step = t; closes = c.close_blocks-step.ensures; result = ap (λ (x : Acquisition). record { acquisition = x; event = Lost; over = None }) c.ended-acquisition.ensures ∙ ap (end_of_blocks c.args.state t) (sym c.in-Lost.is) }
