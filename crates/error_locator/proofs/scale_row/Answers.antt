-- `error_locator::scale_row` meets its contract.
-- Assumes nothing.
use mathlib.Core.Path.{ap, ◌∙◌}
use Rattle.galois.specs.Field256.{scaled}
use Rattle.error_locator.proofs.KeyEquations.{scaled_row}
use borrow.Author.Rules.{rules}
use Rattle.error_locator.proofs.scale_row.Goals as goal

pub returns : goal.returns
returns c =
    scaled_row c.args.m.now _ c.args.i c.args.a (search rules) c.requires c.scale-row.result
    (c.scale-row.ensures ∙ ap (scaled c.args.a) c.array_at.ensures) c.put.ensures
