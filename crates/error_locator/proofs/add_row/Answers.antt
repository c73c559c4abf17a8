-- `error_locator::add_row` meets its contract.
-- Assumes nothing.
use mathlib.Core.Path.{ap₂, ◌∙◌}
use Rattle.algebra.specs.Polynomial.{plus}
use Rattle.galois.specs.Field256.{numbers}
use Rattle.error_locator.proofs.KeyEquations.{added_row}
use borrow.Author.Rules.{rules}
use Rattle.error_locator.proofs.add_row.Goals as goal

pub returns : goal.returns
returns c =
    added_row c.args.m.now _ c.sum-row.result c.args.i c.args.j (search rules) c.requires.0 c.requires.1
    (c.sum-row.ensures ∙ ap₂ (plus numbers) c.array_at.ensures c.array_at-2.ensures) c.put.ensures
