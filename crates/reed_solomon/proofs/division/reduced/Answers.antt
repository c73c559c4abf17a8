-- `reed_solomon::division::reduced` meets its contract.
-- Assumes nothing.
use Rattle.reed_solomon.proofs.GroupDivision.{reduced_values}
use Rattle.reed_solomon.proofs.division.reduced.Goals as goal

pub returns : goal.returns
returns c =
    reduced_values c.args.v c.args.w c.short_quotient.result c.with_product.result c.well_formed.0.1.0.1 c.well_formed.1.0.1.0.1 c.short_quotient.type_inv.1.0.1 c.with_product.type_inv.1.0.1 c.short_quotient.ensures c.with_product.ensures
