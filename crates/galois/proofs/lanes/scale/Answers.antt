-- `galois::lanes::scale` meets its contract.
-- Assumes nothing.
use mathlib.Core.Path.{◌∙◌}
use Rattle.galois.proofs.LanePowers.{products_scaled}
use Rattle.galois.proofs.lanes.scale.Goals as goal

pub returns : goal.returns
returns c = c.products.ensures ∙ products_scaled 16 _ c.args.a c.well_formed.0.1.0.1
