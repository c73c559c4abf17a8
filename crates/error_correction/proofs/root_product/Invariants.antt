-- `error_correction::root_product` meets its contract: p is the product over the places from l on.
-- Assumes nothing.
use Rattle.error_correction.proofs.ErrorValues.{Multiplied}
use Rattle.error_correction.proofs.root_product.Given as goal

abbrev pub invariant-loop-l : goal.invariant-loop-l
invariant-loop-l l = Multiplied l.places l.p l.l
