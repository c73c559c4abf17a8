-- `reed_solomon::division::remainder` meets its contract.
-- Assumes nothing.
use Rattle.reed_solomon.proofs.SparseDivision.{divided_values}
use Rattle.reed_solomon.proofs.division.remainder.Goals as goal

pub returns : goal.returns
returns c =
    divided_values c.args.list.now c.put.new.output c.sparse_quotient-quotient.result c.sparse_remainder-p.result c.divide.result c.requires c.put.ensures c.put.auto.output c.sparse_quotient-quotient.type_inv.1.0.1 c.sparse_remainder-p.type_inv.1.0.1 c.sparse_quotient-quotient.ensures c.sparse_remainder-p.ensures c.divide.ensures
