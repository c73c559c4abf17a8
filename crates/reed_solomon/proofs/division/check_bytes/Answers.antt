-- `reed_solomon::division::check_bytes` meets its contract.
-- Assumes nothing.
use Prim.{tt}
use Rattle.common.proofs.Entries.{bytes_of}
use Rattle.reed_solomon.proofs.Residue.{check_of_values}
use borrow.Author.Rules.{elem_Fits}
use mir.Syntax.{w8}
use Rattle.reed_solomon.proofs.division.check_bytes.Goals as goal

pub returns : goal.returns
returns c = check_of_values _ _ c.requires c.remainder.type_inv.1.0.1 (bytes_of c.remainder.result (λ i. (elem_Fits w8 w8 c.remainder.result _ i c.remainder.type_inv.1.1 tt).fits)) c.remainder.ensures
