-- `reed_solomon::division::residue` meets its contract.
-- Assumes nothing.
use Prim.{tt}
use Rattle.common.proofs.Entries.{bytes_of}
use Rattle.reed_solomon.proofs.Residue.{residue_of_values}
use borrow.Author.Rules.{elem_Fits}
use mir.Syntax.{w8}
use Rattle.reed_solomon.proofs.division.residue.Goals as goal

pub returns : goal.returns
returns c = residue_of_values _ c.requires _ c.remainder.type_inv.1.0.1 (bytes_of c.args.block.now (λ i. (c.shared_slice_known-1.given i).fits)) (bytes_of c.remainder.result (λ i. (elem_Fits w8 w8 c.remainder.result _ i c.remainder.type_inv.1.1 tt).fits)) c.remainder.ensures
