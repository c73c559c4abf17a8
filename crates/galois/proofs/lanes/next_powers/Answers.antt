-- `galois::lanes::next_powers` meets its contract.
-- Assumes nothing.
use Rattle.std.proofs.Common.{arith, rules, get_or}
use Rattle.std.proofs.lemmas.Grind.{same_number_lists}
use Rattle.common.proofs.Lists.{get_d_map_in}
use Rattle.algebra.specs.Polynomial.{scale}
use Rattle.galois.specs.Field256.{mul}
use Rattle.galois.proofs.Laws.{mul_comm}
use Rattle.galois.proofs.Words.{length_scaled}
use Rattle.galois.proofs.lanes.next_powers.Goals as goal

pub returns : goal.returns
unfolding scale
returns c =
    let x = c.args.x in
    same_number_lists _ _ (omega (arith, length_scaled 0x4C x))
    (λ j h. search (rules, c.array_of.ensures j (omega arith), mul_comm (get_or x j 0) 0x4C, get_d_map_in (mul 0x4C) x 0 0 j (omega arith)))
