-- `galois::lanes::advance` meets its contract.
-- Assumes nothing.
use Rattle.std.proofs.Common.{◌≡◌, arith, rules, length}
use Rattle.std.proofs.lemmas.Grind.{same_number_lists}
use Rattle.galois.proofs.LanePowers.{length_advanced, advanced_at}
use Rattle.galois.proofs.lanes.advance.Goals as goal

pub returns : goal.returns
returns c =
    let n : length c.args.x ≡ 16 = search rules in
    let m : length c.args.v ≡ 16 = search rules in
    same_number_lists _ _ (omega (arith, length_advanced c.args.x c.args.v c.args.c n m))
    (λ j h. search (rules, c.array_of.ensures j (omega arith), advanced_at c.args.x c.args.v c.args.c n m j (omega arith)))
