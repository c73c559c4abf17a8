-- `galois::lanes::sum` meets its contract.
-- Assumes nothing.
use Rattle.std.proofs.Common.{◌≡◌, arith, rules, length}
use Rattle.std.proofs.lemmas.Grind.{same_number_lists}
use Rattle.galois.proofs.Words.{length-sum, sum_at}
use Rattle.galois.proofs.lanes.sum.Goals as goal

pub returns : goal.returns
returns c =
    let n : length c.args.a ≡ length c.args.b = search rules in
    same_number_lists _ _ (omega (arith, length-sum c.args.a c.args.b n)) (λ j h. search (rules, c.array_of.ensures j (omega arith), sum_at c.args.a c.args.b j n))
