-- `galois::lanes::products` meets its contract.
-- Assumes nothing.
use Rattle.std.proofs.Common.{◌≡◌, arith, rules, length}
use Rattle.std.proofs.lemmas.Grind.{same_number_lists}
use Rattle.galois.proofs.Words.{length_products, products_at}
use Rattle.galois.proofs.lanes.products.Goals as goal

pub returns : goal.returns
returns c =
    let n : length c.args.a ≡ length c.args.b = search rules in
    same_number_lists _ _ (omega (arith, length_products c.args.a c.args.b n))
    (λ j h. search (rules, c.array_of.ensures j (omega arith), products_at c.args.a c.args.b j n (omega arith)))
