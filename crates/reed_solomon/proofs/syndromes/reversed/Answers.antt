-- `reed_solomon::syndromes::reversed` meets its contract.
-- Assumes nothing.
use Rattle.std.proofs.Common.{arith, rules, ◌-◌}
use Rattle.std.proofs.lemmas.List.{length-reverse}
use Rattle.std.proofs.lemmas.Grind.{same_number_lists}
use Rattle.reed_solomon.proofs.Residue.{reverse_at}
use Rattle.reed_solomon.proofs.syndromes.reversed.Goals as goal

pub returns : goal.returns
returns c =
    let l = c.args.l in
    same_number_lists _ _ (omega (arith, length-reverse l)) (λ j h. search (rules, c.array_of.ensures j (omega arith), reverse_at l j (15 - j) (omega arith)))
