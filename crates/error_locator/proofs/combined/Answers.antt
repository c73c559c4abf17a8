-- `error_locator::combined` meets its contract.
-- Assumes nothing.
use Rattle.std.proofs.Common.{◌≡◌, arith, rules, length}
use Rattle.std.proofs.lemmas.Grind.{same_number_lists}
use Rattle.error_locator.proofs.KeyEquations.{length_combined, combined_at}
use Rattle.error_locator.proofs.combined.Goals as goal

pub returns : goal.returns
returns c =
    let x = c.args in
    let p : length x.p ≡ 16 = search rules in
    let a : length x.a ≡ 16 = search rules in
    let b : length x.b ≡ 16 = search rules in
    let f : length x.f ≡ 16 = search rules in
    same_number_lists _ _ (omega (arith, length_combined x.p x.a x.b x.f p a b f))
    (λ j h. search (rules, c.array_of.ensures j (omega arith), combined_at x.p x.a x.b x.f p a b f j (omega arith)))
