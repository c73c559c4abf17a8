-- `error_locator::lowered` meets its contract.
-- Assumes nothing.
use Rattle.std.proofs.Common.{◌≡◌, refl, ap, ◌∙◌, arith, length-drop, ℕ, zero, suc, List, [], ◌∷◌, ◌++◌, get_or, drop}
use Rattle.std.proofs.Math.Seq.{get_or-drop, take_all}
use Rattle.std.proofs.Math.Nat.{add_comm}
use Rattle.error_locator.proofs.lowered.Goals as goal

-- a zero at the end is read as what is past it
ended : (l : List ℕ) (j : ℕ) → get_or (l ++ 0 ∷ []) j 0 ≡ get_or l j 0
ended [] zero = refl
ended [] (suc j) = refl
ended (x ∷ l) zero = refl
ended (x ∷ l) (suc j) = ended l j

pub returns : goal.returns
returns c =
    let s = c.args.s in
    let e : c.copy_from_slice.new.self ≡ drop 1 s = c.copy_from_slice.ensures.after ∙ take_all 15 (drop 1 s) (omega (arith, length-drop 1 s)) in
    record { each = λ j. ended c.copy_from_slice.new.self j ∙ ap (λ (l : List ℕ). get_or l j 0) e ∙ get_or-drop 1 s j 0 ∙ ap (λ (k : ℕ). get_or s k 0) (add_comm 1 j) }
