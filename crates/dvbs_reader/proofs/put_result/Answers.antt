-- `dvbs_reader::put_result` meets its contract.
-- Assumes nothing.
use mathlib.Core.Path.{◌≡◌, ◌∙◌}
use mathlib.Core.List.{List, ◌∷◌}
use Prim.Native.Nat.{ℕ}
use lib.ListN.{drop}
use Rattle.dvbs_reader.proofs.put_result.Goals as goal

four : (a b : ℕ) (l : List ℕ) {c c' d d' e e' f f' : ℕ} → c ≡ c' → d ≡ d' → e ≡ e' → f ≡ f' → a ∷ b ∷ c ∷ d ∷ e ∷ f ∷ l ≡ a ∷ b ∷ c' ∷ d' ∷ e' ∷ f' ∷ l
four a b l p q r s = λ i. a ∷ b ∷ p i ∷ q i ∷ r i ∷ s i ∷ l

pub returns : goal.returns
returns c =
    c.put.ensures
    ∙ four c.args.number c.args.memory (drop 6 c.args.res.now) c.byte_at.ensures c.byte_at-2.ensures c.byte_at-3.ensures c.byte_at-4.ensures
