-- `viterbi_decoder::chosen` meets its contract.
-- Assumes nothing.
use mathlib.Core.Bool.{Bool, true, false}
use mathlib.Core.Path.{◌≡◌, refl, sym, ◌∙◌}
use Prim.Native.Nat.{ℕ}
use native.Mathlib.Omega.{arith}
use borrow.Author.Tests.{ltb-true}
use lib.Dec.{ltb}
use Rattle.common.specs.Choice.{pick}
use Rattle.viterbi_decoder.specs.Lanes.{lesser, chosen}
use Rattle.viterbi_decoder.proofs.Loops.{min_lesser}
use Rattle.viterbi_decoder.proofs.chosen.Goals as goal

first-lesser : (a b p q : ℕ) → lesser a b ≡ a → chosen a b p q ≡ p
first-lesser a b p q = go (ltb b a) refl
  where
    go : (t : Bool) → ltb b a ≡ t → pick t b a ≡ a → pick t q p ≡ p
    go true e h = absurd (omega (arith, ltb-true b a e))
    go false e h = refl

second-lesser : (a b p q : ℕ) → (lesser a b ≡ a → ⊥) → chosen a b p q ≡ q
second-lesser a b p q = go (ltb b a)
  where
    go : (t : Bool) → (pick t b a ≡ a → ⊥) → pick t q p ≡ q
    go true n = refl
    go false n = absurd (n refl)

pub returns-then-min-a : goal.returns-then-min-a
returns-then-min-a c = sym (first-lesser _ _ _ _ (sym (c.min.ensures ∙ min_lesser _ _) ∙ c.if-min-a.true))

pub returns-else-min-a : goal.returns-else-min-a
returns-else-min-a c = sym (second-lesser _ _ _ _ (λ e. c.if-min-a.false ((c.min.ensures ∙ min_lesser _ _) ∙ e)))
