-- `reed_solomon::error_bits::set_bits` meets its contract: the bits of the values from l on are left to count.
-- Assumes nothing.
use mathlib.Core.Path.{◌≡◌, sym, ap, ◌∙◌}
use mathlib.Core.List.{List, ◌∷◌}
use Prim.Native.Nat.{ℕ, ◌+◌, ◌≤◌, ◌<◌}
use native.Mathlib.Numerals.{add-one}
use native.Mathlib.Omega.{arith}
use lib.ListN.{length, get_or, drop, drop_of_length-le}
use lib.Seq.{drop-cons}
use Rattle.reed_solomon.specs.Code.{unequal_bits}
use Rattle.reed_solomon.specs.Steps.{weighed}
use Rattle.reed_solomon.proofs.BitDistance.{bits_most}
use Rattle.reed_solomon.proofs.error_bits.set_bits.Invariants.{Counting}
use Rattle.reed_solomon.proofs.error_bits.set_bits.Goals as goal

counting_more : (values : List ℕ) (bits l k : ℕ) → l < length values → k ≡ unequal_bits 8 (get_or values l 0) 0 → Counting values bits l → Counting values (bits + k) (l + 1)
unfolding weighed
counting_more values bits l k h e c =
    let front : drop l values ≡ get_or values l 0 ∷ drop (l + 1) values = drop-cons values l 0 h ∙ ap (λ (j : ℕ). get_or values l 0 ∷ drop j values) (sym (add-one l)) in
    record {
      few = omega (arith, c.few, bits_most 8 (get_or values l 0) 0);
      total = omega (arith, ap (λ (r : List ℕ). bits + weighed (unequal_bits 8) r) (sym front) ∙ c.total);
    }

counting_all : (values : List ℕ) (bits l : ℕ) → length values ≤ l → Counting values bits l → bits ≡ weighed (unequal_bits 8) values
unfolding weighed
counting_all values bits l h c = omega (arith, ap (λ (r : List ℕ). bits + weighed (unequal_bits 8) r) (sym (drop_of_length-le values {i = l} h)) ∙ c.total)

pub overflow_add-bits : goal.overflow_add-bits
overflow_add-bits c =
    record { fits = omega (arith, c.ones-bits.ensures, bits_most 8 (get_or c.args.values.now c.loop-value.value-index 0) 0, c.loop-value.invariant.few, c.requires) }

pub loop-value-preserved : goal.loop-value-preserved
loop-value-preserved c = counting_more _ _ _ _ (omega arith) c.ones-bits.ensures c.loop-value.invariant

pub returns : goal.returns
returns c = counting_all _ _ _ (omega arith) c.loop-value.invariant
