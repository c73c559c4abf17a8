-- `reed_solomon::division::back_sum` meets its contract: above bit i the bits of all factors are in the sum.
-- Assumes nothing.
use mathlib.Core.Path.{◌≡◌}
use Prim.Native.Nat.{◌/◌, ◌^◌}
use Rattle.galois.proofs.Instance.{byte}
use Rattle.reed_solomon.specs.Steps.{back_sum}
use Rattle.reed_solomon.proofs.division.back_sum.Given as goal

abbrev pub invariant-loop-i : goal.invariant-loop-i
invariant-loop-i l = byte l.r ≡ back_sum (λ x. x / 2 ^ l.i) l.factors l.list l.at
