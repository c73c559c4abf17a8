-- `reed_solomon::division::short_quotient` meets its contract: after l turns the first l coefficients are written.
-- Assumes nothing.
use mathlib.Core.Path.{◌≡◌, ◌∙◌}
use Prim.Native.Nat.{◌+◌}
use native.Mathlib.Omega.{arith}
use lib.ListN.{get_or}
use Rattle.galois.proofs.Instance.{byte}
use Rattle.reed_solomon.specs.Steps.{back_sum, reciprocal}
use Rattle.reed_solomon.proofs.GroupDivision.{reciprocal_bytes, laid_coefficient}
use borrow.Author.Rules.{rules}
use Rattle.reed_solomon.proofs.division.short_quotient.Goals as goal

pub array_of-requires : goal.array_of-requires
array_of-requires c = (search rules, λ j h. search (rules, reciprocal_bytes))

pub returns : goal.returns
returns c =
    record {
      each = λ n h. (let e : byte (get_or c.array_of.result n 0) ≡ back_sum (λ y. y) reciprocal c.put.new.output (n + 16) = search (rules, c.array_of.ensures n h) in e) ∙ laid_coefficient 32 c.args.v _ c.well_formed.0.1.0.1 (omega arith) c.put.ensures reciprocal n (n + 16) (omega arith);
    }
