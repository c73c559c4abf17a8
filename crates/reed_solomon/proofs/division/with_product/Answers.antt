-- `reed_solomon::division::with_product` meets its contract: after l turns the first l coefficients are written.
-- Assumes nothing.
use mathlib.Core.Path.{◌≡◌, ap, ◌∙◌}
use Prim.Native.Nat.{◌+◌}
use native.Mathlib.Omega.{arith}
use Rattle.galois.proofs.Instance.{bytes, byte, byte_add}
use lib.ListN.{get_or}
use Rattle.reed_solomon.specs.Steps.{back_sum, tail}
use Rattle.reed_solomon.proofs.GroupDivision.{tail_bytes, laid_coefficient}
use borrow.Author.Rules.{rules}
use Rattle.reed_solomon.proofs.division.with_product.Goals as goal

pub array_of-requires : goal.array_of-requires
array_of-requires c = (search rules, λ j h. search (rules, tail_bytes))

pub returns : goal.returns
returns c =
    record {
      each = λ n h. (let e : byte (get_or c.array_of.result n 0) ≡ bytes.add (byte (get_or c.args.w n 0)) (back_sum (λ y. y) tail c.put.new.output (n + 31)) = search (rules, c.array_of.ensures n h, byte_add) in e) ∙ ap (bytes.add (byte _)) (laid_coefficient 48 c.args.q _ c.well_formed.1.0.1.0.1 (omega arith) c.put.ensures tail (15 + n) (n + 31) (omega arith));
    }
