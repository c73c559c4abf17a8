-- `error_correction::with_erasures` meets its contract.
-- Assumes nothing.
use mathlib.Core.Path.{sym, ap, ◌∙◌}
use Prim.Native.Nat.{◌+◌}
use borrow.Author.Tests.{eq-eqb}
use lib.ListN.{get_or, take, drop}
use lib.Seq.{get_or-take, get_or-drop}
use Rattle.common.specs.Choice.{pick}
use Rattle.error_correction.proofs.with_erasures.Goals as goal

pub returns-then-f-eq0 : goal.returns-then-f-eq0
returns-then-f-eq0 c =
    let u = c.args.u.now in
    let i = c.args.i in
    record {
      each = λ j h.
          sym (ap (λ b. pick b (get_or c.args.v j 0) 0)
          (eq-eqb (get_or (take 16 (drop i u)) j 0) 0 (get_or-take 16 (drop i u) j 0 h ∙ get_or-drop i u j 0 ∙ (c.requires.1 c.if-f-eq0.true).each (i + j))));
    }
