-- `program_io::calls::asked_for` meets its contract.
-- Assumes nothing.
use Rattle.std.proofs.Common.{sym, ◌∙◌, eq-eqb, ne_eqb}
use Rattle.program_io.proofs.calls.asked_for.Goals as goal

pub returns-then-count-ne1 : goal.returns-then-count-ne1
returns-then-count-ne1 c = sym (simp (ne_eqb _ _ (λ e. c.if-count-ne1.true (c.count.ensures ∙ e))))

pub returns-then-is : goal.returns-then-is
returns-then-is c =
    let n = sym c.count.ensures ∙ c.if-count-ne1.false in
    sym (simp (eq-eqb _ _ n, sym c.is.ensures ∙ c.if-is.true))

pub returns-then-is-2 : goal.returns-then-is-2
returns-then-is-2 c =
    let n = sym c.count.ensures ∙ c.if-count-ne1.false in
    let h = sym c.is.ensures ∙ c.if-is.false in
    sym (simp (eq-eqb _ _ n, h, sym c.is-2.ensures ∙ c.if-is-2.true))

pub returns : goal.returns
returns c =
    let n = sym c.count.ensures ∙ c.if-count-ne1.false in
    let h = sym c.is.ensures ∙ c.if-is.false in
    sym (simp (eq-eqb _ _ n, h, sym c.is-2.ensures ∙ c.if-is-2.false))
