-- `sender::Sender::in_range` meets its contract.
-- Assumes nothing.
use mathlib.Core.Path.{◌≡◌, sym, ◌∙◌}
use mathlib.Core.Bool.{true}
use native.Mathlib.Omega.{arith}
use borrow.Author.Tests.{le-ltb, leb-true}
use Rattle.interleaver.specs.Branch.{branches_in_range}
use Rattle.interleaver.specs.declared.branches.Side.TheVariants.{Sending}
use Rattle.inner_code.proofs.Coder.{range_by_mode}
use Rattle.sender.proofs.Sender.in_range.Goals as goal
use Rattle.sender.proofs.Sender.in_range.Goals.{then-self-le7, else-self-le7}

pub returns-then-in_range : goal.returns-then-in_range
returns-then-in_range c =
    elim c.if-self-le7.branch [
      | then-self-le7 w ↦
          let s = c.args.self in
          let b : branches_in_range Sending s.interleaver.branches ≡ true = sym w.in_range.ensures ∙ sym w.value-is ∙ c.if-in_range.true in
          c.in_range-then-in_range.ensures ∙ range_by_mode s.coder ∙ sym (simp (le-ltb _ _ w.if-self-le7.true, b))
      | else-self-le7 w ↦ absurd (omega (arith, w.if-self-le7.false, leb-true c.args.self.place 7 (sym w.value-is ∙ c.if-in_range.true)))
    ]
