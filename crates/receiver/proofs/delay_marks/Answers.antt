-- `receiver::delay_marks` meets its contract.
-- Assumes nothing.
use mathlib.Core.Path.{sym, ap₂, ◌∙◌}
use mathlib.Core.List.{List}
use Prim.Native.Nat.{ℕ}
use lib.ListN.{length-replicate}
use Rattle.interleaver.specs.Branch.{laid}
use Rattle.interleaver.specs.Block.{block_out, branches_after}
use Rattle.interleaver.specs.declared.branches.Side.TheVariants.{Receiving}
use Rattle.receiver.proofs.MarkDelays.{none_leaves, none_stays}
use borrow.Author.Rules.{rules}
use Rattle.receiver.proofs.delay_marks.Goals as goal

pub returns-then-none : goal.returns-then-none
returns-then-none c =
    let p = c.args.positions in
    let z = c.requires.4 c.if-none.true in (
      z.0
          ∙ sym (ap₂ (λ (k m : List ℕ). (branches_after Receiving (laid k p) m).cells) z.0 z.1
          ∙ none_stays p (record { cells = length-replicate {A = ℕ} 1122 0; positions = search rules; range = c.requires.0 })),
      c.requires.3 ∙ sym (ap₂ (λ (k m : List ℕ). block_out Receiving (laid k p) m) z.0 z.1 ∙ none_leaves p),
    )
