-- `common::largest_of` meets its contract: the largest of the bytes before the one that comes.
-- Assumes nothing.
use mathlib.Core.Path.{refl, sym, ap, ◌∙◌}
use Prim.Native.Nat.{ℕ, max}
use lib.ListN.{get_or}
use Rattle.common.specs.Lists.{largest}
use Rattle.common.proofs.Largest.{largest_more, largest_whole}
use borrow.Author.Rules.{rules}
use Rattle.common.proofs.largest_of.Goals as goal

pub loop-byte-init : goal.loop-byte-init
unfolding largest
loop-byte-init c = refl

pub loop-byte-preserved : goal.loop-byte-preserved
loop-byte-preserved c =
    let l = c.loop-byte in
    let m = c.args.bytes.now in
    c.max-most.ensures ∙ ap (λ (k : ℕ). max k (get_or m l.byte-index 0)) l.invariant ∙ sym (largest_more m l.byte-index (search rules))

pub returns : goal.returns
returns c = c.loop-byte.invariant ∙ largest_whole c.args.bytes.now c.loop-byte.byte-index (search rules)
