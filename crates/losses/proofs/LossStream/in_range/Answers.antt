-- `losses::LossStream::in_range` meets its contract.
-- Assumes nothing.
use mathlib.Core.Path.{◌≡◌, sym, ◌∙◌}
use mathlib.Core.Bool.{true}
use Prim.Native.Nat.{◌<◌}
use native.Mathlib.Omega.{arith}
use borrow.Author.Tests.{lt-ltb, le-ltb}
use lib.ListN.{length}
use lib.Seq.{length-take-le}
use Rattle.common.specs.Lists.{largest}
use Rattle.receiver.specs.Receive.{receiver_in_range}
use Rattle.losses.specs.Feed.{held_marks}
use borrow.Author.Rules.{rules}
use Rattle.losses.proofs.LossStream.in_range.Goals as goal

pub returns-then-not-in_range : goal.returns-then-not-in_range
returns-then-not-in_range c = simp (sym c.in_range.ensures ∙ c.if-not-in_range.true)

pub returns-then-self-ge-BLOCK_LENGTH : goal.returns-then-self-ge-BLOCK_LENGTH
returns-then-self-ge-BLOCK_LENGTH c =
    let good : receiver_in_range c.args.self.receiver ≡ true = sym c.in_range.ensures ∙ c.if-not-in_range.false in
    simp (good, le-ltb _ _ c.if-self-ge-BLOCK_LENGTH.true)

pub slice_bounds-largest_of-end : goal.slice_bounds-largest_of-end
slice_bounds-largest_of-end c =
    let many : length c.args.self.marks ≡ 204 = search rules in
    let small : c.args.self.held < 204 = omega (arith, c.if-self-ge-BLOCK_LENGTH.false) in
    sym (length-take-le c.args.self.held c.args.self.marks (omega (arith, small, many)))

pub returns-then-largest_of-ge2 : goal.returns-then-largest_of-ge2
returns-then-largest_of-ge2 c =
    let good : receiver_in_range c.args.self.receiver ≡ true = sym c.in_range.ensures ∙ c.if-not-in_range.false in
    let small : c.args.self.held < 204 = omega (arith, c.if-self-ge-BLOCK_LENGTH.false) in
    simp (good, lt-ltb _ _ (small), le-ltb _ _ (rw c.largest_of.ensures at c.if-largest_of-ge2.true))

pub returns : goal.returns
returns c =
    let good : receiver_in_range c.args.self.receiver ≡ true = sym c.in_range.ensures ∙ c.if-not-in_range.false in
    let small : c.args.self.held < 204 = omega (arith, c.if-self-ge-BLOCK_LENGTH.false) in
    let few : largest (held_marks c.args.self) < 2 = omega (arith, c.largest_of.ensures, c.if-largest_of-ge2.false) in
    c.certainty_in_range.ensures ∙ sym (simp (good, lt-ltb _ _ (small), lt-ltb _ _ (few)))
