-- `losses::tell_waiting` meets its contract.
-- Assumes nothing.
use mathlib.Core.Path.{ap, ◌∙◌}
use mathlib.Core.List.{◌++◌}
use Prim.Native.Nat.{ℕ, ◌-◌, ◌≤◌, ◌<◌}
use native.Mathlib.Omega.{arith}
use borrow.Author.Tests.{lt-ltb, le-ltb}
use lib.ListN.{length, drop}
use Rattle.losses.specs.List.{doubts}
use Rattle.losses.specs.Watch.{waiting_of}
use Rattle.losses.proofs.Decisions.{writes_none, writes_waiting}
use Rattle.losses.proofs.tell_waiting.Goals as goal

pub returns-then-lines-count : goal.returns-then-lines-count
returns-then-lines-count c =
    let a = c.args in
    let l : length a.lines.now < waiting_of a.certainty = omega (arith, c.if-lines-count.true, c.waiting-count.ensures) in
    (simp (lt-ltb _ _ l), simp (lt-ltb _ _ l) (writes_none a.lines.now))

pub returns : goal.returns
returns c =
    let a = c.args in
    let w = c.waiting-count.ensures in
    let v = c.waiting-count.result in
    let l : waiting_of a.certainty ≤ length a.lines.now = omega (arith, c.if-lines-count.false, w) in (
      simp (le-ltb _ _ l),
      simp (le-ltb _ _ l)
          (writes_waiting a.certainty (a.taken - 11) _ a.lines.now _ w (c.put_doubts.ensures ∙ ap (λ (b : ℕ). doubts (b - v) v ++ drop v a.lines.now) c.next_block.ensures)),
    )
