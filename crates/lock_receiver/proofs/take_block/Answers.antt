-- `lock_receiver::take_block` meets its contract.
-- Assumes nothing.
use mathlib.Core.Path.{refl, ◌∙◌}
use Prim.Native.Nat.{ℕ}
use native.Mathlib.Omega.{arith}
use lib.ListN.{length-replicate}
use Rattle.losses.proofs.Decisions.{most_seven}
use Rattle.lock_receiver.proofs.Ranges.{lock_range}
use Rattle.lock_receiver.proofs.Taking.{more_waits, takes_one}
use Rattle.lock_receiver.proofs.take_block.Goals as goal

pub take_block-taken-requires : goal.take_block-taken-requires
take_block-taken-requires c =
    let v = c.args.lock in
    let r = lock_range v c.requires.range in
    (r.watched, omega (arith, r.waiting.0, most_seven v.receiver.sync.place, c.requires.room), omega (arith, length-replicate {A = ℕ} 188 0))

pub settle-settled-requires : goal.settle-settled-requires
settle-settled-requires c =
    let v = c.args.lock in
    let r = lock_range v c.requires.range in (
      omega (arith, r.waiting.0, most_seven v.receiver.sync.place),
      λ z f. more_waits v c.requires c.take_block-taken.ensures _ c.started-start.ensures z f,
      c.take_block-taken.auto.output ∙ length-replicate {A = ℕ} 188 0,
      c.requires.enough,
    )

pub returns : goal.returns
returns c =
    let t = c.take_block-taken in
    takes_one c.args.lock c.requires t.ensures (length-replicate {A = ℕ} 188 0) (t.auto.output ∙ length-replicate {A = ℕ} 188 0) _ _ _ _ _ refl c.start_due-due.ensures c.started-start.ensures refl refl c.settle-settled.ensures
