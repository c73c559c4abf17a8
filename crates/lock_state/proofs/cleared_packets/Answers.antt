-- `lock_state::cleared_packets` meets its contract.
-- Assumes nothing.
use mathlib.Core.Path.{◌≡◌, sym, ap, ◌∙◌}
use Prim.Native.Nat.{ℕ, ◌*◌, ◌≤◌}
use native.Mathlib.Omega.{arith}
use lib.ListN.{length, take}
use lib.Seq.{length-take-le}
use Rattle.common.specs.Lists.{padded}
use mathlib.Core.List.{append-nil}
use Rattle.losses.specs.Watch.{waiting_of}
use Rattle.lock_receiver.specs.declared.LockReceiver.{LockReceiver}
use borrow.Author.Rules.{rules}
use Rattle.lock_state.proofs.cleared_packets.Goals as goal

size : (v : LockReceiver) → length v.packets ≡ 1316 → (n : ℕ) → n ≡ waiting_of v.certainty → waiting_of v.certainty ≤ 7 → length (take (188 * n) v.packets) ≡ 188 * n
size v e n w few = length-take-le (188 * n) v.packets (omega arith)

pub slice_bounds-joined-end : goal.slice_bounds-joined-end
slice_bounds-joined-end c =
    let held_size : length c.args.receiver.packets ≡ 1316 = search rules in
    sym (size c.args.receiver held_size _ c.waiting.ensures c.requires)

pub joined-requires : goal.joined-requires
joined-requires c =
    let held_size : length c.args.receiver.packets ≡ 1316 = search rules in
    omega (arith, size c.args.receiver held_size _ c.waiting.ensures c.requires, c.waiting.ensures, c.requires)

pub returns : goal.returns
returns c =
    let held_size : length c.args.receiver.packets ≡ 1316 = search rules in
    let l = c.args.receiver.packets in
    (c.joined.ensures ∙ ap (padded 1316) (append-nil (take (188 * c.waiting.result) l)) ∙ ap (λ (k : ℕ). padded 1316 (take (188 * k) l)) c.waiting.ensures, held_size)
