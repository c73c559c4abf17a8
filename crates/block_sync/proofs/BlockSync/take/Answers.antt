-- `block_sync::BlockSync::take` meets its contract.
-- Assumes nothing.
use mathlib.Core.Path.{◌≡◌, subst, ap}
use mathlib.Core.List.{List}
use Prim.Native.Nat.{ℕ, ◌-◌}
use native.Mathlib.Omega.{arith}
use lib.ListN.{length, take}
use lib.Seq.{length-take-le}
use Rattle.block_sync.specs.Feed.{gathered_step, TurnsBuffer, gathered, turned}
use Rattle.block_sync.proofs.Buffers.{gathers, filled_is}
use borrow.Author.Rules.{rules}
use Rattle.block_sync.proofs.BlockSync.take.Goals as goal

pub returns-then-piece-space : goal.returns-then-piece-space
returns-then-piece-space c =
    let size : length c.args.self.bits ≡ 8168 = search rules in
    gathered (omega arith) (ap (gathered_step (length c.args.piece.now)) (gathers c.args.self c.args.piece.now _ size (omega arith) c.joined-bits.ensures))

pub returns : goal.returns
returns c =
    let size : length c.args.self.bits ≡ 8168 = search rules in
    let n : length (take (8168 - c.args.self.held) c.args.piece.now) ≡ 8168 - c.args.self.held = length-take-le (8168 - c.args.self.held) c.args.piece.now (omega arith) in
    turned (omega arith) (omega arith)
    (subst (λ (l : List ℕ). TurnsBuffer (8168 - c.args.self.held) c.args.self.lock l c.turn.result) (filled_is c.args.self (take (8168 - c.args.self.held) c.args.piece.now) _ size (omega (arith, n)) c.put.ensures) c.turn.ensures)
