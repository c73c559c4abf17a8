-- `losses::take_part` meets its contract.
-- Assumes nothing.
use mathlib.Core.Path.{◌≡◌, refl}
use Prim.Native.Nat.{ℕ}
use native.Mathlib.Omega.{arith}
use lib.ListN.{length, length-replicate}
use Rattle.losses.proofs.Blocks.{part_kept, part_whole}
use borrow.Author.Rules.{rules}
use Rattle.losses.proofs.take_part.Goals as goal

pub put-requires : goal.put-requires
put-requires c =
    let size : length c.args.stream.pending ≡ 204 = search rules in
    omega (arith, size, c.requires.within)

pub put-requires-2 : goal.put-requires-2
put-requires-2 c =
    let many : length c.args.stream.marks ≡ 204 = search rules in
    omega (arith, many, c.requires.within, c.requires.marked)

pub returns-then-end-lt-BLOCK_LENGTH : goal.returns-then-end-lt-BLOCK_LENGTH
returns-then-end-lt-BLOCK_LENGTH c =
    let size : length c.args.stream.pending ≡ 204 = search rules in
    let many : length c.args.stream.marks ≡ 204 = search rules in
    part_kept c.args.stream (size) (many) c.requires c.put.ensures c.put-2.ensures _ refl c.if-end-lt-BLOCK_LENGTH.true

pub take_block-taken-requires : goal.take_block-taken-requires
take_block-taken-requires c =
    (c.requires.watched, omega (arith, c.requires.enough, c.if-end-lt-BLOCK_LENGTH.false), omega (arith, length-replicate {A = ℕ} 188 0))

pub returns : goal.returns
returns c =
    let size : length c.args.stream.pending ≡ 204 = search rules in
    let many : length c.args.stream.marks ≡ 204 = search rules in
    part_whole c.args.stream (size) (many) c.requires c.put.ensures c.put-2.ensures (omega (arith, c.if-end-lt-BLOCK_LENGTH.false)) c.take_block-taken.ensures
