-- `receiver_stream::finish_block` meets its contract.
-- Assumes nothing.
use mathlib.Core.Path.{◌≡◌, sym, ◌∙◌}
use mathlib.Core.Logic.{inr}
use native.Mathlib.Omega.{arith}
use lib.ListN.{length}
use Rattle.receiver_stream.proofs.Pieces as pieces
use borrow.Author.Rules.{rules}
use Rattle.receiver_stream.proofs.finish_block.Goals as goal

pub returns-then-held-eq0 : goal.returns-then-held-eq0
returns-then-held-eq0 c =
    let size : length c.args.stream.pending ≡ 204 = search rules in
    let sizes : length c.args.stream.marks ≡ 204 = search rules in
    pieces.finish_none c.args.stream (size) (sizes) c.requires.0 c.args.filler.now c.args.marks.now c.args.output.now c.requires.1 c.if-held-eq0.true

pub receive_marked_blocks-requires : goal.receive_marked_blocks-requires
receive_marked_blocks-requires c =
    let b : length c.joined-block.result ≡ 204 = search rules in
    let m : length c.joined-own.result ≡ 204 = search rules in
    (omega (arith, b, c.requires.1, c.requires.3, c.if-held-eq0.false), inr (m ∙ sym b))

pub returns : goal.returns
returns c =
    let size : length c.args.stream.pending ≡ 204 = search rules in
    let sizes : length c.args.stream.marks ≡ 204 = search rules in
    pieces.finish_block c.args.stream (size) (sizes) c.requires.0 c.args.filler.now c.args.marks.now c.requires.1 c.requires.2 c.if-held-eq0.false c.joined-block.ensures c.joined-own.ensures c.receive_marked_blocks.ensures
