-- `receiver_stream::take_piece` meets its contract.
-- Assumes nothing.
use mathlib.Core.Path.{◌≡◌}
use native.Mathlib.Omega.{arith}
use lib.ListN.{length}
use Rattle.receiver_stream.proofs.Pieces.{keep_piece}
use borrow.Author.Rules.{rules}
use Rattle.receiver_stream.proofs.take_piece.Goals as goal

pub returns-then-piece-held : goal.returns-then-piece-held
returns-then-piece-held c =
    let size : length c.args.stream.pending ≡ 204 = search rules in
    let sizes : length c.args.stream.marks ≡ 204 = search rules in
    keep_piece c.args.stream (size) (sizes) c.requires.0 c.args.piece.now c.args.marks.now c.args.output.now c.joined-pending.result c.joined-marks.result (omega arith) c.requires.1 c.joined-pending.ensures c.joined-marks.ensures
