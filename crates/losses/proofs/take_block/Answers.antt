-- `losses::take_block` meets its contract.
-- Assumes nothing.
use native.Mathlib.Omega.{arith}
use Rattle.losses.proofs.Decisions.{range_fits, most_seven}
use Rattle.losses.proofs.Blocks.{filling_block, decided_block}
use Rattle.losses.proofs.take_block.Goals as goal

pub returns-then-taken-lt11 : goal.returns-then-taken-lt11
returns-then-taken-lt11 c =
    filling_block c.args.receiver c.args.certainty c.requires.2 c.call_receiver-number.ensures c.if-taken-lt11.true c.args.lines.now

pub decide-decided-requires : goal.decide-decided-requires
decide-decided-requires c =
    let r = c.args.receiver in
    let f = range_fits c.args.certainty r.sync.place r.counts.taken c.requires.0.range in
    (omega (arith, f.0, most_seven r.sync.place), f.1, omega (arith, c.requires.0.most), c.requires.1)

pub returns : goal.returns
returns c =
    let d = c.decide-decided in
    decided_block c.args.receiver c.args.certainty c.requires.2 c.call_receiver-number.ensures (omega (arith, c.if-taken-lt11.false)) _ _ _ c.args.lines.now _ _ c.start_due-due.ensures c.started-start.ensures d.ensures.0 d.ensures.1
