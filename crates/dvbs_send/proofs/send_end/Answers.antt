-- `dvbs_send::send_end` meets its contract.
-- Assumes nothing.
use Rattle.dvbs_send.proofs.Going.{last_none, end_closed}
use Rattle.dvbs_send.proofs.send_end.Goals as goal

pub returns-then-flush : goal.returns-then-flush
returns-then-flush c = end_closed c.if-flush.true c.send_null_packets-output.ensures c.close.ensures

pub returns : goal.returns
returns c = end_closed c.if-flush.false (last_none c.args.mode c.args.sending) c.close-2.ensures
