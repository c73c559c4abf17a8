-- `receiver_state::put_fields` meets its contract.
-- Assumes nothing.
use Rattle.receiver_state.proofs.States.{all_put}
use Rattle.receiver_state.proofs.put_fields.Goals as goal

pub returns : goal.returns
returns c =
    let a = c.args in
    let p = c.requires in
    all_put a.cells.now a.positions.now a.sync.now a.counts.now a.marks.now a.bytes.now
    c.put.new.output c.put-2.new.output c.put-3.new.output c.put-4.new.output c.put-5.new.output
    p.0 p.1 p.2 p.3 p.4 p.5
    c.put.ensures c.put-2.ensures c.put-3.ensures c.put-4.ensures c.put-5.ensures
