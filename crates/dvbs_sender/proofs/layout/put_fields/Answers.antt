-- `dvbs_sender::layout::put_fields` meets its contract.
-- Assumes nothing.
use Rattle.dvbs_sender.proofs.States.{all_put}
use Rattle.dvbs_sender.proofs.layout.put_fields.Goals as goal

pub returns : goal.returns
returns c =
    let a = c.args in
    let p = c.requires in
    all_put a.cells.now a.positions.now a.numbers.now a.bytes.now
    c.put.new.output c.put-2.new.output c.put-3.new.output
    p.0 p.1 p.2 p.3
    c.put.ensures c.put-2.ensures c.put-3.ensures
