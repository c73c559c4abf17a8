-- `lock_state::put_fields` meets its contract.
-- Assumes nothing.
use Rattle.reception_counts.specs.Bytes.{to_bytes}
use Rattle.reception_counts.proofs.Numbers.{length_to}
use Rattle.lock_state.proofs.Table.{all_put}
use Rattle.lock_state.proofs.put_fields.Goals as goal

pub returns : goal.returns
returns c =
    let a = c.args in
    all_put a.blocks.now a.symbols.now (to_bytes 8 a.skipped) (to_bytes 8 a.end) a.certain.now a.packets.now a.bytes.now
    c.put.new.output c.put-2.new.output c.put_number.new.output c.put_number-2.new.output c.put-3.new.output c.put-4.new.output
    c.requires.0 c.requires.1 (length_to 8 a.skipped) (length_to 8 a.end) c.requires.2 c.requires.3 c.requires.4
    c.put.ensures c.put-2.ensures c.put_number.ensures c.put_number-2.ensures c.put-3.ensures c.put-4.ensures
