-- `acquisition_state::put_fields` meets its contract.
-- Assumes nothing.
use native.Mathlib.Omega.{arith}
use Rattle.reception_counts.specs.Bytes.{to_bytes}
use Rattle.reception_counts.proofs.Numbers.{length_to}
use Rattle.acquisition_state.proofs.Table.{all_put}
use Rattle.acquisition_state.proofs.put_fields.Goals as goal

pub put-requires-5 : goal.put-requires-5
put-requires-5 c = omega (arith, c.requires.4, c.requires.5, c.put.auto, c.put-2.auto, c.put-3.auto, c.put-4.auto, c.put_number.auto, c.put_number-2.auto, c.put_number-3.auto)

pub returns : goal.returns
returns c =
    let a = c.args in
    all_put a.pending.now a.pairs.now a.bits.now a.small.now (to_bytes 8 a.came) (to_bytes 8 a.first) (to_bytes 8 a.used) a.flags.now a.bytes.now
    c.put.new.output c.put-2.new.output c.put-3.new.output c.put-4.new.output c.put_number.new.output c.put_number-2.new.output c.put_number-3.new.output c.put-5.new.output
    c.requires.0 c.requires.1 c.requires.2 c.requires.3 (length_to 8 a.came) (length_to 8 a.first) (length_to 8 a.used) c.requires.4 c.requires.5
    c.put.ensures c.put-2.ensures c.put-3.ensures c.put-4.ensures c.put_number.ensures c.put_number-2.ensures c.put_number-3.ensures c.put-5.ensures
