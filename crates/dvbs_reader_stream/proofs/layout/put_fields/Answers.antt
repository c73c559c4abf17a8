-- `dvbs_reader_stream::layout::put_fields` meets its contract.
-- Assumes nothing.
use Rattle.dvbs_reader_stream.proofs.States.{all_put}
use Rattle.dvbs_reader_stream.proofs.layout.put_fields.Goals as goal

pub returns : goal.returns
returns c =
    all_put c.args.pairs.now c.args.numbers.now c.args.bytes.now c.put.new.output c.put-2.new.output c.requires.0 c.requires.1 c.requires.2 c.put.ensures c.put-2.ensures
