-- `node_search::least_cost` meets its contract.
-- Assumes nothing.
use borrow.Author.Rules.{rules}
use Rattle.node_search.proofs.Runs.{led_readable, led_cost, led_is}
use Rattle.node_search.proofs.least_cost.Goals as goal

pub read_pairs-read-requires : goal.read_pairs-read-requires
read_pairs-read-requires c =
    led_readable c.args.h.rate c.args.h.turn c.requires.0 c.requires.1 c.args.pairs.now c.requires.2 c.requires.3 _
    (led_is c.args.h.rate c.args.h.turn c.args.pairs.now c.requires.2 c.lead_symbols.result c.lead_symbols.ensures c.lead_run.new.run c.lead_run.ensures)
    c.args.bits.now (search rules)

pub returns : goal.returns
returns c =
    led_cost c.args.h.rate c.args.h.turn c.requires.0 c.requires.1 c.args.pairs.now c.requires.2 _
    (led_is c.args.h.rate c.args.h.turn c.args.pairs.now c.requires.2 c.lead_symbols.result c.lead_symbols.ensures c.lead_run.new.run c.lead_run.ensures)
    c.read_pairs-read.ensures.decoded
