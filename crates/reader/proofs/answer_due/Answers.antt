-- `reader::answer_due` meets its contract.
-- Assumes nothing.
use Rattle.reader.proofs.Outcome.{bits_some, pattern_some, long}
use Rattle.reader.proofs.answer_due.Goals as goal

pub nonzero_rem-symbols : goal.nonzero_rem-symbols
nonzero_rem-symbols c = pattern_some c.args.rate c.args.memory c.args.symbols c.args.valid c.args.space c.if-rate-ge-QPSK_MODES.false c.if-memory-ge64.false c.pattern_length-bits.result c.symbol_count-pattern.result c.pattern_length-bits.ensures c.symbol_count-pattern.ensures

pub nonzero_div-patterns : goal.nonzero_div-patterns
nonzero_div-patterns c = pattern_some c.args.rate c.args.memory c.args.symbols c.args.valid c.args.space c.if-rate-ge-QPSK_MODES.false c.if-memory-ge64.false c.pattern_length-bits.result c.symbol_count-pattern.result c.pattern_length-bits.ensures c.symbol_count-pattern.ensures

pub nonzero_div-bits : goal.nonzero_div-bits
nonzero_div-bits c = bits_some c.args.rate c.args.memory c.args.symbols c.args.valid c.args.space c.if-rate-ge-QPSK_MODES.false c.if-memory-ge64.false c.pattern_length-bits.result c.symbol_count-pattern.result c.pattern_length-bits.ensures c.symbol_count-pattern.ensures

pub returns-then-patterns-bits : goal.returns-then-patterns-bits
returns-then-patterns-bits c = rw c.if-not-lists.false (long c.args.rate c.args.memory c.args.symbols c.args.valid c.args.space c.if-rate-ge-QPSK_MODES.false c.if-memory-ge64.false c.pattern_length-bits.result c.symbol_count-pattern.result c.pattern_length-bits.ensures c.symbol_count-pattern.ensures c.if-symbols-pattern-ne0.false c.if-patterns-bits.true)
