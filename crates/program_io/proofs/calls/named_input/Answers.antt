-- `program_io::calls::named_input` meets its contract.
-- Assumes nothing.
use Rattle.std.proofs.Common.{sym, ◌∙◌}
use Rattle.program_io.specs.Calls.{without, named}
use Rattle.program_io.proofs.calls.named_input.Goals as goal

pub returns-then-count-eq0 : goal.returns-then-count-eq0
returns-then-count-eq0 c = without (sym c.count.ensures ∙ c.if-count-eq0.true) c.none.ensures

pub returns : goal.returns
returns c = named (λ e. c.if-count-eq0.false (c.count.ensures ∙ e)) c.«open».ensures
