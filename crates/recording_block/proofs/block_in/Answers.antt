-- `recording_block::block_in` meets its contract.
-- Assumes nothing.
use mathlib.Core.Path.{sym, ap, ◌∙◌}
use Rattle.recording_block.specs.Ends.{as_block}
use Rattle.recording_block.proofs.block_in.Goals as goal

pub returns-in-Number : goal.returns-in-Number
returns-in-Number c = sym (ap as_block (sym c.parse-parsed.ensures ∙ c.in-Number.is))

pub returns-in-Large : goal.returns-in-Large
returns-in-Large c = sym (ap as_block (sym c.parse-parsed.ensures ∙ c.in-Large.is))

pub returns-in-Malformed : goal.returns-in-Malformed
returns-in-Malformed c = sym (ap as_block (sym c.parse-parsed.ensures ∙ c.in-Malformed.is))
