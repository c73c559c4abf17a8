-- `block_sync::polarity` meets its contract.
-- Assumes nothing.
use Rattle.block_sync.proofs.Tests.{polarity_short, polarity_not, polarity_all}
use Rattle.block_sync.proofs.polarity.Goals as goal

pub returns-then-bits-at : goal.returns-then-bits-at
returns-then-bits-at c = polarity_short _ _ _ c.if-bits-at.true

pub returns-then-plain-inverted-ne3 : goal.returns-then-plain-inverted-ne3
returns-then-plain-inverted-ne3 c = polarity_not _ _ _ _ _ c.if-bits-at.false c.three_at-plain.ensures.0 c.three_at-inverted.ensures.0 c.if-plain-inverted-ne3.true

pub returns : goal.returns
returns c = polarity_all _ _ _ _ _ c.if-bits-at.false c.three_at-plain.ensures.0 c.three_at-inverted.ensures.0 c.if-plain-inverted-ne3.false
