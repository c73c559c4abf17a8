-- `pass::hand_on` meets its contract.
-- Assumes nothing.
use mathlib.Core.Path.{refl}
use Rattle.pass.specs.Pass.{written, kept}
use Rattle.pass.proofs.hand_on.Goals as goal

pub returns-then-wanted : goal.returns-then-wanted
returns-then-wanted c = written c.if-wanted.true c.write.ensures

pub returns : goal.returns
returns c = kept c.if-wanted.false refl
