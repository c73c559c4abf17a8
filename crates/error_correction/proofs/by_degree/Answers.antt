-- `error_correction::by_degree` meets its contract: after d turns the marks of the first d degrees are stored.
-- Assumes nothing.
use mathlib.Core.Path.{sym, ◌∙◌}
use Prim.Native.Nat.{◌-◌}
use native.Mathlib.Omega.{arith}
use Rattle.common.proofs.Lists.{zeros_at}
use Rattle.error_correction.proofs.by_degree.Goals as goal

pub returns-then-count-eq0 : goal.returns-then-count-eq0
returns-then-count-eq0 c = record { each = λ d h. zeros_at 208 d ∙ sym ((c.requires.1 c.if-count-eq0.true).each (203 - d)); after = λ d h. zeros_at 208 d }

pub returns : goal.returns
returns c = record { each = λ d h. c.loop-d.invariant.done d (omega arith); after = λ d h. c.loop-d.invariant.todo d (omega arith) ∙ zeros_at 208 d }
