-- `dvbs_lock::status_of` meets its contract.
-- Assumes nothing.
use mathlib.Core.Path.{sym, ap}
use Rattle.dvbs_lock.specs.Ends.{status_of}
use Rattle.dvbs_lock.proofs.status_of.Goals as goal

pub returns-then-found : goal.returns-then-found
returns-then-found c =
    ap status_of (sym c.if-found.true)

pub returns : goal.returns
returns c =
    ap status_of (sym c.if-found.false)
