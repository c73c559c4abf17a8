-- `acquisition::Acquisition::new` meets its contract.
-- Assumes nothing.
use Rattle.acquisition.proofs.Ready.{searching_ready}
use Rattle.acquisition.specs.Step.{fresh_acquisition, AcquisitionReady}
use native.Mathlib.Omega.{arith}
use mathlib.Core.List.{[]}
use mathlib.Core.Bool.{false}
use mathlib.Core.Path.{sym, subst}
use Rattle.acquisition.proofs.Acquisition.new.Goals as goal

pub returns : goal.returns
unfolding fresh_acquisition
returns c = let e = c.searching_on.ensures in (e, subst AcquisitionReady (sym e) (searching_ready c.args.rate false [] 0 c.requires (omega arith) tt (omega arith) (omega arith)))
