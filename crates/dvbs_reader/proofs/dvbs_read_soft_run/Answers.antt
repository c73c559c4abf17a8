-- `dvbs_reader::dvbs_read_soft_run` meets its contract.
-- Assumes nothing.
use mathlib.Core.Path.{refl}
use Rattle.dvbs_reader.specs.ReadRun.{result_short, answered}
use Rattle.dvbs_reader.proofs.dvbs_read_soft_run.Goals as goal

pub returns-then-res-lt6 : goal.returns-then-res-lt6
returns-then-res-lt6 c = result_short c.if-res-lt6.true refl refl refl

pub returns : goal.returns
returns c = rw c.put_read.ensures.counted (answered c.if-res-lt6.false _ _ _ c.read_soft_run.ensures c.put_read.ensures.written)
