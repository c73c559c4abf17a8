-- `dvbs_reader_stream::layout::power_of` meets its contract.
-- Assumes nothing.
use mathlib.Core.Path.{refl}
use Rattle.dvbs_reader_stream.specs.State.{power_of}
use Rattle.dvbs_reader_stream.proofs.States.{some_power}
use Rattle.dvbs_reader_stream.proofs.layout.power_of.Goals as goal

pub returns : goal.returns
unfolding power_of
returns c = (refl, some_power c.args.bits c.requires)
