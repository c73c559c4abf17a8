-- `dvbs_receiver::layout::read_state` meets its contract.
-- Assumes nothing.
use native.Mathlib.Omega.{arith}
use lib.ListN.{get_or}
use Rattle.dvbs_receiver.specs.Reading.{state_of}
use Rattle.dvbs_receiver.proofs.layout.read_state.Goals as goal

pub overflow_cast-held : goal.overflow_cast-held
overflow_cast-held c = let h = (c.shared_slice_known-2-1.given 2730).fits in record { fits = omega (arith, h) }

pub returns : goal.returns
unfolding state_of
returns c =
    let bytes = c.args.bytes.now in
    λ i. record { receiver = c.read_state-receiver.ensures i; pending = c.array_at-pending.ensures i; marks = c.array_at-marks.ensures i; held = get_or bytes 2730 0 }
