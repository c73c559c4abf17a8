-- `lock_stream::progress::tell_lost` meets its contract.
-- Assumes nothing.
use mathlib.Core.Path.{refl}
use native.Mathlib.Omega.{arith}
use Rattle.lock_stream.specs.Progress.{lock_ends}
use Rattle.lock_stream.proofs.progress.tell_lost.Goals as goal

pub returns : goal.returns
returns c =
    let e = c.put_ending-size.ensures in
    λ packets. record { tells = lock_ends refl e.text refl; packets_fit = omega arith; text_fits = omega (arith, e.bound); ready = c.requires.0 }
