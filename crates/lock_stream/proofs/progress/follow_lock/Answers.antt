-- `lock_stream::progress::follow_lock` meets its contract.
-- Assumes nothing.
use mathlib.Core.Path.{refl}
use native.Mathlib.Omega.{arith}
use Rattle.lock_stream.specs.Progress.{lock_goes_on}
use Rattle.lock_stream.proofs.Taking.{more_counted}
use Rattle.lock_stream.proofs.progress.follow_lock.Goals as goal

pub take_block-taken-requires : goal.take_block-taken-requires
take_block-taken-requires c =
    (c.requires.0, more_counted c.args.progress c.args.block.begins c.requires.1, c.requires.2, omega (arith, c.requires.3))

pub returns : goal.returns
returns c =
    let t = c.take_block-taken in
    record {
      tells = lock_goes_on c.args.block t.ensures.lines t.result.receiver c.requires.1 t.ensures.takes t.ensures.told.text refl;
      packets_fit = t.ensures.fits;
      text_fits = omega (arith, t.ensures.told.bound);
      ready = t.ensures.ready;
    }
