-- `lock_stream::LockStream::step` meets its contract.
-- Assumes nothing.
use mathlib.Core.Path.{refl}
use Rattle.lock_stream.proofs.LockStream.step.Goals as goal

pub step-step-requires : goal.step-step-requires
step-step-requires c =
    (c.requires.0.source, c.requires.1, c.requires.2, c.requires.3)

pub tell-told-requires : goal.tell-told-requires
tell-told-requires c =
    (c.requires.0.receiver, c.step-step.ensures.known, c.requires.4, c.requires.5)

pub returns : goal.returns
returns c =
    let t = c.step-step in
    let w = c.tell-told in
    record {
      steps = record { step = t.result; source_steps = t.ensures; taken_is = refl; source_is = refl; tells = w.ensures.tells };
      packets_fit = w.ensures.packets_fit;
      text_fits = w.ensures.text_fits;
      ready = record { source = t.ensures.ready; receiver = w.ensures.ready };
    }
