-- `lock_stream::LockStream::end_step` meets its contract.
-- Assumes nothing.
use mathlib.Core.Path.{refl}
use Rattle.lock_stream.proofs.LockStream.end_step.Goals as goal

pub end_step-step-requires : goal.end_step-step-requires
end_step-step-requires c =
    c.requires.0.source

pub tell-told-requires : goal.tell-told-requires
tell-told-requires c =
    (c.requires.0.receiver, c.end_step-step.ensures.known, c.requires.1, c.requires.2)

pub returns : goal.returns
returns c =
    let t = c.end_step-step in
    let w = c.tell-told in
    record {
      ends = record { end = t.result; source_ends = t.ensures; over_is = refl; source_is = refl; tells = w.ensures.tells };
      packets_fit = w.ensures.packets_fit;
      text_fits = w.ensures.text_fits;
      ready = record { source = t.ensures.ready; receiver = w.ensures.ready };
    }
