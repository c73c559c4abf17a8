-- `recording::receive_run` meets its contract.
-- Assumes nothing.
use mathlib.Core.Path.{subst}
use Rattle.answer.specs.Number.{answered, given_or}
use Rattle.receiver.specs.declared.Receiver.{Receiver}
use Rattle.recording.specs.Recording.{ReceivesRecording}
use Rattle.recording.proofs.Returned.{returned}
use Rattle.recording.proofs.receive_run.Goals as goal

pub returns-clause-returns : goal.returns-clause-returns
returns-clause-returns c =
    let a = c.args in
    let k = c.receive_recording in
    returned a.bytes.now a.output.now _ _ (given_or c.new.result (λ r. r.receiver) k.result) k.new.output
    (subst (λ (s : Receiver). ReceivesRecording s a.bytes.now a.output.now (answered k.result) (given_or 0 (λ r. r.count) k.result) (given_or c.new.result (λ r. r.receiver) k.result) k.new.output)
    c.new.ensures k.ensures.receives)
