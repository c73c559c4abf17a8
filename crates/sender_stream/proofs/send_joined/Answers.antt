-- `sender_stream::send_joined` meets its contract.
-- Assumes nothing.
use mathlib.Core.Path.{◌≡◌, subst, ◌∙◌}
use mathlib.Core.List.{List, ◌++◌}
use Prim.Native.Nat.{ℕ}
use native.Mathlib.Omega.{arith}
use lib.ListN.{length, take, length-append}
use lib.Seq.{length-take-le}
use Rattle.answer.specs.Number.{given_or}
use Rattle.puncturing.specs.Mode.{mode_of}
use Rattle.sender.specs.Send.{Sends, sent_answer}
use Rattle.common.proofs.Padded.{padded_full}
use borrow.Author.Rules.{rules}
use Rattle.sender_stream.proofs.send_joined.Goals as goal

pub returns-clause-sends : goal.returns-clause-sends
returns-clause-sends c =
    let pending_size : length c.args.pending ≡ 188 = search rules in
    let r = c.send in
    let front = take c.args.held c.args.pending in
    let more = c.args.more.now in
    let size = padded_full 188 (front ++ more)
    (length-append front more ∙ omega (arith, c.requires, length-take-le c.args.held c.args.pending (omega (arith, c.requires, pending_size)))) in
    subst (λ (l : List ℕ). Sends mode_of c.args.sender l c.args.output.now (sent_answer r.result) (given_or 0 (λ s. s.count) r.result) (given_or c.args.sender (λ s. s.sender) r.result) r.new.output)
    (c.joined-packet.ensures ∙ size) r.ensures.sends
