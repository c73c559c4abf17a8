-- `receiver::Receiver::receive_marked` meets its contract.
-- Assumes nothing.
use mathlib.Core.Path.{◌≡◌, sym, ap, ◌∙◌, subst}
use Prim.Native.Nat.{ℕ}
use borrow.Author.Tests.{eqb-true}
use lib.ListN.{length, replicate}
use Rattle.std.proofs.lemmas.Result.{err_from_is_err_and}
use Rattle.common.proofs.Largest.{largest_none}
use Rattle.answer.specs.Number.{number_of}
use Rattle.receiver.specs.Receive.{ReceivesMarked}
use Rattle.receiver.specs.declared.Receiver.{Receiver}
use Rattle.receiver.proofs.Calls.{parts_range}
use borrow.Author.Rules.{rules}
use Rattle.receiver.proofs.Receiver.receive_marked.Goals as goal

pub receive_in_place-requires : goal.receive_in_place-requires
receive_in_place-requires c =
    let held : length c.args.self.marks ≡ 1122 = search rules in
    let m = c.largest_of-most in (
      parts_range c.args.self _ _ m.ensures c.parts_in_range-valid.ensures,
      λ z. largest_none c.args.self.marks (sym m.ensures ∙ eqb-true _ _ z) ∙ ap (λ (n : ℕ). replicate n 0) (held),
    )

pub returns-in_err-outcome : goal.returns-in_err-outcome
returns-in_err-outcome c =
    let a = c.args in
    let e = c.in_err-outcome.ensures in
    let p = err_from_is_err_and c.from_residual.result c.from_residual.ensures.1 in
    rw (p.1, p.2)
    (subst (λ (s : Receiver). ReceivesMarked a.self a.block.now a.marks.now a.output.now (number_of c.in_err-outcome.field-0.0) s c.receive_in_place.new.output) e.refused e.received)
