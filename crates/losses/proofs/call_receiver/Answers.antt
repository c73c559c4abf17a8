-- `losses::call_receiver` meets its contract.
-- Assumes nothing.
use mathlib.Core.Path.{◌≡◌, sym, ap, ◌∙◌}
use Prim.Native.Nat.{ℕ}
use borrow.Author.Tests.{eqb-true}
use lib.ListN.{length, replicate}
use Rattle.common.proofs.Largest.{largest_none}
use borrow.Author.Rules.{rules}
use Rattle.losses.proofs.call_receiver.Goals as goal

pub receive_in_place-requires : goal.receive_in_place-requires
receive_in_place-requires c =
    let marks = c.args.receiver.now.marks in
    let held : length marks ≡ 1122 = search rules in
    let m = c.largest_of-most in
    (c.in_range-valid.ensures, λ z. largest_none marks (sym m.ensures ∙ eqb-true _ _ z) ∙ ap (λ (n : ℕ). replicate n 0) (held))
