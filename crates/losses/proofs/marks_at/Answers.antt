-- `losses::marks_at` meets its contract.
-- Assumes nothing.
use mathlib.Core.Path.{◌≡◌, sym, ap, ◌∙◌}
use mathlib.Core.List.{List, ◌++◌, append-nil}
use mathlib.Core.Logic.{◌⊎◌, inl, inr}
use Prim.Native.Nat.{ℕ, ◌+◌, ◌-◌, ◌≤◌}
use native.Mathlib.Omega.{arith}
use borrow.Author.Tests.{eqb-true}
use Rattle.std.proofs.lemmas.Bool.{eqb-false}
use lib.ListN.{length, take, drop, length-drop, drop_of_length-le}
use lib.Seq.{length-take-le, take-nil}
use Rattle.std.proofs.lemmas.List.{drop-replicate}
use Rattle.common.specs.Lists.{padded}
use Rattle.losses.specs.Block.{marks_front}
use Rattle.losses.proofs.Pieces.{part_is}
use borrow.Author.Rules.{rules}
use Rattle.losses.proofs.marks_at.Goals as goal

some_marks : (n at size : ℕ) → (n ≡ 0 → ⊥) → (n ≡ 0) ⊎ (at + size ≤ n) → at + size ≤ n
some_marks n at size f (inl e) = absurd (f e)
some_marks n at size f (inr h) = h

pub overflow_add-end : goal.overflow_add-end
overflow_add-end c =
    let enough : c.args.at + c.args.size ≤ length c.args.marks.now = some_marks (length c.args.marks.now) c.args.at c.args.size (eqb-false _ _ (sym c.is_empty.ensures ∙ c.if-is_empty.false)) c.requires.1 in
    let e = enough in search rules

pub joined-requires : goal.joined-requires
joined-requires c =
    let a = c.args in
    let enough : a.at + a.size ≤ length a.marks.now = some_marks (length a.marks.now) a.at a.size (eqb-false _ _ (sym c.is_empty.ensures ∙ c.if-is_empty.false)) c.requires.1 in
    let n : length (take a.size (drop a.at a.marks.now)) ≡ a.size = length-take-le a.size (drop a.at a.marks.now) (omega (arith, enough, length-drop a.at a.marks.now)) in
    omega (arith, ap length (part_is a.marks.now a.at a.size), n, c.requires.0)

pub returns-then-is_empty : goal.returns-then-is_empty
returns-then-is_empty c =
    let a = c.args in
    sym (ap (λ (l : List ℕ). marks_front (take a.size l)) (drop_of_length-le a.marks.now {i = a.at} (omega (arith, eqb-true (length a.marks.now) 0 (sym c.is_empty.ensures ∙ c.if-is_empty.true)))) ∙ ap marks_front (take-nil a.size))

pub returns : goal.returns
returns c =
    let a = c.args in
    c.joined.ensures
    ∙ ap (padded 204) (append-nil (take (a.at + a.size - a.at) (drop a.at a.marks.now)) ∙ part_is a.marks.now a.at a.size)
    ∙ ap (λ (l : List ℕ). take a.size (drop a.at a.marks.now) ++ l) (sym (drop-replicate (length (take a.size (drop a.at a.marks.now))) 204 0))
