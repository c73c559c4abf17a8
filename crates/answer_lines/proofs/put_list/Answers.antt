-- `answer_lines::put_list` meets its contract.
-- Assumes nothing.
use mathlib.Core.Path.{◌≡◌, refl, subst}
use Prim.Native.Nat.{ℕ, ◌+◌, ◌*◌}
use native.Mathlib.Omega.{arith}
use lib.ListN.{take}
use Rattle.report_lines.specs.Line.{Appended}
use Rattle.answer_lines.specs.Lines.{list_text}
use Rattle.answer_lines.proofs.Lists.{listing_none, listing_more}
use Rattle.answer_lines.proofs.put_list.Goals as goal

pub loop-i-init : goal.loop-i-init
loop-i-init c =
    let a = c.args in
    (listing_none a.lines.now a.text.now a.at, omega arith)

pub bounds-lines-i : goal.bounds-lines-i
bounds-lines-i c = omega (arith, c.loop-i-test.true, c.requires.0)

pub put_entry-end-requires : goal.put_entry-end-requires
put_entry-end-requires c =
    let l = c.loop-i.invariant.0.appended in
    omega (arith, l.bound, l.same, c.loop-i-test.true, c.requires.1)

pub loop-i-preserved : goal.loop-i-preserved
loop-i-preserved c =
    let l = c.loop-i in
    (listing_more l.invariant.0 (omega (arith, c.loop-i-test.true, c.requires.0)) refl c.put_entry-end.ensures, omega (arith, c.loop-i-test.true))

pub shape_of-text : goal.shape_of-text
shape_of-text c = c.loop-i.invariant.0.appended.same

pub returns : goal.returns
returns c =
    let l = c.loop-i in
    let a = c.args in
    let e : l.i ≡ a.count = omega (arith, l.invariant.1, c.loop-i-test.false) in
    subst (λ (k : ℕ). Appended (list_text (take k a.lines.now)) a.text.now l.text a.at l.end (a.at + 64 * k)) e l.invariant.0.appended
