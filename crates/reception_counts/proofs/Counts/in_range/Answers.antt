-- `reception_counts::Counts::in_range` meets its contract.
-- Assumes nothing.
use mathlib.Core.Path.{◌≡◌, sym, ◌∙◌}
use mathlib.Core.Bool.{Bool, true, false}
use Prim.Native.Nat.{◌*◌, ◌≤◌}
use native.Mathlib.Omega.{arith}
use borrow.Author.Tests.{eq-eqb, ne_eqb, le-leb, lt-leb}
use lib.Dec.{leb}
use Rattle.common.specs.Choice.{pick}
use Rattle.reception_counts.specs.Counts.{accepted_blocks, counts_in_range}
use Rattle.reception_counts.proofs.Ranges.{sum_fails}
use Rattle.reception_counts.proofs.Counts.in_range.Goals as goal

pub returns-then-taken-gt-MOST : goal.returns-then-taken-gt-MOST
unfolding counts_in_range
returns-then-taken-gt-MOST c = simp (lt-leb _ _ c.if-taken-gt-MOST.true)

pub returns-then-filling-taken : goal.returns-then-filling-taken
returns-then-filling-taken c = sum_fails _ (λ e. omega arith) (omega arith)

pub returns-then-delivered-taken : goal.returns-then-delivered-taken
returns-then-delivered-taken c = sum_fails _ (λ e. omega arith) (omega arith)

pub returns-then-lost-taken : goal.returns-then-lost-taken
returns-then-lost-taken c = sum_fails _ (λ e. omega arith) (omega arith)

pub returns-then-waiting-taken : goal.returns-then-waiting-taken
returns-then-waiting-taken c = sum_fails _ (λ e. omega arith) (omega arith)

pub returns-then-outofstep-taken : goal.returns-then-outofstep-taken
returns-then-outofstep-taken c = sum_fails _ (λ e. omega arith) (omega arith)

pub returns-then-filling-delivered : goal.returns-then-filling-delivered
returns-then-filling-delivered c = sum_fails _ (λ e. c.if-filling-delivered.true (e)) (omega arith)

pub returns-then-filling-min : goal.returns-then-filling-min
unfolding counts_in_range
returns-then-filling-min c =
    let h : c.args.self.taken ≤ 4294967295 = omega arith in
    simp (le-leb _ _ h, eq-eqb _ _ c.if-filling-delivered.false, ne_eqb _ _ (λ e. c.if-filling-min.true (e ∙ sym c.min.ensures)))

pub returns-then-changed-delivered : goal.returns-then-changed-delivered
unfolding counts_in_range
returns-then-changed-delivered c =
    let changes_left : let n = c.args.self in
    counts_in_range n ≡ pick (leb n.changed (16 * accepted_blocks n)) (pick (leb n.changed n.bits) (leb n.bits (8 * n.changed)) false) false = let h : c.args.self.taken ≤ 4294967295 = omega arith in
    simp (le-leb _ _ h, eq-eqb _ _ c.if-filling-delivered.false, eq-eqb _ _ (c.if-filling-min.false ∙ c.min.ensures)) in
    sym (changes_left ∙ simp (lt-leb _ _ c.if-changed-delivered.true))

pub returns-then-changed-bits : goal.returns-then-changed-bits
unfolding counts_in_range
returns-then-changed-bits c =
    let changes_left : let n = c.args.self in
    counts_in_range n ≡ pick (leb n.changed (16 * accepted_blocks n)) (pick (leb n.changed n.bits) (leb n.bits (8 * n.changed)) false) false = let h : c.args.self.taken ≤ 4294967295 = omega arith in
    simp (le-leb _ _ h, eq-eqb _ _ c.if-filling-delivered.false, eq-eqb _ _ (c.if-filling-min.false ∙ c.min.ensures)) in
    sym (changes_left ∙ simp (le-leb _ _ c.if-changed-delivered.false, lt-leb _ _ c.if-changed-bits.true))

last-test : {a b t : Bool} → a ≡ true → b ≡ true → pick a (pick b t false) false ≡ t
last-test e f = simp (e, f)

pub returns : goal.returns
unfolding counts_in_range
returns c =
    let changes_left : let n = c.args.self in
    counts_in_range n ≡ pick (leb n.changed (16 * accepted_blocks n)) (pick (leb n.changed n.bits) (leb n.bits (8 * n.changed)) false) false = let h : c.args.self.taken ≤ 4294967295 = omega arith in
    simp (le-leb _ _ h, eq-eqb _ _ c.if-filling-delivered.false, eq-eqb _ _ (c.if-filling-min.false ∙ c.min.ensures)) in
    sym (changes_left ∙ last-test (le-leb _ _ c.if-changed-delivered.false) (le-leb _ _ c.if-changed-bits.false))
