-- `report_lines::read_number` meets its contract.
-- Assumes nothing.
use mathlib.Core.Path.{refl}
use native.Mathlib.Omega.{arith}
use Rattle.report_lines.proofs.Numbers.{none_left, none_first, none_first_large, number_first, none_end, number_found, none_other, none_zero, none_large, number_more}
use Rattle.report_lines.proofs.read_number.Goals as goal

pub returns-then-text-at : goal.returns-then-text-at
returns-then-text-at c =
    let a = c.args in
    none_left a.text.now a.at a.limit c.requires c.if-text-at.true

pub returns-in_err-value : goal.returns-in_err-value
returns-in_err-value c =
    let a = c.args in
    rw c.from_residual.ensures (none_first a.text.now a.at a.limit c.requires c.if-text-at.false 10 c.in_err-value.ensures.is (omega arith))

pub returns-then-limit-value : goal.returns-then-limit-value
returns-then-limit-value c =
    let a = c.args in
    none_first_large a.text.now a.at a.limit c.requires c.if-text-at.false c.in_ok-value.value c.in_ok-value.ensures.is (c.in_ok-value.ensures.small refl) c.if-limit-value.true

pub loop-i-init : goal.loop-i-init
loop-i-init c =
    let a = c.args in
    number_first a.text.now a.at a.limit c.requires c.if-text-at.false c.in_ok-value.value c.in_ok-value.ensures.is (c.in_ok-value.ensures.small refl) c.if-limit-value.false

pub returns-then-c-eq10 : goal.returns-then-c-eq10
returns-then-c-eq10 c =
    let a = c.args in
    let l = c.loop-i in
    number_found a.text.now a.at a.limit c.requires l.i l.value l.invariant c.loop-i-test.true c.if-c-eq10.true

pub returns-in_err-d : goal.returns-in_err-d
returns-in_err-d c =
    let a = c.args in
    let l = c.loop-i in
    rw c.from_residual-in_err-d.ensures (none_other a.text.now a.at a.limit c.requires l.i l.value l.invariant c.loop-i-test.true 10 c.in_err-d.ensures.is c.if-c-eq10.false (omega arith))

pub returns-then-value-eq0 : goal.returns-then-value-eq0
returns-then-value-eq0 c =
    let a = c.args in
    let l = c.loop-i in
    none_zero a.text.now a.at a.limit c.requires l.i l.value l.invariant c.loop-i-test.true c.in_ok-d.d c.in_ok-d.ensures.is (c.in_ok-d.ensures.small refl) c.if-value-eq0.true

pub returns-then-limit-value-2 : goal.returns-then-limit-value-2
returns-then-limit-value-2 c =
    let a = c.args in
    let l = c.loop-i in
    none_large a.text.now a.at a.limit c.requires l.i l.value l.invariant c.loop-i-test.true c.in_ok-d.d c.in_ok-d.ensures.is (c.in_ok-d.ensures.small refl) c.if-limit-value-2.true

pub loop-i-preserved : goal.loop-i-preserved
loop-i-preserved c =
    let a = c.args in
    let l = c.loop-i in
    number_more a.text.now a.at a.limit c.requires l.i l.value l.invariant c.loop-i-test.true c.in_ok-d.d c.in_ok-d.ensures.is (c.in_ok-d.ensures.small refl) c.if-value-eq0.false c.if-limit-value-2.false

pub returns : goal.returns
returns c =
    let a = c.args in
    let l = c.loop-i in
    none_end a.text.now a.at a.limit c.requires l.i l.value l.invariant c.loop-i-test.false
