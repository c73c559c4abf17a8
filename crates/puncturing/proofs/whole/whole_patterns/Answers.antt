-- `puncturing::whole::whole_patterns` meets its contract: the lists of crates/code_tables are those of the modes.
-- Assumes nothing.
use mathlib.Core.Path.{◌≡◌, sym, ap}
use native.Mathlib.Omega.{arith}
use Rattle.puncturing.specs.Mode.{mode_of}
use Rattle.puncturing.specs.Step.{pattern_length}
use Rattle.puncturing.specs.Run.{i_bits, q_bits}
use Rattle.puncturing.proofs.Rates.{asked, given}
use Rattle.puncturing.proofs.whole.whole_patterns.Goals as goal

pub patterns-requires : goal.patterns-requires
unfolding i_bits q_bits mode_of
patterns-requires c =
    let a = c.args in
    let g = c.requires in
    let e : a.rate ≡ 0 = omega arith in
    asked 0 a.rate 1 a.coded.now a.output.now a.from a.turns a.at e (sym (ap pattern_length e)) g.0 g.1 g.2 g.3

pub returns-in-0 : goal.returns-in-0
unfolding i_bits q_bits mode_of
returns-in-0 c =
    let a = c.args in
    let e : a.rate ≡ 0 = omega arith in
    given 0 a.rate 1 a.coded.now a.output.now _ a.from a.turns a.at _ e (sym (ap pattern_length e)) c.patterns.ensures

pub patterns-requires-in-1 : goal.patterns-requires-in-1
unfolding i_bits q_bits mode_of
patterns-requires-in-1 c =
    let a = c.args in
    let g = c.requires in
    let e : a.rate ≡ 1 = omega arith in
    asked 1 a.rate 4 a.coded.now a.output.now a.from a.turns a.at e (sym (ap pattern_length e)) g.0 g.1 g.2 g.3

pub returns-in-1 : goal.returns-in-1
unfolding i_bits q_bits mode_of
returns-in-1 c =
    let a = c.args in
    let e : a.rate ≡ 1 = omega arith in
    given 1 a.rate 4 a.coded.now a.output.now _ a.from a.turns a.at _ e (sym (ap pattern_length e)) c.patterns-in-1.ensures

pub patterns-requires-in-2 : goal.patterns-requires-in-2
unfolding i_bits q_bits mode_of
patterns-requires-in-2 c =
    let a = c.args in
    let g = c.requires in
    let e : a.rate ≡ 2 = omega arith in
    asked 2 a.rate 3 a.coded.now a.output.now a.from a.turns a.at e (sym (ap pattern_length e)) g.0 g.1 g.2 g.3

pub returns-in-2 : goal.returns-in-2
unfolding i_bits q_bits mode_of
returns-in-2 c =
    let a = c.args in
    let e : a.rate ≡ 2 = omega arith in
    given 2 a.rate 3 a.coded.now a.output.now _ a.from a.turns a.at _ e (sym (ap pattern_length e)) c.patterns-in-2.ensures

pub patterns-requires-in-3 : goal.patterns-requires-in-3
unfolding i_bits q_bits mode_of
patterns-requires-in-3 c =
    let a = c.args in
    let g = c.requires in
    let e : a.rate ≡ 3 = omega arith in
    asked 3 a.rate 5 a.coded.now a.output.now a.from a.turns a.at e (sym (ap pattern_length e)) g.0 g.1 g.2 g.3

pub returns-in-3 : goal.returns-in-3
unfolding i_bits q_bits mode_of
returns-in-3 c =
    let a = c.args in
    let e : a.rate ≡ 3 = omega arith in
    given 3 a.rate 5 a.coded.now a.output.now _ a.from a.turns a.at _ e (sym (ap pattern_length e)) c.patterns-in-3.ensures

pub patterns-requires-in_default : goal.patterns-requires-in_default
unfolding i_bits q_bits mode_of
patterns-requires-in_default c =
    let a = c.args in
    let g = c.requires in
    let e : a.rate ≡ 4 = omega arith in
    asked 4 a.rate 7 a.coded.now a.output.now a.from a.turns a.at e (sym (ap pattern_length e)) g.0 g.1 g.2 g.3

pub returns-in_default : goal.returns-in_default
unfolding i_bits q_bits mode_of
returns-in_default c =
    let a = c.args in
    let e : a.rate ≡ 4 = omega arith in
    given 4 a.rate 7 a.coded.now a.output.now _ a.from a.turns a.at _ e (sym (ap pattern_length e)) c.patterns-in_default.ensures
