-- `received_symbols::take_bytes` meets its contract.
-- Assumes nothing.
use mathlib.Core.Path.{sym, subst}
use mathlib.Core.Bool.{Bool}
use native.Mathlib.Omega.{arith}
use lib.ListN.{length}
use Rattle.received_symbols.specs.Pass.{TakesBytes}
use Rattle.received_symbols.proofs.Pieces.{as_soft, as_hard}
use Rattle.received_symbols.proofs.take_bytes.Goals as goal

pub take_points-requires : goal.take_points-requires
take_points-requires c =
    let e = c.if-soft.true in
    let n = length c.args.bytes.now in
    (c.requires.0, omega (arith, as_soft e n c.args.pairs.now 0 1 (omega (arith, c.requires.1))), c.requires.2, as_soft e n c.args.output.now 1632 4 c.requires.3)

pub returns-then-soft : goal.returns-then-soft
returns-then-soft c =
    let a = c.args in
    subst (λ (b : Bool). TakesBytes b a.stream a.bytes.now a.output.now c.take_points.result c.take_points.new.output) (sym c.if-soft.true) c.take_points.ensures

pub take_symbols-requires : goal.take_symbols-requires
take_symbols-requires c =
    let e = c.if-soft.false in
    let n = length c.args.bytes.now in
    (c.requires.0, omega (arith, as_hard e n c.args.pairs.now 0 1 (omega (arith, c.requires.1))), c.requires.2, as_hard e n c.args.output.now 1632 4 c.requires.3)

pub returns : goal.returns
returns c =
    let a = c.args in
    subst (λ (b : Bool). TakesBytes b a.stream a.bytes.now a.output.now c.take_symbols.result c.take_symbols.new.output) (sym c.if-soft.false) c.take_symbols.ensures
