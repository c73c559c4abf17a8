-- `dvbs::dvbs_rs_decode` meets its contract.
-- Assumes nothing.
use mathlib.Core.Path.{refl}
use Rattle.dvbs.specs.Decode.{refused, decoded}
use borrow.Author.Tests.{eq-eqb, ne_eqb, lt-ltb, le-ltb}
use native.Mathlib.Omega.{arith}
use Rattle.dvbs.proofs.dvbs_rs_decode.Goals as goal

pub returns-then-block-ne204 : goal.returns-then-block-ne204
returns-then-block-ne204 c = refused (simp (ne_eqb _ _ c.if-block-ne204.true)) (omega arith) refl refl

pub returns-then-count-lt2 : goal.returns-then-count-lt2
returns-then-count-lt2 c = refused (simp (eq-eqb _ _ c.if-block-ne204.false, lt-ltb _ _ c.if-count-lt2.true)) (omega arith) refl refl

pub returns : goal.returns
returns c =
    let d = c.decode in
    decoded (simp (eq-eqb _ _ c.if-block-ne204.false, le-ltb _ _ c.if-count-lt2.false)) d.result d.ensures c.put_decoded.ensures.0
    c.put_decoded.ensures.1
