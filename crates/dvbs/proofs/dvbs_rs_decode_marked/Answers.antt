-- `dvbs::dvbs_rs_decode_marked` meets its contract.
-- Assumes nothing.
use mathlib.Core.Path.{◌≡◌, refl, sym, ◌∙◌}
use mathlib.Core.Bool.{true}
use borrow.Author.Tests.{eq-eqb, ne_eqb, lt-ltb, le-ltb}
use Rattle.reed_solomon.specs.Marks.{are_marks}
use Rattle.dvbs.specs.Decode.{refused, decoded}
use native.Mathlib.Omega.{arith}
use Rattle.dvbs.proofs.dvbs_rs_decode_marked.Goals as goal

pub returns-then-block-ne204 : goal.returns-then-block-ne204
returns-then-block-ne204 c = refused (simp (ne_eqb _ _ c.if-block-ne204.true)) (omega arith) refl refl

pub returns-then-not-are_marks : goal.returns-then-not-are_marks
returns-then-not-are_marks c = refused (simp (eq-eqb _ _ c.if-block-ne204.false, sym c.are_marks.ensures ∙ c.if-not-are_marks.true)) (omega arith) refl refl

pub returns-then-count-lt2 : goal.returns-then-count-lt2
returns-then-count-lt2 c =
    let marked : are_marks c.args.marks.now ≡ true = sym c.are_marks.ensures ∙ c.if-not-are_marks.false in
    refused (simp (eq-eqb _ _ c.if-block-ne204.false, marked, lt-ltb _ _ c.if-count-lt2.true)) (omega arith) refl refl

pub returns : goal.returns
returns c =
    let marked : are_marks c.args.marks.now ≡ true = sym c.are_marks.ensures ∙ c.if-not-are_marks.false in
    let d = c.decode_marked in
    decoded (simp (eq-eqb _ _ c.if-block-ne204.false, marked, le-ltb _ _ c.if-count-lt2.false)) d.result d.ensures
    c.put_decoded.ensures.0 c.put_decoded.ensures.1
