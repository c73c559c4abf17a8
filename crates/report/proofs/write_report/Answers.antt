-- `report::write_report` meets its contract.
-- Assumes nothing.
use mathlib.Core.Path.{◌≡◌, refl, sym, ap, ◌∙◌}
use mathlib.Core.Bool.{true, false}
use mathlib.Core.List.{List, ◌++◌}
use Prim.Native.Nat.{ℕ, ◌+◌, ◌≤◌}
use native.Mathlib.Omega.{arith}
use lib.ListN.{length, take, drop}
use borrow.Author.Tests.{lt-ltb, le-ltb}
use native.Mathlib.Nat.{zero-add}
use lib.Seq.{length-take-le}
use Rattle.report.specs.Text.{fits, sums, report_text}
use Rattle.report.proofs.write_report.Goals as goal

pub returns-then-not-report_fits : goal.returns-then-not-report_fits
returns-then-not-report_fits c =
    let f : fits c.args.report ≡ false = sym c.report_fits.ensures ∙ c.if-not-report_fits.true in
    simp f (record { number_is = refl; size_is = refl; output_is = refl })

pub sums_right-requires : goal.sums_right-requires
sums_right-requires c = sym c.report_fits.ensures ∙ c.if-not-report_fits.false

pub returns-then-not-sums_right : goal.returns-then-not-sums_right
returns-then-not-sums_right c =
    let a = c.args in
    let f : fits a.report ≡ true = sym c.report_fits.ensures ∙ c.if-not-report_fits.false in
    let g : sums a.report ≡ false = sym c.sums_right.ensures ∙ c.if-not-sums_right.true in
    simp (f, g) (record { number_is = refl; size_is = refl; output_is = refl })

pub returns-then-output-n : goal.returns-then-output-n
returns-then-output-n c =
    let size : let a = c.args in
    (c.compose-n.result ≡ length (report_text a.report)) × (c.compose-n.result ≤ length c.compose-n.new.text) = let e = c.compose-n.ensures in
    let l : length c.compose-n.new.text ≡ 320 = e.same in
    (e.place ∙ zero-add _, omega (arith, e.bound)) in
    let a = c.args in
    let f : fits a.report ≡ true = sym c.report_fits.ensures ∙ c.if-not-report_fits.false in
    let g : sums a.report ≡ true = sym c.sums_right.ensures ∙ c.if-not-sums_right.false in
    let n = (size).0 in
    simp (f, g, lt-ltb (length a.output.now) (length (report_text a.report)) (omega (arith, c.if-output-n.true))) (record { number_is = refl; size_is = refl; output_is = refl })

pub slice_bounds-put-end : goal.slice_bounds-put-end
slice_bounds-put-end c =
    let size : let a = c.args in
    (c.compose-n.result ≡ length (report_text a.report)) × (c.compose-n.result ≤ length c.compose-n.new.text) = let e = c.compose-n.ensures in
    let l : length c.compose-n.new.text ≡ 320 = e.same in
    (e.place ∙ zero-add _, omega (arith, e.bound)) in
    sym (length-take-le _ _ (size).1)

pub put-requires : goal.put-requires
put-requires c =
    let size : let a = c.args in
    (c.compose-n.result ≡ length (report_text a.report)) × (c.compose-n.result ≤ length c.compose-n.new.text) = let e = c.compose-n.ensures in
    let l : length c.compose-n.new.text ≡ 320 = e.same in
    (e.place ∙ zero-add _, omega (arith, e.bound)) in
    let l : length (take c.compose-n.result c.compose-n.new.text) ≡ c.compose-n.result = length-take-le _ _ (size).1 in
    omega (arith, c.if-output-n.false)

pub returns : goal.returns
returns c =
    let size : let a = c.args in
    (c.compose-n.result ≡ length (report_text a.report)) × (c.compose-n.result ≤ length c.compose-n.new.text) = let e = c.compose-n.ensures in
    let l : length c.compose-n.new.text ≡ 320 = e.same in
    (e.place ∙ zero-add _, omega (arith, e.bound)) in
    let a = c.args in
    let f : fits a.report ≡ true = sym c.report_fits.ensures ∙ c.if-not-report_fits.false in
    let g : sums a.report ≡ true = sym c.sums_right.ensures ∙ c.if-not-sums_right.false in
    let n = (size).0 in
    let t : take c.compose-n.result c.compose-n.new.text ≡ report_text a.report = c.compose-n.ensures.text in
    simp (f, g, le-ltb (length a.output.now) (length (report_text a.report)) (omega (arith, c.if-output-n.false))) (record {
      number_is = refl;
      size_is = n;
      output_is = c.put.ensures ∙ ap (λ (l : List ℕ). take 0 a.output.now ++ l ++ drop (0 + length l) a.output.now) t;
    })
