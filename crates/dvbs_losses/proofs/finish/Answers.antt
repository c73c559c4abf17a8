-- `dvbs_losses::finish` meets its contract.
-- Assumes nothing.
use mathlib.Core.Path.{◌≡◌, refl, sym, ap, subst, ◌∙◌}
use mathlib.Core.List.{List, ◌++◌}
use Prim.Native.Nat.{ℕ}
use native.Mathlib.Omega.{arith}
use lib.ListN.{length, replicate}
use Rattle.losses.specs.Feed.{WritesLines, close_lines}
use Rattle.losses.proofs.Decisions.{told_count}
use Rattle.dvbs_losses.specs.Text.{rest_text}
use Rattle.dvbs_losses.specs.Ends.{whole, part, input_failed_lem, marks_failed, output_failed_lem}
use Rattle.dvbs_losses.proofs.Turning.{close_count, cut_of, finished}
use borrow.Author.Rules.{rules}
use Rattle.dvbs_losses.proofs.finish.Goals as goal

pub returns-then-failed : goal.returns-then-failed
returns-then-failed c =
    (part refl (input_failed_lem (sym c.failed.ensures ∙ c.if-failed.true) (cut_of c.requires.0.going) c.requires.1), refl, refl, refl, refl)

pub returns-then-failed-2 : goal.returns-then-failed-2
returns-then-failed-2 c =
    (part refl (marks_failed (sym c.failed-2.ensures ∙ c.if-failed-2.true) (cut_of c.requires.0.going) c.requires.1), refl, refl, refl, refl)

pub put_list-end-requires : goal.put_list-end-requires
put_list-end-requires c =
    let d = c.close in
    let l : length d.new.lines ≡ 8 = search rules in
    let k = close_count c.args.stream (subst (λ (n : ℕ). WritesLines (close_lines c.args.stream (replicate 8 0)) (replicate 8 0) n d.new.lines) (told_count d.result ∙ sym c.unwrap_or-count.ensures) d.ensures.1) l in
    (omega (arith, k, l), omega (arith, k))

pub put_line-size-requires : goal.put_line-size-requires
put_line-size-requires c =
    let d = c.close in
    let l : length d.new.lines ≡ 8 = search rules in
    let k = close_count c.args.stream (subst (λ (n : ℕ). WritesLines (close_lines c.args.stream (replicate 8 0)) (replicate 8 0) n d.new.lines) (told_count d.result ∙ sym c.unwrap_or-count.ensures) d.ensures.1) l in
    omega (arith, c.put_list-end.ensures.bound, c.put_list-end.ensures.same, k)

pub slice_bounds-text-end : goal.slice_bounds-text-end
slice_bounds-text-end c =
    let d = c.close in
    let p = c.put_list-end in
    let l : length d.new.lines ≡ 8 = search rules in
    let k = close_count c.args.stream (subst (λ (n : ℕ). WritesLines (close_lines c.args.stream (replicate 8 0)) (replicate 8 0) n d.new.lines) (told_count d.result ∙ sym c.unwrap_or-count.ensures) d.ensures.1) l in
    omega (arith, c.put_line-size.ensures.bound, c.put_line-size.ensures.same, p.ensures.bound, p.ensures.same, k)

pub returns-then-failed-3 : goal.returns-then-failed-3
returns-then-failed-3 c =
    (part refl (output_failed_lem (sym c.failed-3.ensures ∙ c.if-failed-3.true) c.requires.1), refl, refl, c.close-output.ensures.file ∙ c.write_text-written.ensures.file, refl)

pub returns : goal.returns
returns c =
    let d = c.close in
    let p = c.put_list-end in
    let q = c.put_line-size in
    let u = sym c.failed.ensures ∙ c.if-failed.false in
    let v = sym c.failed-3.ensures ∙ c.if-failed-3.false in
    let m = sym c.failed-2.ensures ∙ c.if-failed-2.false in
    (whole refl (finished c.requires.0 u m (subst (λ (n : ℕ). WritesLines (close_lines c.args.stream (replicate 8 0)) (replicate 8 0) n d.new.lines) (told_count d.result ∙ sym c.unwrap_or-count.ensures) d.ensures.1) refl (q.ensures.text ∙ ap (λ (x : List ℕ). x ++ rest_text c.args.rest) p.ensures.text) c.write_text-written.ensures c.close-output.ensures v c.requires.1 _), refl, refl, c.close-output.ensures.file ∙ c.write_text-written.ensures.file, refl)
