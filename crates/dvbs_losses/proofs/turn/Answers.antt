-- `dvbs_losses::turn` meets its contract.
-- Assumes nothing.
use mathlib.Core.Path.{◌≡◌, refl, sym, subst, ◌∙◌}
use mathlib.Core.Bool.{true≢false}
use mathlib.Core.List.{List}
use Prim.Native.Nat.{ℕ}
use native.Mathlib.Omega.{arith}
use lib.ListN.{length}
use lib.Seq.{length-take-le}
use Rattle.answer.proofs.Positive.{number_not_zero}
use Rattle.program_io.specs.Files as files
use Rattle.dvbs_losses.specs.Ends.{marks_failed, output_failed_lem, mark_refused}
use Rattle.dvbs_losses.proofs.Turning.{fed_count, going_on, mark_bad}
use borrow.Author.Rules.{rules}
use Rattle.dvbs_losses.proofs.turn.Goals as goal

pub returns-then-failed : goal.returns-then-failed
returns-then-failed c =
    let f = c.fill-filled in
    record {
      marks_are = f.ensures.origin;
      output_is = refl;
      errors_are = refl;
      untold = λ e. refl;
      goes = λ bytes g e. absurd (true≢false e);
      stops = λ bytes g e. marks_failed (sym c.failed.ensures ∙ c.if-failed.true) refl refl;
    }

pub slice_bounds-own-end : goal.slice_bounds-own-end
slice_bounds-own-end c =
    let l : length c.fill-filled.new.buffer ≡ 204 = search rules in
    omega (arith, c.fill-filled.ensures.within, l)

pub slice_bounds-joined-end-2 : goal.slice_bounds-joined-end-2
slice_bounds-joined-end-2 c =
    let f = c.fill-filled in
    sym (length-take-le f.result.length f.new.buffer f.ensures.within)

pub joined-marked-requires : goal.joined-marked-requires
joined-marked-requires c =
    let f = c.fill-filled in
    let l : length f.new.buffer ≡ 204 = search rules in
    omega (arith, length-take-le f.result.length f.new.buffer f.ensures.within, f.ensures.within, l)

pub slice_bounds-feed-end : goal.slice_bounds-feed-end
slice_bounds-feed-end c = search (rules, c.well_formed.1.1.1.1.1.0.1.0.1)

pub returns-in_default : goal.returns-in_default
returns-in_default c =
    let f = c.fill-filled in
    let l : length f.new.buffer ≡ 204 = search rules in
    let n : length c.args.block ≡ 204 = c.well_formed.1.1.1.1.1.0.1.0.1 in
    record {
      marks_are = f.ensures.origin;
      output_is = refl;
      errors_are = c.write_text-errors.ensures.file;
      untold = λ e. absurd (true≢false e);
      goes = λ bytes g e. absurd (true≢false e);
      stops = λ bytes g e.
          mark_refused (mark_bad bytes c.args.block g n (l ∙ sym n) f.ensures c.joined-marked.ensures c.in_default.ensures refl (omega (arith, c.requires, n)) (number_not_zero _)) refl c.write_text-errors.ensures;
    }

pub put_list-end-requires : goal.put_list-end-requires
put_list-end-requires c =
    let d = c.feed in
    let l : length d.new.lines ≡ 8 = search rules in
    let k = fed_count c.in-Ok.ensures refl l in
    (omega (arith, k, l), omega (arith, k))

pub slice_bounds-text-end : goal.slice_bounds-text-end
slice_bounds-text-end c =
    let d = c.feed in
    let l : length d.new.lines ≡ 8 = search rules in
    let k = fed_count c.in-Ok.ensures refl l in
    omega (arith, c.put_list-end.ensures.bound, c.put_list-end.ensures.same, k)

pub returns : goal.returns
returns c =
    let f = c.fill-filled in
    let l : length f.new.buffer ≡ 204 = search rules in
    let n : length c.args.block ≡ 204 = c.well_formed.1.1.1.1.1.0.1.0.1 in
    let v = c.write-written in
    let p = c.put_list-end in
    record {
      marks_are = f.ensures.origin;
      output_is = v.ensures.file;
      errors_are = refl;
      untold = λ e. refl;
      goes = λ bytes g e.
          going_on bytes c.args.block g n (l ∙ sym n) f.ensures c.joined-marked.ensures c.in-Ok.ensures refl
          (subst (λ (x : List ℕ). files.Writes c.args.output x v.result) p.ensures.text v.ensures) (sym c.failed-failed.ensures ∙ e);
      stops = λ bytes g e. output_failed_lem (sym c.failed-failed.ensures ∙ e) refl;
    }
