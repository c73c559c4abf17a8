-- `dvbs_lock::finish_stream` meets its contract.
-- Assumes nothing.
use mathlib.Core.Path.{refl, sym, ap, subst, ◌∙◌}
use mathlib.Core.Bool.{true≢false}
use Prim.{tt}
use Prim.Native.Nat.{ℕ, ◌≤◌, ◌<◌}
use Rattle.std.specs.Prelude.{Option, is_some, IfSome}
use native.Mathlib.Omega.{arith}
use lib.ListN.{length}
use lib.Seq.{length-take-le}
use Rattle.dvbs_lock.specs.Ends.{Ending, output_stopped, errors_stopped}
use Rattle.dvbs_lock.proofs.Going.{ended_none, ended_more, end_few, end_less}
use Rattle.dvbs_lock.proofs.finish_stream.Goals as goal

pub loop-over-init : goal.loop-over-init
loop-over-init c =
    (ended_none _ _ _ c.requires.0, refl, refl)

pub end_step-end-requires : goal.end_step-end-requires
end_step-end-requires c =
    let l = c.loop-over.invariant in
    (l.0.ready, omega (arith, l.1, c.requires.1), omega (arith, l.2, c.requires.2))

pub slice_bounds-write-end-in-loop-over : goal.slice_bounds-write-end-in-loop-over
slice_bounds-write-end-in-loop-over c =
    let packets_fit : c.end_step-end.result.packets ≤ length c.end_step-end.new.packets = omega (arith, c.end_step-end.ensures.packets_fit, c.end_step-end.auto.packets, c.loop-over.invariant.1, c.requires.1) in
    packets_fit

pub slice_bounds-write-end-in-loop-over-5 : goal.slice_bounds-write-end-in-loop-over-5
slice_bounds-write-end-in-loop-over-5 c =
    let text_fits : c.end_step-end.result.text ≤ length c.end_step-end.new.text = omega (arith, c.end_step-end.ensures.text_fits, c.end_step-end.auto.text, c.loop-over.invariant.2, c.requires.2) in
    sym (length-take-le _ _ (text_fits))

pub slice_bounds-write-end-in-loop-over-4 : goal.slice_bounds-write-end-in-loop-over-4
slice_bounds-write-end-in-loop-over-4 c =
    let text_fits : c.end_step-end.result.text ≤ length c.end_step-end.new.text = omega (arith, c.end_step-end.ensures.text_fits, c.end_step-end.auto.text, c.loop-over.invariant.2, c.requires.2) in
    text_fits

pub shape_of-packets-then-failed : goal.shape_of-packets-then-failed
shape_of-packets-then-failed c =
    c.end_step-end.auto.packets ∙ c.loop-over.invariant.1

pub shape_of-text-then-failed : goal.shape_of-text-then-failed
shape_of-text-then-failed c =
    c.end_step-end.auto.text ∙ c.loop-over.invariant.2

pub returns-then-failed : goal.returns-then-failed
returns-then-failed c =
    let l = c.loop-over.invariant.0 in
    let t = c.end_step-end.ensures in
    record {
      output_is = c.write-output.ensures.file ∙ l.output_is;
      errors_are = c.write-errors.ensures.file ∙ l.errors_are;
      stops = λ e. output_stopped (sym c.failed.ensures ∙ c.if-failed.true);
      ready = t.ready;
      few = tt;
      ending = λ left e. absurd (true≢false (ap (λ (x : Option ℕ). is_some x) (sym e)));
    }

pub shape_of-packets-then-failed-2 : goal.shape_of-packets-then-failed-2
shape_of-packets-then-failed-2 c =
    c.end_step-end.auto.packets ∙ c.loop-over.invariant.1

pub shape_of-text-then-failed-2 : goal.shape_of-text-then-failed-2
shape_of-text-then-failed-2 c =
    c.end_step-end.auto.text ∙ c.loop-over.invariant.2

pub returns-then-failed-2 : goal.returns-then-failed-2
returns-then-failed-2 c =
    let l = c.loop-over.invariant.0 in
    let t = c.end_step-end.ensures in
    record {
      output_is = c.write-output.ensures.file ∙ l.output_is;
      errors_are = c.write-errors.ensures.file ∙ l.errors_are;
      stops = λ e. errors_stopped (sym c.failed-in-loop-over.ensures ∙ c.if-failed-2.true);
      ready = t.ready;
      few = tt;
      ending = λ left e. absurd (true≢false (ap (λ (x : Option ℕ). is_some x) (sym e)));
    }

pub shape_of-packets-in-Some : goal.shape_of-packets-in-Some
shape_of-packets-in-Some c =
    c.end_step-end.auto.packets ∙ c.loop-over.invariant.1

pub shape_of-text-in-Some : goal.shape_of-text-in-Some
shape_of-text-in-Some c =
    c.end_step-end.auto.text ∙ c.loop-over.invariant.2

pub returns-in-Some : goal.returns-in-Some
returns-in-Some c =
    let s = c.args in
    let l = c.loop-over.invariant.0 in
    let t = c.end_step-end in
    let w = c.write-output in
    let v = c.write-errors in
    let x = ended_more l t.ensures w.ensures v.ensures (sym c.failed.ensures ∙ c.if-failed.false) (sym c.failed-in-loop-over.ensures ∙ c.if-failed-2.false) in
    record {
      output_is = w.ensures.file ∙ l.output_is;
      errors_are = v.ensures.file ∙ l.errors_are;
      stops = λ e. absurd (true≢false (ap (λ (x : Option ℕ). is_some x) e));
      ready = t.ensures.ready;
      few = subst (λ (o : Option ℕ). IfSome o (λ left. left < 1632)) c.in-Some.is (end_few t.ensures.ends);
      ending = λ left e. subst (λ (o : Option ℕ). Ending s.stream o s.output s.errors w.result v.result t.result.stream) (c.in-Some.is ∙ e) x;
    }

pub loop-over-smaller : goal.loop-over-smaller
loop-over-smaller c =
    end_less c.end_step-end.ensures.ends c.in-None.is

pub loop-over-preserved : goal.loop-over-preserved
loop-over-preserved c =
    let s = c.args in
    let l = c.loop-over.invariant in
    let t = c.end_step-end in
    let w = c.write-output in
    let v = c.write-errors in
    let x = ended_more l.0 t.ensures w.ensures v.ensures (sym c.failed.ensures ∙ c.if-failed.false) (sym c.failed-in-loop-over.ensures ∙ c.if-failed-2.false) in (
      record {
        so_far = subst (λ (o : Option ℕ). Ending s.stream o s.output s.errors w.result v.result t.result.stream) c.in-None.is x;
        output_is = w.ensures.file ∙ l.0.output_is;
        errors_are = v.ensures.file ∙ l.0.errors_are;
        ready = t.ensures.ready;
      },
      t.auto.packets ∙ l.1,
      t.auto.text ∙ l.2,
    )
