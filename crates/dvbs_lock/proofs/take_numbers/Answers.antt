-- `dvbs_lock::take_numbers` meets its contract.
-- Assumes nothing.
use mathlib.Core.Path.{◌≡◌, refl, sym, subst, ◌∙◌}
use mathlib.Core.List.{List, ◌++◌}
use mathlib.Core.Bool.{true≢false}
use Prim.Native.Nat.{ℕ, ◌+◌, ◌-◌, ◌≤◌, ◌<◌}
use native.Mathlib.Omega.{arith}
use lib.ListN.{length}
use lib.Seq.{length-take-le, take-length}
use Rattle.reader_stream.proofs.Runs.{all_take, all_drop}
use Rattle.program_io.specs.declared.output.Output.{Output}
use Rattle.lock_stream.specs.Source.{steps_ahead}
use Rattle.lock_stream.specs.declared.LockStream.{LockStream}
use Rattle.dvbs_lock.specs.Ends.{Going, output_stopped, errors_stopped}
use Rattle.dvbs_lock.proofs.Going.{Looping, looping_none, looping_more, step_within, step_less, part_at, part_length}
use Rattle.dvbs_lock.proofs.take_numbers.Goals as goal

less : {m : ℕ} (at taken size : ℕ) → at + taken ≤ size → (f : ℕ → ℕ) → m < f (size - (at + taken) + taken) → m < f (size - at)
less {m} at taken size h f g = let e : size - (at + taken) + taken ≡ size - at = omega arith in subst (λ (i : ℕ). m < f i) e g

taken_all : {output₀ errors₀ output errors : Output} {s₀ s : LockStream} {numbers : List ℕ} {at : ℕ} → at ≡ length numbers → Looping output₀ errors₀ s₀ numbers output errors s at
    → Looping output₀ errors₀ s₀ numbers output errors s (length numbers)
taken_all {output₀} {errors₀} {output} {errors} {s₀} {s} {numbers} e l = subst (λ (i : ℕ). Looping output₀ errors₀ s₀ numbers output errors s i) e l

pub loop-at-init : goal.loop-at-init
loop-at-init c =
    (looping_none _ _ _ _ c.requires.0, refl, refl)

pub slice_bounds-step-count : goal.slice_bounds-step-count
slice_bounds-step-count c =
    omega (arith, c.loop-at-test.true)

pub slice_bounds-step-start : goal.slice_bounds-step-start
slice_bounds-step-start c =
    omega (arith, c.loop-at-test.true)

pub slice_bounds-step-end : goal.slice_bounds-step-end
slice_bounds-step-end c =
    omega (arith, c.loop-at-test.true)

pub step-step-requires : goal.step-step-requires
step-step-requires c =
    let l = c.loop-at in
    let n = c.args.numbers.now in
    let k = part_length n l.at in
    (l.invariant.0.ready, all_take (length n - l.at) _ (all_drop l.at n c.requires.1), omega (arith, k, c.loop-at-test.true), omega (arith, k, l.invariant.0.counted, l.invariant.0.within, c.requires.2), omega (arith, l.invariant.1, c.requires.3), omega (arith, l.invariant.2, c.requires.4))

pub slice_bounds-write-end-in-loop-at : goal.slice_bounds-write-end-in-loop-at
slice_bounds-write-end-in-loop-at c =
    let packets_fit : c.step-step.result.packets ≤ length c.step-step.new.packets = omega (arith, c.step-step.ensures.packets_fit, c.step-step.auto.packets, c.loop-at.invariant.1, c.requires.3) in
    packets_fit

pub slice_bounds-write-end-in-loop-at-5 : goal.slice_bounds-write-end-in-loop-at-5
slice_bounds-write-end-in-loop-at-5 c =
    let text_fits : c.step-step.result.text ≤ length c.step-step.new.text = omega (arith, c.step-step.ensures.text_fits, c.step-step.auto.text, c.loop-at.invariant.2, c.requires.4) in
    sym (length-take-le _ _ (text_fits))

pub slice_bounds-write-end-in-loop-at-4 : goal.slice_bounds-write-end-in-loop-at-4
slice_bounds-write-end-in-loop-at-4 c =
    let text_fits : c.step-step.result.text ≤ length c.step-step.new.text = omega (arith, c.step-step.ensures.text_fits, c.step-step.auto.text, c.loop-at.invariant.2, c.requires.4) in
    text_fits

pub shape_of-packets-then-failed : goal.shape_of-packets-then-failed
shape_of-packets-then-failed c =
    c.step-step.auto.packets ∙ c.loop-at.invariant.1

pub shape_of-text-then-failed : goal.shape_of-text-then-failed
shape_of-text-then-failed c =
    c.step-step.auto.text ∙ c.loop-at.invariant.2

pub returns-then-failed : goal.returns-then-failed
returns-then-failed c =
    let l = c.loop-at.invariant.0 in
    record {
      output_is = c.write-output.ensures.file ∙ l.output_is;
      errors_are = c.write-errors.ensures.file ∙ l.errors_are;
      stops = λ e. output_stopped (sym c.failed.ensures ∙ c.if-failed.true);
      ready = c.step-step.ensures.ready;
      counted = λ e. absurd (true≢false e);
      goes = λ e. absurd (true≢false e);
    }

pub shape_of-packets-then-failed-2 : goal.shape_of-packets-then-failed-2
shape_of-packets-then-failed-2 c =
    c.step-step.auto.packets ∙ c.loop-at.invariant.1

pub shape_of-text-then-failed-2 : goal.shape_of-text-then-failed-2
shape_of-text-then-failed-2 c =
    c.step-step.auto.text ∙ c.loop-at.invariant.2

pub returns-then-failed-2 : goal.returns-then-failed-2
returns-then-failed-2 c =
    let l = c.loop-at.invariant.0 in
    record {
      output_is = c.write-output.ensures.file ∙ l.output_is;
      errors_are = c.write-errors.ensures.file ∙ l.errors_are;
      stops = λ e. errors_stopped (sym c.failed-in-loop-at.ensures ∙ c.if-failed-2.true);
      ready = c.step-step.ensures.ready;
      counted = λ e. absurd (true≢false e);
      goes = λ e. absurd (true≢false e);
    }

pub overflow_add-at : goal.overflow_add-at
overflow_add-at c =
    let n = c.args.numbers.now in
    let l = c.loop-at in
    let k : c.step-step.result.taken ≤ length (part_at n l.at) = step_within c.step-step.ensures.steps in
    omega (arith, k, part_length n l.at, l.invariant.0.within, c.requires.2)

pub loop-at-smaller : goal.loop-at-smaller
loop-at-smaller c =
    let t = c.step-step in
    let l = c.loop-at in
    let n = c.args.numbers.now in
    let k : t.result.taken ≤ length (part_at n l.at) = step_within t.ensures.steps in
    less l.at t.result.taken (length n) (omega (arith, k, part_length n l.at, l.invariant.0.within)) (λ (i : ℕ). steps_ahead l.stream.source i) (step_less t.ensures.steps (length n - (l.at + t.result.taken)))

pub loop-at-preserved : goal.loop-at-preserved
loop-at-preserved c =
    let t = c.step-step in
    let l = c.loop-at in
    (looping_more l.invariant.0 l.invariant.0.within t.ensures c.write-output.ensures c.write-errors.ensures (sym c.failed.ensures ∙ c.if-failed.false) (sym c.failed-in-loop-at.ensures ∙ c.if-failed-2.false), t.auto.packets ∙ l.invariant.1, t.auto.text ∙ l.invariant.2)

pub shape_of-packets : goal.shape_of-packets
shape_of-packets c =
    c.loop-at.invariant.1

pub shape_of-text : goal.shape_of-text
shape_of-text c =
    c.loop-at.invariant.2

pub returns : goal.returns
returns c =
    let l = c.loop-at in
    let n = c.args.numbers.now in
    let e : l.at ≡ length n = omega (arith, l.invariant.0.within, c.loop-at-test.false) in
    let k = taken_all e l.invariant.0 in
    record {
      output_is = k.output_is;
      errors_are = k.errors_are;
      stops = λ e. absurd (true≢false (sym e));
      ready = k.ready;
      counted = λ e. k.counted;
      goes = λ e bits rate came g. subst (λ (x : List ℕ). Going bits rate (came ++ x) l.output l.errors l.stream) (take-length n) (k.goes bits rate came g);
    }
