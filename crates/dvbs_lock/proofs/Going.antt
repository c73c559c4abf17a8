-- Step after step: what was taken, written and told so far, and at the end.
-- Assumes nothing.
use Rattle.std.specs.Prelude.{Option, None, is_some, IfSome}
use mathlib.Core.Path.{◌≡◌, refl, sym, ap, subst, ◌∙◌}
use mathlib.Core.Bool.{Bool, false}
use mathlib.Core.List.{List, [], ◌++◌, append_assoc, append-nil}
use Prim.Native.Nat.{ℕ, ◌+◌, ◌-◌, ◌≤◌, ◌<◌}
use native.Mathlib.Omega.{arith}
use lib.ListN.{length, take, drop, length-drop}
use lib.Seq.{take-take, take-add, length-take-le}
use Rattle.program_io.specs.Checksum.{traced}
use Rattle.program_io.specs.Files.{output_file, output_trace, output_failed, Writes}
use Rattle.program_io.specs.declared.output.Output.{Output}
use Rattle.program_io.specs.declared.trace.Trace.{Trace}
use Rattle.program_io.proofs.Traces.{traced_on, traced_more}
use Rattle.lock_stream.specs.Source.{came_of, steps_ahead, ends_ahead}
use Rattle.lock_stream.specs.Stream.{StreamReady, StreamSteps, StepsStream, StreamEnds, EndsStream, stepped, ending, ended}
use Rattle.lock_stream.specs.declared.LockStream.{LockStream}
use Rattle.lock_stream.specs.declared.StreamStep.{StreamStep}
use Rattle.lock_stream.specs.declared.StreamEnd.{StreamEnd}
use Rattle.dvbs_lock.specs.Ends.{Going, Ending}

-- ---- a step

module _ {s next : LockStream} {piece given told : List ℕ} {taken : ℕ} (t : StreamSteps s piece taken given told next) where
  pub step_within : taken ≤ length piece
  step_within = omega (arith, t.taken_is, t.source_steps.within)

  pub step_counted : came_of next.source ≡ came_of s.source + taken
  step_counted = ap came_of t.source_is ∙ t.source_steps.counted ∙ ap (λ (n : ℕ). came_of s.source + n) (sym t.taken_is)

  pub step_less : (left : ℕ) → steps_ahead next.source left < steps_ahead s.source (left + taken)
  step_less left = rw (t.source_is, t.taken_is) (t.source_steps.goes left)

  pub going_step : {bits : Bool} {rate : ℕ} {came : List ℕ} {output errors o e : Output} → Going bits rate came output errors s → Writes output given o → Writes errors told e
      → output_failed o ≡ false → output_failed e ≡ false → Going bits rate (came ++ take taken piece) o e next
  going_step g w v f h = record {
    packets = g.packets ++ given;
    text = g.text ++ told;
    steps = stepped piece given told taken g.steps t;
    written = traced_on g.packets given g.written (w.whole f);
    told = traced_on g.text told g.told (v.whole h);
  }

pub record Looping (output₀ errors₀ : Output) (s₀ : LockStream) (numbers : List ℕ) (output errors : Output) (s : LockStream) (at : ℕ) : Type 0 where
  pub within : at ≤ length numbers
  pub output_is : output_file output ≡ output_file output₀
  pub errors_are : output_file errors ≡ output_file errors₀
  pub ready : StreamReady s
  pub counted : came_of s.source ≡ came_of s₀.source + at
  pub goes : (bits : Bool) (rate : ℕ) (came : List ℕ) → Going bits rate came output₀ errors₀ s₀ → Going bits rate (came ++ take at numbers) output errors s

pub looping_none : (output errors : Output) (s : LockStream) (numbers : List ℕ) → StreamReady s → Looping output errors s numbers output errors s 0
looping_none output errors s numbers r = record {
  within = omega arith;
  output_is = refl;
  errors_are = refl;
  ready = r;
  counted = omega arith;
  goes = λ bits rate came g. subst (λ (l : List ℕ). Going bits rate l output errors s) (sym (append-nil came)) g;
}

-- the numbers from a place on
abbrev pub part_at : List ℕ → ℕ → List ℕ
part_at numbers at = take (length numbers - at) (drop at numbers)

pub part_length : (numbers : List ℕ) (at : ℕ) → length (part_at numbers at) ≡ length numbers - at
part_length numbers at = length-take-le (length numbers - at) (drop at numbers) (omega (arith, length-drop at numbers))

pub looping_more : {output₀ errors₀ output errors o e : Output} {s₀ s : LockStream} {numbers pk tx : List ℕ} {at : ℕ} {r : StreamStep} → Looping output₀ errors₀ s₀ numbers output errors s at
    → at ≤ length numbers → StepsStream s (part_at numbers at) r pk tx → Writes output (take r.packets pk) o → Writes errors (take r.text tx) e
    → output_failed o ≡ false → output_failed e ≡ false → Looping output₀ errors₀ s₀ numbers o e r.stream (at + r.taken)
looping_more {o = o} {e = e} {numbers = numbers} {at = at} {r = r} l h t w v f g =
    let k = step_within t.steps in
    let n = part_length numbers at in
    let m : take at numbers ++ take r.taken (part_at numbers at) ≡ take (at + r.taken) numbers
    = ap (λ (x : List ℕ). take at numbers ++ x) (take-take r.taken (length numbers - at) (drop at numbers) (omega (arith, k, n))) ∙ sym (take-add at r.taken numbers) in
    record {
      within = omega (arith, k, n);
      output_is = w.file ∙ l.output_is;
      errors_are = v.file ∙ l.errors_are;
      ready = t.ready;
      counted = omega (arith, step_counted t.steps, l.counted);
      goes = λ bits rate came x.
          subst (λ (y : List ℕ). Going bits rate y o e r.stream) (append_assoc came (take at numbers) (take r.taken (part_at numbers at)) ∙ ap (λ (y : List ℕ). came ++ y) m)
          (going_step t.steps (l.goes bits rate came x) w v f g);
    }

-- ---- the end

module _ {s next : LockStream} {over : Option ℕ} {given told : List ℕ} (t : StreamEnds s over given told next) where
  pub end_few : IfSome over (λ left. left < 1632)
  end_few = subst (λ (o : Option ℕ). IfSome o (λ left. left < 1632)) (sym t.over_is) t.source_ends.few

  pub end_less : over ≡ None → ends_ahead next.source < ends_ahead s.source
  end_less o = let g = t.source_ends.goes (ap (λ (x : Option ℕ). is_some x) (sym t.over_is ∙ o)) in rw t.source_is g

pub record Ended-so-far (output₀ errors₀ : Output) (s₀ : LockStream) (output errors : Output) (s : LockStream) : Type 0 where
  pub so_far : Ending s₀ None output₀ errors₀ output errors s
  pub output_is : output_file output ≡ output_file output₀
  pub errors_are : output_file errors ≡ output_file errors₀
  pub ready : StreamReady s

pub ended_none : (output errors : Output) (s : LockStream) → StreamReady s → Ended-so-far output errors s output errors s
ended_none output errors s r = record {
  so_far = record { packets = []; text = []; ends = ending; written = refl; told = refl };
  output_is = refl;
  errors_are = refl;
  ready = r;
}

pub ended_more : {output₀ errors₀ output errors o e : Output} {s₀ s : LockStream} {pk tx : List ℕ} {r : StreamEnd} → Ended-so-far output₀ errors₀ s₀ output errors s → EndsStream s r pk tx
    → Writes output (take r.packets pk) o → Writes errors (take r.text tx) e → output_failed o ≡ false → output_failed e ≡ false
    → Ending s₀ r.over output₀ errors₀ o e r.stream
ended_more {output₀} {errors₀} {pk = pk} {tx} {r} l t w v f g =
    let x = l.so_far in
    record {
      packets = x.packets ++ take r.packets pk;
      text = x.text ++ take r.text tx;
      ends = ended r.over (take r.packets pk) (take r.text tx) x.ends t.ends;
      written = w.whole f ∙ ap (λ (y : Trace). traced y (take r.packets pk)) x.written ∙ sym (traced_more (output_trace output₀) x.packets (take r.packets pk));
      told = v.whole g ∙ ap (λ (y : Trace). traced y (take r.text tx)) x.told ∙ sym (traced_more (output_trace errors₀) x.text (take r.text tx));
    }
