-- `dvbs_lock::finish` meets its contract.
-- Assumes nothing.
use mathlib.Core.Path.{◌≡◌, refl, sym, subst, ◌∙◌}
use Rattle.std.specs.Prelude.{Option, IfSome}
use mir.Syntax.{w32}
use mir.Val.{to_z, of_z}
use Prim.Native.Nat.{ℕ, ◌≤◌, ◌<◌}
use native.Mathlib.Omega.{arith}
use lib.ListN.{length}
use Rattle.dvbs_lock.specs.Ends.{input_failed_lem, output_failed_lem, errors_failed, whole, part}
use Rattle.dvbs_lock.proofs.Endings.{files_on, stopped, whole_run}
use borrow.Author.Rules.{rules}
use Rattle.dvbs_lock.proofs.finish.Goals as goal

pub returns-then-failed : goal.returns-then-failed
returns-then-failed c =
    let a = c.requires.1 in
    record {
      files = c.requires.0;
      status = part refl (input_failed_lem (sym c.failed.ensures ∙ c.if-failed.true) (record { came = _; stream = c.args.stream; going = a.going }));
    }

pub finish_stream-finished-requires : goal.finish_stream-finished-requires
finish_stream-finished-requires c =
    (c.requires.1.ready, c.requires.2, c.requires.3)

pub returns-in_default : goal.returns-in_default
returns-in_default c =
    let f = c.finish_stream-finished.ensures in
    record { files = files_on c.requires.0 refl f.output_is f.errors_are; status = part refl (stopped (f.stops c.in_default.is)) }

pub returns-then-failed-2 : goal.returns-then-failed-2
returns-then-failed-2 c =
    let f = c.finish_stream-finished.ensures in
    record { files = files_on c.requires.0 refl (c.close-output.ensures.file ∙ f.output_is) f.errors_are; status = part refl (output_failed_lem (sym c.failed-2.ensures ∙ c.if-failed-2.true)) }

pub close-n-requires : goal.close-n-requires
close-n-requires c =
    let f = c.finish_stream-finished in
    (f.ensures.ready, subst (λ (o : Option ℕ). IfSome o (λ left. left < 1632)) c.in-Some.is f.ensures.few, omega (arith, f.auto.text, c.requires.3))

pub slice_bounds-write_text-end-2 : goal.slice_bounds-write_text-end-2
slice_bounds-write_text-end-2 c =
    let fits : c.close-n.result ≤ length c.close-n.new.text = omega (arith, c.close-n.ensures.bound, c.close-n.auto.text, c.finish_stream-finished.auto.text, c.requires.3) in
    fits

pub returns-then-failed-3 : goal.returns-then-failed-3
returns-then-failed-3 c =
    let f = c.finish_stream-finished.ensures in
    record { files = files_on c.requires.0 refl (c.close-output.ensures.file ∙ f.output_is) (c.write_text-errors.ensures.file ∙ f.errors_are); status = part refl (errors_failed (sym c.failed-3.ensures ∙ c.if-failed-3.true)) }

pub returns-else-failed-3 : goal.returns-else-failed-3
returns-else-failed-3 c =
    let f = c.finish_stream-finished in
    let k = c.close-output in
    let t = c.close-n in
    let w = c.write_text-errors in
    let z = c.status_of-status.result in
    let e : to_z w32 (of_z w32 z) ≡ z = search rules in
    record {
      files = files_on c.requires.0 refl (k.ensures.file ∙ f.ensures.output_is) (w.ensures.file ∙ f.ensures.errors_are);
      status =
          whole f.result.stream.progress.found (e ∙ c.status_of-status.ensures)
          (whole_run c.requires.1 (sym c.failed.ensures ∙ c.if-failed.false) (f.ensures.ending _ c.in-Some.is) k.ensures (sym c.failed-2.ensures ∙ c.if-failed-2.false) t.ensures.text w.ensures (sym c.failed-3.ensures ∙ c.if-failed-3.false) refl _ refl refl refl);
    }
