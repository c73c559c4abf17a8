-- `reader_program::exit_status` meets its contract.
-- Assumes nothing.
use mathlib.Core.Path.{◌≡◌, sym, ◌∙◌, subst}
use Prim.Native.Nat.{ℕ, ◌≤◌, ◌<◌}
use native.Mathlib.Omega.{arith}
use mir.Syntax.{w32}
use mir.Val.{to_z, of_z}
use Rattle.reader_program.specs.Ends.{Ends, answered, ran}
use borrow.Author.Rules.{rules}
use Rattle.puncturing.specs.Mode.{qpsk_count}
use Rattle.program_io.proofs.Answering.{help_answered, version_answered, wrong_answered}
use Rattle.reader_program.proofs.exit_status.Goals as goal

pub returns-then-rate-ge-QPSK_MODES : goal.returns-then-rate-ge-QPSK_MODES
returns-then-rate-ge-QPSK_MODES c =
    let k = c.rate_asked-rate.ensures in
    let r = c.wrong-answered in
    let z = r.result.status in
    let e : to_z w32 (of_z w32 z) ≡ z = search rules in
    answered (wrong_answered c.new-arguments.result c.new-word.result r.result c.new-word.ensures (sym c.asked_for-asked.ensures ∙ c.in-Work.is)
    (subst (λ (n : ℕ). qpsk_count ≤ n) k (omega (arith, c.if-rate-ge-QPSK_MODES.true))) r.ensures e)

pub returns-in-Help : goal.returns-in-Help
returns-in-Help c =
    let r = c.help-answered in
    let z = r.result.status in
    let e : to_z w32 (of_z w32 z) ≡ z = search rules in
    answered (help_answered c.new-arguments.result c.new-word.result r.result c.new-word.ensures (sym c.asked_for-asked.ensures ∙ c.in-Help.is) r.ensures e)

pub returns-in-Version : goal.returns-in-Version
returns-in-Version c =
    let r = c.version-answered in
    let z = r.result.status in
    let e : to_z w32 (of_z w32 z) ≡ z = search rules in
    answered (version_answered c.new-arguments.result c.new-word.result r.result c.new-word.ensures (sym c.asked_for-asked.ensures ∙ c.in-Version.is) r.ensures e)

pub returns-else-rate-ge-QPSK_MODES : goal.returns-else-rate-ge-QPSK_MODES
returns-else-rate-ge-QPSK_MODES c =
    let k = c.rate_asked-rate.ensures in
    let r = c.run-ended in
    let z = r.result.status in
    let e : to_z w32 (of_z w32 z) ≡ z = search rules in
    ran c.new-arguments.result c.new-word.result r.result c.new-word.ensures (sym c.asked_for-asked.ensures ∙ c.in-Work.is)
    (subst (λ (n : ℕ). n < qpsk_count) k (omega (arith, c.if-rate-ge-QPSK_MODES.false))) (subst (λ (n : ℕ). Ends c.args.soft n r.result) k r.ensures) e
