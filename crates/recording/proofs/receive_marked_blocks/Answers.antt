-- `recording::receive_marked_blocks` meets its contract.
-- Assumes nothing.
use mathlib.Core.Path.{◌≡◌, sym, ap, ◌∙◌, subst}
use Prim.Native.Nat.{ℕ, ◌+◌, ◌-◌, ◌*◌, ◌≤◌}
use native.Mathlib.Omega.{arith}
use lib.ListN.{length, replicate}
use Rattle.common.proofs.Largest.{largest_none}
use Rattle.receiver.proofs.Parts.{Sized}
use Rattle.recording.proofs.Recordings.{progress_start, progress_end, taking_more, Taking}
use borrow.Author.Rules.{rules}
use borrow.Rule.Slice.PartMut.{put_mid}
use borrow.Author.Tests.{eqb-true}
use Rattle.recording.proofs.receive_marked_blocks.Goals as goal

pub loop-i-init : goal.loop-i-init
loop-i-init c =
    let sized : Sized c.args.receiver = record { cells = search rules; positions = search rules; marks = search rules } in
    record {
      progress = progress_start _ _ _ _ c.requires.0;
      sized = sized;
      range = c.in_range-valid.ensures;
      none = λ e z. largest_none c.args.receiver.marks (sym c.largest_of-clean.ensures ∙ eqb-true _ _ z) ∙ ap (λ (n : ℕ). replicate n 0) sized.marks;
    }

pub loop-i-preserved : goal.loop-i-preserved
loop-i-preserved c =
    let a = c.args in
    let l = c.loop-i in
    let t = c.receive_at-taken in
    let h : 204 ≤ length a.bytes.now - 204 * l.i = omega (arith, c.loop-i-test.true) in
    let e : 204 * l.i + 204 ≡ 204 * (l.i + 1) = omega arith in
    subst (λ (at : ℕ). Taking a.receiver a.bytes.now a.marks.now a.output.now (put_mid l.count (length l.output - l.count) l.output t.new.output) t.new.receiver at (l.count + c.given_bytes-count.result) c.in_range-valid.result c.still_clean-clean.result)
    e (taking_more l.invariant h c.still_clean-clean.result c.still_clean-clean.ensures t.ensures c.given_bytes-count.ensures)

pub returns : goal.returns
returns c = progress_end c.loop-i.invariant.progress (omega arith)
