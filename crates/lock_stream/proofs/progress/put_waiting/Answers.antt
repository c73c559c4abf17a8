-- `lock_stream::progress::put_waiting` meets its contract.
-- Assumes nothing.
use mathlib.Core.Path.{◌≡◌, sym, ap, subst, ◌∙◌}
use Prim.Native.Nat.{ℕ, ◌+◌, ◌≤◌}
use native.Mathlib.Omega.{arith}
use lib.ListN.{length, replicate, length-replicate}
use Rattle.losses.specs.Feed.{WritesLines}
use Rattle.losses.proofs.Decisions.{told_count}
use Rattle.lock_receiver.specs.Take.{lock_end_lines}
use Rattle.answer_lines.specs.Lines.{list_text}
use Rattle.report_lines.proofs.Lines.{restated}
use Rattle.lock_stream.proofs.Taking.{lines_written, lines_few, end_lines_lem}
use borrow.Author.Rules.{rules}
use Rattle.lock_stream.proofs.progress.put_waiting.Goals as goal

pub put_list-requires : goal.put_list-requires
put_list-requires c =
    let few : c.unwrap_or-count.result ≤ 8 = let l : length c.end.new.lines ≡ 8 = search rules in
    omega (arith, lines_few (subst (λ (n : ℕ). WritesLines (lock_end_lines c.args.receiver (replicate 8 0)) (replicate 8 0) n c.end.new.lines) (told_count c.end.result ∙ sym c.unwrap_or-count.ensures) c.end.ensures.1) (l ∙ search rules)) in
    let l : length c.end.new.lines ≡ 8 = search rules in
    (omega (arith, few, l), omega (arith, few, c.requires.1))

pub returns : goal.returns
returns c =
    let few : c.unwrap_or-count.result ≤ 8 = let l : length c.end.new.lines ≡ 8 = search rules in
    omega (arith, lines_few (subst (λ (n : ℕ). WritesLines (lock_end_lines c.args.receiver (replicate 8 0)) (replicate 8 0) n c.end.new.lines) (told_count c.end.result ∙ sym c.unwrap_or-count.ensures) c.end.ensures.1) (l ∙ search rules)) in
    let p = c.put_list.ensures in
    restated (c.args.at + 512) p (ap list_text (lines_written (subst (λ (n : ℕ). WritesLines (lock_end_lines c.args.receiver (replicate 8 0)) (replicate 8 0) n c.end.new.lines) (told_count c.end.result ∙ sym c.unwrap_or-count.ensures) c.end.ensures.1) ∙ end_lines_lem c.args.receiver (replicate 8 0) c.requires.0 (omega (arith, length-replicate {A = ℕ} 8 0)))) (omega (arith, p.bound, few))
