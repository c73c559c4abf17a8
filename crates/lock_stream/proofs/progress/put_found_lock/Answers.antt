-- `lock_stream::progress::put_found_lock` meets its contract.
-- Assumes nothing.
use mathlib.Core.Path.{sym, ap, subst}
use Prim.Native.Nat.{ℕ, ◌+◌, ◌%◌, ◌<◌}
use Rattle.lock_lines.specs.Lines.{lock_text}
use Rattle.reader.proofs.Patterns.{some_symbols}
use Rattle.report_lines.proofs.Lines.{restated}
use Rattle.lock_stream.proofs.progress.put_found_lock.Goals as goal

pub nonzero_rem-start : goal.nonzero_rem-start
nonzero_rem-start c = subst (λ (k : ℕ). 0 < k) (sym c.symbol_count-pattern.ensures) (some_symbols _ c.requires.0)

pub returns : goal.returns
returns c =
    let a = c.args in
    let k = a.block in
    let f = c.put_lock.ensures in
    restated (a.at + 113) f (ap (λ (n : ℕ). lock_text a.bits k.rate k.turn (k.start % n) k.start) c.symbol_count-pattern.ensures) f.bound
