-- `report_lines::put_decimal` meets its contract.
-- Assumes nothing.
use mathlib.Core.Path.{◌≡◌, ap, ◌∙◌}
use mathlib.Core.List.{List, ◌++◌}
use Prim.Native.Nat.{ℕ, ◌+◌, ◌≤◌}
use native.Mathlib.Omega.{arith}
use lib.ListN.{length, take, drop}
use Rattle.report_lines.specs.Line.{decimal}
use Rattle.report_lines.proofs.Lines.{put_appended}
use Rattle.report_lines.proofs.Decimals.{fewest_decimal, fewest_small}
use borrow.Author.Rules.{rules}
use Rattle.report_lines.proofs.put_decimal.Goals as goal

pub put-requires : goal.put-requires
put-requires c =
    let d = c.decimal-n in
    let k : d.result ≤ 20 = fewest_small c.args.value d.result c.ranges.value.fits d.ensures.len in
    omega (arith, d.ensures.in_bounds.1)

pub overflow_add-result : goal.overflow_add-result
overflow_add-result c =
    let d = c.decimal-n in
    let k : d.result ≤ 20 = fewest_small c.args.value d.result c.ranges.value.fits d.ensures.len in
    search rules

pub returns : goal.returns
returns c =
    let d = c.decimal-n in
    let k : d.result ≤ 20 = fewest_small c.args.value d.result c.ranges.value.fits d.ensures.len in
    let t : take d.result d.new.out ≡ decimal c.args.value = d.ensures.digits ∙ fewest_decimal c.args.value d.result k d.ensures.len in
    let n : d.result ≡ length (decimal c.args.value) = d.ensures.in_bounds.1 ∙ ap length t in
    let a = c.args in
    rw (n)
    (rw (c.put.ensures ∙ ap (λ (l : List ℕ). take a.at a.output.now ++ l ++ drop (a.at + length l) a.output.now) t)
    (put_appended a.output.now (decimal a.value) a.at (a.at + 20) (omega arith) (omega arith)))
