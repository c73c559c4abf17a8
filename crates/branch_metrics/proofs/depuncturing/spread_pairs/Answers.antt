-- `branch_metrics::depuncturing::spread_pairs` meets its contract.
-- Assumes nothing.
use mathlib.Core.Path.{◌≡◌, sym, ap, ◌∙◌}
use Prim.Native.Nat.{◌*◌, ◌/◌, ◌≤◌}
use native.Mathlib.Omega.{arith}
use lib.ListN.{length}
use lib.Seq.{length-take-le}
use Rattle.branch_metrics.specs.Steps.{first}
use Rattle.branch_metrics.proofs.Facts.{half_first, half_spread, three_first}
use Rattle.branch_metrics.proofs.depuncturing.spread_pairs.Goals as goal

pub slice_bounds-put-end : goal.slice_bounds-put-end
slice_bounds-put-end c =
    let enough : let s = c.args in s.n ≤ length s.pairs.now = let p : first 0 c.args.n ≤ 2 * length c.args.pairs.now = rw c.if-rate-eq0.true at c.requires.4 in
    omega (arith, half_first c.args.n) in
    sym (length-take-le c.args.n c.args.pairs.now enough)

pub returns-then-rate-eq0 : goal.returns-then-rate-eq0
returns-then-rate-eq0 c =
    let enough : let s = c.args in s.n ≤ length s.pairs.now = let p : first 0 c.args.n ≤ 2 * length c.args.pairs.now = rw c.if-rate-eq0.true at c.requires.4 in
    omega (arith, half_first c.args.n) in
    rw c.if-rate-eq0.true
    (half_spread c.args.pairs.now c.args.output.now c.put.new.output c.args.n (enough) c.requires.5 c.put.ensures)

pub spread_3_4-requires : goal.spread_3_4-requires
spread_3_4-requires c =
    let patterns : let n = c.args.n in 3 * (n / 3) ≡ n = omega (arith, c.if-n-eq0.true) in
    let enough_3_4 : let s = c.args in 2 * (s.n / 3) ≤ length s.pairs.now = let p : first 2 c.args.n ≤ 2 * length c.args.pairs.now = rw c.if-rate-eq2.true at c.requires.4 in
    let e : first 2 c.args.n ≡ 4 * (c.args.n / 3) = ap (first 2) (sym (patterns)) ∙ three_first (c.args.n / 3) in
    omega (arith, p, e) in
    (enough_3_4, omega (arith, patterns, c.requires.5), c.requires.6)
