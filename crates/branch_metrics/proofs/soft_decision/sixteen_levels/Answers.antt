-- `branch_metrics::soft_decision::sixteen_levels` meets its contract: a level is raised by at most 1 at each threshold.
-- Assumes nothing.
use mathlib.Core.Path.{◌≡◌}
use Prim.Native.Nat.{ℕ, ◌+◌, ◌≤◌, ◌<◌}
use native.Mathlib.Omega.{arith}
use lib.Ieee.{nan, of_bits, neg}
use lib.ListN.{get_or, get_or-replicate}
use Rattle.branch_metrics.specs.Level.{level_of}
use Rattle.branch_metrics.proofs.soft_decision.sixteen_levels.Goals as goal

pub returns : goal.returns
unfolding level_of of_bits neg
returns c =
    let one_le : (i : ℕ) → i < 16 → get_or c.raised-one.result i 0 ≤ 1 = λ i h. omega (arith, (c.raised-one.ensures i h).1, get_or-replicate {A = ℕ} 16 i 0 0 h) in
    let two_le : (i : ℕ) → i < 16 → get_or c.raised-two.result i 0 ≤ 2 = λ i h. omega (arith, (c.raised-two.ensures i h).1, one_le i h) in
    let three_le : (i : ℕ) → i < 16 → get_or c.raised-three.result i 0 ≤ 3 = λ i h. omega (arith, (c.raised-three.ensures i h).1, two_le i h) in
    let four_le : (i : ℕ) → i < 16 → get_or c.raised-four.result i 0 ≤ 4 = λ i h. omega (arith, (c.raised-four.ensures i h).1, three_le i h) in
    let five_le : (i : ℕ) → i < 16 → get_or c.raised-five.result i 0 ≤ 5 = λ i h. omega (arith, (c.raised-five.ensures i h).1, four_le i h) in
    let six_le : (i : ℕ) → i < 16 → get_or c.raised-six.result i 0 ≤ 6 = λ i h. omega (arith, (c.raised-six.ensures i h).1, five_le i h) in
    λ i h.
    let e : get_or c.raised.result i 0 ≡ level_of (get_or c.args.list.now (c.args.at + i) nan) =
    omega (arith, (c.raised-one.ensures i h).0, (c.raised-two.ensures i h).0, (c.raised-three.ensures i h).0, (c.raised-four.ensures i h).0, (c.raised-five.ensures i h).0, (c.raised-six.ensures i h).0, (c.raised.ensures i h).0, get_or-replicate {A = ℕ} 16 i 0 0 h) in
    (e, omega (arith, (c.raised.ensures i h).1, six_le i h))
