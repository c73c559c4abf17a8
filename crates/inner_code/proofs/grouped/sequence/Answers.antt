-- `inner_code::grouped::sequence` meets its contract.
-- Assumes nothing.
use mathlib.Core.Path.{◌≡◌, ap, ap₂, sym, ◌∙◌}
use mathlib.Core.List.{◌++◌}
use Prim.Native.Nat.{ℕ, ◌+◌, ◌*◌, ◌<◌}
use native.Mathlib.Nat.{zero-add}
use native.Mathlib.Omega.{arith}
use lib.ListN.{length, get_or, drop}
use Rattle.common.proofs.Written.{written_none, written_next, written_all}
use Rattle.convolutional_code.proofs.Bits.{bits_at}
use Rattle.inner_code.specs.Groups.{coded_as, numbered}
use Rattle.inner_code.proofs.Groups.{coded_small, length_numbered, numbered_at}
use Rattle.inner_code.proofs.grouped.sequence.Goals as goal

pub loop-n-init : goal.loop-n-init
loop-n-init c = written_none (omega (arith, length_numbered c.args.c2 c.args.c1 c.args.uncoded.now c.args.coded.now (length c.args.uncoded.now), c.requires.4))

pub number-requires : goal.number-requires
number-requires c =
    let l = c.loop-n in
    let cs = c.args.coded.now in
    let bit : (i : ℕ) → get_or cs i 0 < 2 = bits_at c.requires.1 in
    let small : (place : ℕ) → coded_as place (get_or cs l.n 0) (get_or cs (length c.args.uncoded.now + l.n) 0) < 2
    = λ place. coded_small place (get_or cs l.n 0) (get_or cs (length c.args.uncoded.now + l.n) 0) (bit _) (bit _) in
    (c.requires.0 _, rw c.coded_bit.ensures (small c.args.c2), rw c.coded_bit-in-loop-n.ensures (small c.args.c1))

pub loop-n-preserved : goal.loop-n-preserved
loop-n-preserved c =
    let l = c.loop-n in
    let us = c.args.uncoded.now in
    let cs = c.args.coded.now in
    let k = length us in
    let own = ap₂ (λ (p q : ℕ). 4 * get_or us l.n 0 + (2 * p + q)) c.coded_bit.ensures c.coded_bit-in-loop-n.ensures in
    let at = numbered_at c.args.c2 c.args.c1 us cs k l.n (omega arith) in
    written_next l.invariant _ (omega (arith, length_numbered c.args.c2 c.args.c1 us cs k)) (c.number.ensures ∙ own ∙ sym at)

pub returns : goal.returns
returns c =
    let l = c.loop-n in
    let k = length c.args.uncoded.now in
    let n : k ≡ l.n = omega arith in
    written_all l.invariant (length_numbered c.args.c2 c.args.c1 c.args.uncoded.now c.args.coded.now k ∙ n)
    ∙ ap (λ (j : ℕ). numbered c.args.c2 c.args.c1 c.args.uncoded.now c.args.coded.now k ++ drop j c.args.output.now) (zero-add l.n ∙ sym n)
