-- `viterbi_decoder::levelled` meets its contract.
-- Assumes nothing.
use borrow.Author.Rules.{rules}
use mathlib.Core.Path.{◌≡◌}
use Prim.Native.Nat.{ℕ, ◌-◌, ◌<◌}
use native.Mathlib.Omega.{arith}
use Rattle.convolutional_code.specs.Costs.{at}
use Rattle.viterbi_decoder.proofs.levelled.Goals as goal

pub returns : goal.returns
returns c =
    let z : 0 < 64 = omega arith in
    let by = c.saturating_sub-by in
    let p = c.requires.1 in
    let lowered : (t : ℕ) → t < 64 → at c.array_of.result t ≡ at c.args.metrics.now t - by.result = λ t h. let e = c.array_of.ensures t h in search rules in
    (λ t h. omega (arith, lowered t h, by.ensures, p 0 t z h), λ t h. omega (arith, lowered t h, by.ensures, p t 0 h z))
