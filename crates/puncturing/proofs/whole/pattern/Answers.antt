-- `puncturing::whole::pattern` meets its contract.
-- Assumes nothing.
use mathlib.Core.Path.{◌≡◌, refl, sym, ◌∙◌}
use Prim.Native.Nat.{◌+◌, ◌<◌}
use native.Mathlib.Omega.{arith}
use lib.ListN.{length, get_or}
use Rattle.common.proofs.Written.{written_none, written_more}
use Rattle.common.proofs.Outputs.{placed_all}
use Rattle.convolutional_code.proofs.Bits.{bits_at}
use Rattle.puncturing.specs.Run.{pattern_symbols}
use Rattle.puncturing.proofs.Patterns.{length_pattern, pattern_at}
use Rattle.puncturing.proofs.whole.pattern.Goals as goal

pub loop-j-init : goal.loop-j-init
loop-j-init c =
    written_none (rw (length_pattern c.args.i.now c.args.q.now c.args.coded.now c.args.n c.requires.2) c.requires.5)

pub overflow_mul-output : goal.overflow_mul-output
overflow_mul-output c =
    omega (arith, bits_at c.requires.0 (c.args.n + get_or c.args.i.now c.loop-j.j 0))

pub overflow_add-output-in-loop-j-2 : goal.overflow_add-output-in-loop-j-2
overflow_add-output-in-loop-j-2 c =
    let j = c.loop-j.j in
    omega (arith, bits_at c.requires.0 (c.args.n + get_or c.args.i.now j 0), bits_at c.requires.0 (c.args.n + get_or c.args.q.now j 0))

pub loop-j-preserved : goal.loop-j-preserved
loop-j-preserved c =
    let l = c.loop-j in
    let i = c.args.i.now in
    let q = c.args.q.now in
    let coded = c.args.coded.now in
    let output : l.j < length (pattern_symbols i q coded c.args.n) = rw (length_pattern i q coded c.args.n c.requires.2) (omega arith) in
    written_more l.invariant _ _ output refl (sym (pattern_at i q coded c.args.n l.j c.requires.2 (omega arith)))

pub returns : goal.returns
returns c =
    let j : length c.args.i.now ≡ c.loop-j.j = omega arith in
    placed_all c.loop-j.invariant (length_pattern c.args.i.now c.args.q.now c.args.coded.now c.args.n c.requires.2 ∙ j)
