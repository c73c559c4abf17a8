-- `convolutional_code::convolve` meets its contract.
-- Assumes nothing.
use borrow.Author.Rules.{rules}
use mathlib.Core.Path.{◌≡◌, ap, sym, ◌∙◌}
use Prim.Native.Nat.{ℕ, ◌+◌, ◌%◌, ◌<◌}
use native.Mathlib.Nat.{zero-add}
use native.Mathlib.Omega.{arith}
use lib.ListN.{length, get_or}
use Rattle.common.proofs.Written.{written_none, written_next, written_length, written_whole}
use Rattle.convolutional_code.specs.Sweep.{sweep, total_at}
use Rattle.convolutional_code.proofs.Bits.{bits_at}
use Rattle.convolutional_code.proofs.Sweep.{length_sweep, sweep_at, total_five}
use Rattle.convolutional_code.proofs.convolve.Goals as goal

pub loop-n-init : goal.loop-n-init
loop-n-init c =
    let taps = c.args.taps in
    written_none (rw (length_sweep taps c.args.history.now 0 (length c.args.coded.now)) (omega arith))

pub parity-requires : goal.parity-requires
parity-requires c =
    let bit : (i : ℕ) → get_or c.args.history.now (c.loop-n.n + get_or c.args.taps i 0) 0 < 2 = λ i. bits_at c.requires.0 (c.loop-n.n + get_or c.args.taps i 0) in
    (bit 0, bit 1, bit 2, bit 3, bit 4)

pub bounds-coded-n : goal.bounds-coded-n
bounds-coded-n c =
    omega (arith, written_length c.loop-n.invariant)

pub loop-n-preserved : goal.loop-n-preserved
loop-n-preserved c =
    let taps = c.args.taps in
    let l = c.loop-n in
    let h = c.args.history.now in
    let at : get_or (sweep taps h 0 (length c.args.coded.now)) l.n 0 ≡ total_at taps h l.n % 2
    = sweep_at taps h 0 (length c.args.coded.now) l.n (omega arith) ∙ ap (λ (n : ℕ). total_at taps h n % 2) (zero-add l.n)
    in
    let output : l.n < length (sweep taps h 0 (length c.args.coded.now)) = rw (length_sweep taps h 0 (length c.args.coded.now)) (omega arith) in
    written_next l.invariant _ output (c.parity.ensures ∙ (ap (λ (x : ℕ). x % 2) (total_five taps h l.n (search rules)) ∙ sym at))

pub shape_of-coded : goal.shape_of-coded
shape_of-coded c = written_length c.loop-n.invariant

pub returns : goal.returns
returns c =
    let n : length c.args.coded.now ≡ c.loop-n.n = omega arith in
    written_whole c.loop-n.invariant (length_sweep c.args.taps c.args.history.now 0 (length c.args.coded.now) ∙ n) n
