-- `recording::block::gather` meets its contract.
-- Assumes nothing.
use mathlib.Core.Path.{◌≡◌, refl, sym, ◌∙◌}
use mathlib.Core.List.{List}
use Prim.Native.Nat.{ℕ, ◌+◌, ◌≤◌, ◌<◌}
use native.Mathlib.Omega.{arith}
use lib.ListN.{length, get_or, set}
use Rattle.common.proofs.Written.{Written, written_none, written_next, written_length, written_whole}
use Rattle.interleaver.specs.Gathered.{place_in, gathered}
use Rattle.interleaver.proofs.Gathering.{length_gathered, gathered_at}
use Rattle.recording.proofs.block.gather.Goals as goal

start : (bytes : List ℕ) (p : ℕ) (block : List ℕ) → length block ≡ 204 → Written 0 block (gathered bytes p) block 0
start bytes p block h = written_none (omega (arith, length_gathered bytes p))

more : (bytes : List ℕ) (p : ℕ) (block₀ block : List ℕ) (n v : ℕ) → Written 0 block₀ (gathered bytes p) block n → n < 204 → v ≡ get_or bytes (place_in p n) 0
    → Written 0 block₀ (gathered bytes p) (set block n v) (n + 1)
more bytes p block₀ block n v w h e = written_next w v (omega (arith, length_gathered bytes p)) (e ∙ sym (gathered_at bytes p n h))

finish : (bytes : List ℕ) (p : ℕ) (block₀ block : List ℕ) (n : ℕ) → Written 0 block₀ (gathered bytes p) block n → 204 ≤ n → length block₀ ≡ 204 → block ≡ gathered bytes p
finish bytes p block₀ block n w h z =
    let e : 204 ≡ n = omega (arith, w.within, length_gathered bytes p) in
    written_whole w (length_gathered bytes p ∙ e) (z ∙ e)

pub loop-n-init : goal.loop-n-init
loop-n-init c = let a = c.args in start a.bytes.now a.p a.block.now c.requires.1

pub bounds-block-n : goal.bounds-block-n
bounds-block-n c =
    omega (arith, c.loop-n-test.true, written_length c.loop-n.invariant, c.requires.1)

pub loop-n-preserved : goal.loop-n-preserved
loop-n-preserved c =
    let a = c.args in
    more a.bytes.now a.p a.block.now c.loop-n.block c.loop-n.n _ c.loop-n.invariant c.loop-n-test.true refl

pub shape_of-block : goal.shape_of-block
shape_of-block c = written_length c.loop-n.invariant

pub returns : goal.returns
returns c = let a = c.args in finish a.bytes.now a.p a.block.now c.loop-n.block c.loop-n.n c.loop-n.invariant c.loop-n-test.false c.requires.1
