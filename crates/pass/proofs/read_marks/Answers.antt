-- `pass::read_marks` meets its contract.
-- Assumes nothing.
use Rattle.common.specs.Lists.{padded}
use mathlib.Core.Path.{◌≡◌, sym, ap, ◌∙◌}
use mathlib.Core.List.{List, ◌++◌}
use Prim.Native.Nat.{ℕ, ◌-◌, ◌≤◌}
use native.Mathlib.Omega.{arith}
use lib.ListN.{length, take, drop, length-append}
use lib.Seq.{length-take-le, take-append-le}
use Rattle.program_io.specs.Checksum.{traced}
use Rattle.pass.proofs.Marks.{cleared_front, cleared_marks}
use Rattle.pass.proofs.read_marks.Goals as goal

pub returns : goal.returns
returns c =
    let f = c.fill-filled in
    let n = c.args.n in
    let p = f.new.buffer in
    let m = f.result.length in
    let l = p ++ drop (n - 0) c.args.buffer.now in
    let a : length p ≡ n = f.auto.buffer ∙ length-take-le (n - 0) c.args.buffer.now (omega (arith, c.requires)) ∙ (let z : n - 0 ≡ n = omega arith in z) in
    let w : m ≤ n = omega (arith, f.ensures.within, a) in
    let k : n ≤ length l = omega (arith, length-append p (drop (n - 0) c.args.buffer.now), a) in
    let e = c.clear.ensures in
    let t : take m c.clear.new.buffer ≡ take m p = ap (take m) e ∙ cleared_front l m n w k ∙ take-append-le m p (drop (n - 0) c.args.buffer.now) (omega (arith, w, a)) in
    record {
      origin = f.ensures.origin;
      trace = f.ensures.trace ∙ ap (traced _) (sym t);
      within = w;
      marks = ap (take n) e ∙ cleared_marks l m n w k ∙ ap (λ (x : List ℕ). padded n (take m x)) (sym e);
      over = f.ensures.over;
      short = λ h. f.ensures.short (omega (arith, h, a));
    }
