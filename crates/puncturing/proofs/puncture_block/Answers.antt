-- `puncturing::puncture_block` meets its contract.
-- Assumes nothing.
use mathlib.Core.Path.{◌≡◌, ap, ◌∙◌}
use Prim.Native.Nat.{ℕ, ◌+◌, ◌-◌, ◌*◌, ◌/◌, ◌%◌, ◌≤◌, ◌<◌}
use native.Mathlib.Nat.{mod-lt, div-add-mod'}
use native.Mathlib.Omega.{arith}
use Rattle.puncturing.specs.Mode.{longest_pattern}
use Rattle.puncturing.specs.Step.{pattern_length}
use Rattle.puncturing.specs.Run.{pattern_place_after}
use Rattle.puncturing.proofs.Places.{length_le, up}
use Rattle.puncturing.proofs.Parts.{to_start}
use Rattle.puncturing.proofs.puncture_block.Goals as goal

pub puncture_parts-requires : goal.puncture_parts-requires
puncture_parts-requires c =
    let len : c.pattern_length-len.result ≡ pattern_length c.args.rate = c.pattern_length-len.ensures in
    let some : 0 < c.pattern_length-len.result = let g = c.requires.1 in omega (arith, len) in
    let short : (c.pattern_length-len.result - c.args.place) % c.pattern_length-len.result ≤ longest_pattern = let h = mod-lt (c.pattern_length-len.result - c.args.place) some in
    omega (arith, len, length_le c.args.rate (up c.args.rate c.requires.0)) in
    let reach : (1632 - (c.pattern_length-len.result - c.args.place) % c.pattern_length-len.result) / c.pattern_length-len.result * c.pattern_length-len.result
    ≤ 1632 - (c.pattern_length-len.result - c.args.place) % c.pattern_length-len.result = let e = div-add-mod' (1632 - (c.pattern_length-len.result - c.args.place) % c.pattern_length-len.result) c.pattern_length-len.result in omega arith in
    let g = c.requires in
    let start =
    ap (λ (n : ℕ). pattern_place_after c.args.rate c.args.place ((n - c.args.place) % n)) (len)
    ∙ to_start c.args.rate c.args.place g.0 g.1
    in
    let head = (c.pattern_length-len.result - c.args.place) % c.pattern_length-len.result in
    (g.0, g.1, g.2, g.3, start, ap (λ (n : ℕ). head + (1632 - head) / c.pattern_length-len.result * n) (len), omega (arith, reach, short), g.4)
