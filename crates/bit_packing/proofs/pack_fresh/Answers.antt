-- `bit_packing::pack_fresh` meets its contract.
-- Assumes nothing.
use mathlib.Core.Path.{◌≡◌, ap, subst, ◌∙◌}
use mathlib.Core.List.{List, [], ◌++◌}
use Prim.Native.Nat.{ℕ, ◌+◌, ◌-◌, ◌*◌, ◌/◌, ◌≤◌}
use native.Mathlib.Omega.{arith}
use borrow.Rule.Slice.PartMut.{mid_of, mid_len, put_mid}
use lib.ListN.{length, take, drop, length-drop, take-append-drop}
use lib.Seq.{length-take-le, take_all}
use Rattle.convolutional_code.proofs.Bits.{bits_take, bits_drop}
use Rattle.bit_packing.specs.Packing.{Packs}
use Rattle.bit_packing.proofs.Packing.{packs_whole, packs_put, packs_fit}
use Rattle.bit_packing.proofs.pack_fresh.Goals as goal

pub pack_bytes-whole-requires : goal.pack_bytes-whole-requires
pack_bytes-whole-requires c =
    let n = length-take-le (length c.args.bits.now / 8 * 8) c.args.bits.now (omega arith) in
    (bits_take (length c.args.bits.now / 8 * 8) c.requires.0, omega (arith, n), omega (arith, n, c.requires.1))

pub pack_bits-last-requires : goal.pack_bits-last-requires
pack_bits-last-requires c =
    let counted : c.pack_bytes-whole.result ≡ length c.args.bits.now / 8 = c.pack_bytes-whole.ensures.0 ∙ omega (arith, length-take-le (length c.args.bits.now / 8 * 8) c.args.bits.now (omega arith)) in
    let w = c.pack_bytes-whole in
    let end = length c.args.bits.now / 8 * 8 in
    let behind = mid_len end (length c.args.bits.now) c.args.bits.now (omega arith) in
    let room = mid_len w.result (length w.new.output) w.new.output (omega arith) in
    (omega arith, bits_take (length c.args.bits.now - end) (bits_drop end c.requires.0), omega (arith, behind, room, w.auto, c.requires.1, counted))

pub overflow_add-result : goal.overflow_add-result
overflow_add-result c =
    let whole : Packs [] (take (length c.args.bits.now / 8 * 8) c.args.bits.now) c.args.output.now 0 0 c.pack_bytes-whole.result c.pack_bytes-whole.new.output = let end = length c.args.bits.now / 8 * 8 in
    packs_whole 0 (take end c.args.bits.now) c.args.output.now c.pack_bytes-whole.result (omega (arith, length-take-le end c.args.bits.now (omega arith))) c.pack_bytes-whole.ensures.0 c.pack_bytes-whole.ensures.1 in
    let fits : c.pack_bytes-whole.result ≤ length c.pack_bytes-whole.new.output = packs_fit (whole) in
    let w = c.pack_bytes-whole in
    let room = mid_len w.result (length w.new.output) w.new.output (omega arith) in
    omega (arith, fits, packs_fit c.pack_bits-last.ensures, c.pack_bits-last.auto, room, w.auto)

pub returns : goal.returns
returns c =
    let whole : Packs [] (take (length c.args.bits.now / 8 * 8) c.args.bits.now) c.args.output.now 0 0 c.pack_bytes-whole.result c.pack_bytes-whole.new.output = let end = length c.args.bits.now / 8 * 8 in
    packs_whole 0 (take end c.args.bits.now) c.args.output.now c.pack_bytes-whole.result (omega (arith, length-take-le end c.args.bits.now (omega arith))) c.pack_bytes-whole.ensures.0 c.pack_bytes-whole.ensures.1 in
    let b = c.args.bits.now in
    let end = length b / 8 * 8 in
    let w = packs_put (whole) (mid_of end (length b - end) b) c.pack_bits-last.ensures in
    let all : take end b ++ mid_of end (length b - end) b ≡ b = ap (λ (l : List ℕ). take end b ++ l) (take_all (length b - end) (drop end b) (omega (arith, length-drop end b))) ∙ take-append-drop end b in
    subst (λ (l : List ℕ). Packs [] l c.args.output.now c.pack_bits-last.result.carry c.pack_bits-last.result.held (c.pack_bytes-whole.result + c.pack_bits-last.result.count) (put_mid c.pack_bytes-whole.result (length c.pack_bytes-whole.new.output - c.pack_bytes-whole.result) c.pack_bytes-whole.new.output c.pack_bits-last.new.output)) all w
