-- `bit_packing::pack` meets its contract.
-- Assumes nothing.
use mathlib.Core.Path.{◌≡◌, sym, ap, subst, ◌∙◌}
use mathlib.Core.List.{List, [], ◌++◌}
use Prim.Native.Nat.{ℕ, ◌+◌, ◌-◌, ◌*◌, ◌%◌}
use native.Mathlib.Omega.{arith}
use borrow.Rule.Slice.PartMut.{mid_of, mid_len, put_mid}
use lib.ListN.{length, take, drop, length-append, length-drop, take-append-drop}
use lib.Seq.{length-take-le, take_all}
use Rattle.convolutional_code.proofs.Bits.{bits_take, bits_drop}
use Rattle.bit_packing.specs.Packing.{Packs, carried_bits}
use Rattle.bit_packing.proofs.Packing.{carried_length, carried_none, packs_put, packs_fit, packs_all}
use Rattle.bit_packing.proofs.pack.Goals as goal

pub pack_bits-first-requires : goal.pack_bits-first-requires
pack_bits-first-requires c =
    let n = length-take-le ((8 - c.args.held) % 8) c.args.bits.now (omega (arith, c.if-bits-lacking.false)) in
    (c.requires.0, bits_take ((8 - c.args.held) % 8) c.requires.1, omega (arith, n, c.requires.2, c.if-bits-lacking.false))

pub slice_bounds-pack_fresh-count-2 : goal.slice_bounds-pack_fresh-count-2
slice_bounds-pack_fresh-count-2 c = packs_fit c.pack_bits-first.ensures

pub slice_bounds-pack_fresh-start-2 : goal.slice_bounds-pack_fresh-start-2
slice_bounds-pack_fresh-start-2 c = packs_fit c.pack_bits-first.ensures

pub pack_fresh-rest-requires : goal.pack_fresh-rest-requires
pack_fresh-rest-requires c =
    let filled : (c.pack_bits-first.result.held ≡ 0) × (8 * c.pack_bits-first.result.count ≡ c.args.held + (8 - c.args.held) % 8) = let w = c.pack_bits-first.ensures in
    let lacking = (8 - c.args.held) % 8 in
    let n = length-take-le lacking c.args.bits.now (omega (arith, c.if-bits-lacking.false)) in
    let all : 8 * c.pack_bits-first.result.count + c.pack_bits-first.result.held ≡ c.args.held + lacking =
    packs_all w ∙ length-append (carried_bits c.args.carry c.args.held) (take lacking c.args.bits.now) ∙ omega (arith, carried_length c.args.carry c.args.held (omega (arith, c.requires.0)), n) in
    (omega (arith, all, w.few, c.requires.0), omega (arith, all, w.few, c.requires.0)) in
    let w = c.pack_bits-first in
    let lacking = (8 - c.args.held) % 8 in
    let behind = mid_len lacking (length c.args.bits.now) c.args.bits.now (omega arith) in
    let room = mid_len w.result.count (length w.new.output) w.new.output (omega arith) in
    let f = filled in
    (bits_take (length c.args.bits.now - lacking) (bits_drop lacking c.requires.1), omega (arith, behind, room, w.auto, c.requires.2, f.1, packs_fit w.ensures))

pub overflow_add-result : goal.overflow_add-result
overflow_add-result c = omega (arith, packs_fit c.pack_bits-first.ensures, c.pack_fresh-rest.ensures.counted)

pub returns : goal.returns
returns c =
    let filled : (c.pack_bits-first.result.held ≡ 0) × (8 * c.pack_bits-first.result.count ≡ c.args.held + (8 - c.args.held) % 8) = let w = c.pack_bits-first.ensures in
    let lacking = (8 - c.args.held) % 8 in
    let n = length-take-le lacking c.args.bits.now (omega (arith, c.if-bits-lacking.false)) in
    let all : 8 * c.pack_bits-first.result.count + c.pack_bits-first.result.held ≡ c.args.held + lacking =
    packs_all w ∙ length-append (carried_bits c.args.carry c.args.held) (take lacking c.args.bits.now) ∙ omega (arith, carried_length c.args.carry c.args.held (omega (arith, c.requires.0)), n) in
    (omega (arith, all, w.few, c.requires.0), omega (arith, all, w.few, c.requires.0)) in
    let b = c.args.bits.now in
    let w = c.pack_bits-first in
    let r = c.pack_fresh-rest in
    let lacking = (8 - c.args.held) % 8 in
    let more = mid_of lacking (length b - lacking) b in
    let fresh : carried_bits w.result.carry w.result.held ≡ [] = ap (carried_bits w.result.carry) (filled).0 ∙ carried_none w.result.carry in
    let behind = mid_of w.result.count (length w.new.output - w.result.count) w.new.output in
    let v = packs_put w.ensures more (subst (λ (l : List ℕ). Packs l more behind r.result.carry r.result.held r.result.count r.new.output) (sym fresh) r.ensures) in
    let all : take lacking b ++ more ≡ b = ap (λ (l : List ℕ). take lacking b ++ l) (take_all (length b - lacking) (drop lacking b) (omega (arith, length-drop lacking b))) ∙ take-append-drop lacking b in
    subst (λ (l : List ℕ). Packs (carried_bits c.args.carry c.args.held) l c.args.output.now r.result.carry r.result.held (w.result.count + r.result.count) (put_mid w.result.count (length w.new.output - w.result.count) w.new.output r.new.output)) all v
