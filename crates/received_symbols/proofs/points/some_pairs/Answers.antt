-- `received_symbols::points::some_pairs` meets its contract.
-- Assumes nothing.
use mathlib.Core.Path.{sym, ◌∙◌, subst}
use Prim.Native.Nat.{ℕ, ◌≤◌, ◌<◌}
use native.Mathlib.Omega.{arith}
use lib.ListN.{length}
use lib.Seq.{length-take-le}
use Rattle.received_symbols.proofs.SoftInput.{lists_pair, marks_length}
use Rattle.received_symbols.proofs.points.some_pairs.Goals as goal

pub slice_bounds-soft_pairs-end : goal.slice_bounds-soft_pairs-end
slice_bounds-soft_pairs-end c =
    let room_is : c.args.count ≤ length c.read_numbers.new.numbers = omega (arith, c.requires.0, c.read_numbers.auto) in
    sym (length-take-le _ _ (room_is))

pub slice_bounds-soft_pairs-end-2 : goal.slice_bounds-soft_pairs-end-2
slice_bounds-soft_pairs-end-2 c =
    let room_qs : c.args.count ≤ length c.read_numbers-2.new.numbers = omega (arith, c.requires.0, c.read_numbers-2.auto) in
    sym (length-take-le _ _ (room_qs))

pub slice_bounds-soft_pairs-end-3 : goal.slice_bounds-soft_pairs-end-3
slice_bounds-soft_pairs-end-3 c = sym (marks_length _ c.requires.0)

pub soft_pairs-requires : goal.soft_pairs-requires
soft_pairs-requires c =
    let room_is : c.args.count ≤ length c.read_numbers.new.numbers = omega (arith, c.requires.0, c.read_numbers.auto) in
    let room_qs : c.args.count ≤ length c.read_numbers-2.new.numbers = omega (arith, c.requires.0, c.read_numbers-2.auto) in
    let i = length-take-le _ _ (room_is) in
    let q = length-take-le _ _ (room_qs) in
    (q ∙ sym i, marks_length _ c.requires.0 ∙ sym i, subst (λ (k : ℕ). k ≤ length c.args.output.now) (sym i) c.requires.2)

pub returns : goal.returns
returns c =
    let room_is : c.args.count ≤ length c.read_numbers.new.numbers = omega (arith, c.requires.0, c.read_numbers.auto) in
    let l = length-take-le _ _ (room_is) in
    λ t h.
    c.soft_pairs.ensures t (subst (λ (k : ℕ). t < k) (sym l) h)
    ∙ lists_pair c.args.bytes.now c.args.first c.args.count c.read_numbers.new.numbers c.read_numbers-2.new.numbers c.requires.0
    c.read_numbers.ensures c.read_numbers-2.ensures t h
