-- `inner_code::grouped::uncoded_digits` meets its contract.
-- Assumes nothing.
use mathlib.Core.Path.{◌≡◌, ap, ◌∙◌}
use Prim.Native.Nat.{ℕ, suc, ◌+◌, ◌-◌, ◌*◌, ◌≤◌}
use native.Mathlib.Nat.{add-sub_cancel_left}
use native.Mathlib.Omega.{arith}
use borrow.Rule.Slice.PartMut.{same_len_mid}
use lib.ListN.{length, get_or}
use Rattle.inner_code.specs.Groups.{digit_list}
use Rattle.inner_code.proofs.Groups.{length_digits, length_joined, joined_same, filled_none, filled_more, part_fits, part_digits}
use Rattle.inner_code.proofs.grouped.uncoded_digits.Invariants.{group}
use Rattle.inner_code.proofs.grouped.uncoded_digits.Goals as goal

pub loop-i-init : goal.loop-i-init
loop-i-init c = (c.requires.3, filled_none _ _ _)

pub loop-i-preserved : goal.loop-i-preserved
loop-i-preserved c =
    let fits : (c.args.others + 1) * c.loop-i.i + (c.args.others + 1) ≤ 204 = part_fits (c.args.others + 1) c.loop-i.i c.args.groups 204 c.loop-i-test.true c.requires.2 in
    let l = c.loop-i in
    let u = c.unpack_group in
    let others = c.args.others in
    let base = c.args.base in
    let per = c.args.per in
    let block = c.args.block.now in
    let first = (others + 1) * l.i in
    let at = first + 1 in
    let n = 8 * l.i in
    let within : at + others ≤ length block = omega (arith, fits) in
    let inside : n + 8 ≤ length l.uncoded = omega (arith, l.invariant.0) in
    let digits : u.new.output ≡ group block others base per l.i
    = u.ensures
    ∙ part_digits base per at others block (at + others - at) within (add-sub_cancel_left at others)
    ∙ joined_same others (λ j. digit_list base per (get_or block (at + j) 0)) (λ j. digit_list base per (get_or block (first + suc j) 0))
    (λ j h. ap (λ (k : ℕ). digit_list base per (get_or block k 0)) (next first j)) in
    let eight : length (group block others base per l.i) ≡ 8
    = length_joined others per _ (λ j. length_digits base per (get_or block (first + suc j) 0)) ∙ c.requires.1 in (
      same_len_mid n (n + 8 - n) l.uncoded u.new.output u.auto.output ∙ l.invariant.0,
      filled_more l.invariant.1 _ (n + 8 - n) digits eight inside,
    )
  where
    next : (k j : ℕ) → k + 1 + j ≡ k + suc j
    next k j = omega arith
