-- `inner_code::grouped::unpack_group` meets its contract.
-- Assumes nothing.
use mathlib.Core.Path.{◌≡◌, ap, ◌∙◌}
use Prim.Native.Nat.{ℕ, ◌+◌, ◌-◌, ◌*◌, ◌≤◌}
use native.Mathlib.Nat.{add-sub_cancel_left}
use native.Mathlib.Omega.{arith}
use borrow.Rule.Slice.PartMut.{mid_of, mid_len, same_len_mid}
use lib.ListN.{length, get_or}
use Rattle.inner_code.specs.Groups.{digit_list}
use Rattle.inner_code.proofs.Groups.{length_digits, filled_none, filled_more, part_fits}
use Rattle.inner_code.proofs.grouped.unpack_group.Goals as goal

pub loop-j-init : goal.loop-j-init
loop-j-init c = (c.requires.2, filled_none _ _ _)

pub loop-j-preserved : goal.loop-j-preserved
loop-j-preserved c =
    let fits : let per = c.args.per in per * c.loop-j.j + per ≤ 8 = part_fits c.args.per c.loop-j.j (length c.args.bytes.now) 8 c.loop-j-test.true c.requires.1 in
    let l = c.loop-j in
    let u = c.unpack_byte in
    let n = c.args.per * l.j in
    let end = n + c.args.per in
    let inside : end ≤ length l.output = omega (arith, fits, l.invariant.0) in
    let room : length (mid_of n (end - n) l.output) ≡ c.args.per = mid_len n end l.output inside ∙ add-sub_cancel_left n c.args.per in (
      same_len_mid n (end - n) l.output u.new.output u.auto.output ∙ l.invariant.0,
      filled_more l.invariant.1 _ (end - n) (u.ensures ∙ ap (λ (k : ℕ). digit_list c.args.base k (get_or c.args.bytes.now l.j 0)) room)
          (length_digits c.args.base c.args.per (get_or c.args.bytes.now l.j 0)) inside,
    )
