-- `inner_code::InnerCoder::in_range` meets its contract.
-- Assumes nothing.
use Prim.Native.Nat.{◌≤◌, ◌<◌}
use borrow.Author.Tests.{lt-ltb, le-ltb}
use lib.ListN.{get_or}
use Rattle.puncturing.specs.Step.{pattern_length}
use Rattle.puncturing.proofs.Places.{lengths, length_is}
use Rattle.inner_code.specs.Step.{in_range_by}
use Rattle.inner_code.proofs.InnerCoder.in_range.Goals as goal

pub returns-then-self-ge64 : goal.returns-then-self-ge64
unfolding in_range_by
returns-then-self-ge64 c = simp (lt-ltb _ _ c.if-rate-ge-MODES.false, le-ltb _ _ c.if-self-ge64.true)

pub returns-then-place-lengths : goal.returns-then-place-lengths
unfolding in_range_by
returns-then-place-lengths c =
    let outside_pattern : let a = c.args.self in pattern_length a.rate ≤ a.place = let a = c.args.self in
    let h : get_or lengths a.rate 0 ≤ a.place = c.if-place-lengths.true in
    rw (length_is a.rate c.if-rate-ge-MODES.false) at h in
    simp (lt-ltb _ _ c.if-rate-ge-MODES.false, lt-ltb _ _ c.if-self-ge64.false, le-ltb _ _ (outside_pattern))

pub held_count-requires : goal.held_count-requires
held_count-requires c =
    let in_pattern : let a = c.args.self in a.place < pattern_length a.rate = let a = c.args.self in
    let h : a.place < get_or lengths a.rate 0 = c.if-place-lengths.false in
    rw (length_is a.rate c.if-rate-ge-MODES.false) at h in
    (c.if-rate-ge-MODES.false, in_pattern)

pub returns : goal.returns
unfolding in_range_by
returns c =
    let in_pattern : let a = c.args.self in a.place < pattern_length a.rate = let a = c.args.self in
    let h : a.place < get_or lengths a.rate 0 = c.if-place-lengths.false in
    rw (length_is a.rate c.if-rate-ge-MODES.false) at h in
    rw c.held_count.ensures (simp (lt-ltb _ _ c.if-rate-ge-MODES.false, lt-ltb _ _ c.if-self-ge64.false, lt-ltb _ _ (in_pattern)))
