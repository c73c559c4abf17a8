-- `reader::read_soft_run` meets its contract.
-- Assumes nothing.
use mathlib.Core.Path.{sym}
use mathlib.Core.Bool.{true}
use Prim.Native.Nat.{◌≤◌}
use native.Mathlib.Omega.{arith}
use lib.ListN.{length}
use lib.Seq.{length-take-le}
use Rattle.reader.specs.Read.{sound}
use Rattle.reader.proofs.Outcome.{Passed, few}
use Rattle.reader.proofs.Calls.{soft_tested, one_length, soft_readable, soft_read}
use Rattle.reader.proofs.read_soft_run.Goals as goal

pub soft_pairs-requires : goal.soft_pairs-requires
soft_pairs-requires c =
    let tested : let a = c.args in Passed a.rate a.memory (sound a.is.now a.qs.now a.lost.now) (length a.is.now) true (length a.output.now) = let a = c.args in
    soft_tested a.rate a.memory a.is.now a.qs.now a.lost.now a.output.now c.in_ok-answer_due.ensures c.is_sound-lists.ensures in
    let a = c.args in
    let p = tested in
    let o = one_length a.rate a.memory a.is.now a.qs.now a.lost.now a.output.now p in
    (o.qs_size, o.lost_size, few p)

pub slice_bounds-pairs-end : goal.slice_bounds-pairs-end
slice_bounds-pairs-end c =
    let tested : let a = c.args in Passed a.rate a.memory (sound a.is.now a.qs.now a.lost.now) (length a.is.now) true (length a.output.now) = let a = c.args in
    soft_tested a.rate a.memory a.is.now a.qs.now a.lost.now a.output.now c.in_ok-answer_due.ensures c.is_sound-lists.ensures in
    let long : length c.args.is.now ≤ length c.soft_pairs.new.output = omega (arith, few (tested), c.soft_pairs.auto) in
    omega (arith, long)

pub slice_bounds-read_pairs-end : goal.slice_bounds-read_pairs-end
slice_bounds-read_pairs-end c =
    let tested : let a = c.args in Passed a.rate a.memory (sound a.is.now a.qs.now a.lost.now) (length a.is.now) true (length a.output.now) = let a = c.args in
    soft_tested a.rate a.memory a.is.now a.qs.now a.lost.now a.output.now c.in_ok-answer_due.ensures c.is_sound-lists.ensures in
    let long : length c.args.is.now ≤ length c.soft_pairs.new.output = omega (arith, few (tested), c.soft_pairs.auto) in
    sym (length-take-le _ _ long)

pub read_pairs-requires : goal.read_pairs-requires
read_pairs-requires c =
    let tested : let a = c.args in Passed a.rate a.memory (sound a.is.now a.qs.now a.lost.now) (length a.is.now) true (length a.output.now) = let a = c.args in
    soft_tested a.rate a.memory a.is.now a.qs.now a.lost.now a.output.now c.in_ok-answer_due.ensures c.is_sound-lists.ensures in
    let long : length c.args.is.now ≤ length c.soft_pairs.new.output = omega (arith, few (tested), c.soft_pairs.auto) in
    let a = c.args in
    soft_readable a.rate a.memory a.is.now a.qs.now a.lost.now a.output.now (tested) c.soft_pairs.new.output c.soft_pairs.ensures (long)

pub returns : goal.returns
returns c =
    let tested : let a = c.args in Passed a.rate a.memory (sound a.is.now a.qs.now a.lost.now) (length a.is.now) true (length a.output.now) = let a = c.args in
    soft_tested a.rate a.memory a.is.now a.qs.now a.lost.now a.output.now c.in_ok-answer_due.ensures c.is_sound-lists.ensures in
    let long : length c.args.is.now ≤ length c.soft_pairs.new.output = omega (arith, few (tested), c.soft_pairs.auto) in
    let a = c.args in
    soft_read a.rate a.memory a.is.now a.qs.now a.lost.now a.output.now (tested) c.soft_pairs.new.output c.soft_pairs.ensures (long) c.read_pairs.ensures
