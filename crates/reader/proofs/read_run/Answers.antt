-- `reader::read_run` meets its contract.
-- Assumes nothing.
use mathlib.Core.Path.{sym}
use mathlib.Core.Bool.{true}
use Prim.Native.Nat.{◌≤◌}
use native.Mathlib.Omega.{arith}
use lib.ListN.{length}
use lib.Seq.{length-take-le}
use Rattle.reader.specs.Read.{valid}
use Rattle.reader.proofs.Outcome.{Passed, below_all, few}
use Rattle.reader.proofs.Calls.{hard_tested, hard_readable, hard_more, hard_read}
use Rattle.reader.proofs.read_run.Goals as goal

pub hard_pairs-requires : goal.hard_pairs-requires
hard_pairs-requires c =
    let tested : let a = c.args in Passed a.rate a.memory true (length a.symbols.now) (valid a.symbols.now) (length a.output.now) = let a = c.args in
    hard_tested a.rate a.memory a.symbols.now a.output.now c.in_ok-answer_due.ensures c.largest_of-valid.ensures in
    let p = tested in (below_all 4 _ p.symbols_pass, few p)

pub slice_bounds-pairs-end : goal.slice_bounds-pairs-end
slice_bounds-pairs-end c =
    let tested : let a = c.args in Passed a.rate a.memory true (length a.symbols.now) (valid a.symbols.now) (length a.output.now) = let a = c.args in
    hard_tested a.rate a.memory a.symbols.now a.output.now c.in_ok-answer_due.ensures c.largest_of-valid.ensures in
    let long : length c.args.symbols.now ≤ length c.hard_pairs.new.output = omega (arith, few (tested), c.hard_pairs.auto) in
    omega (arith, long)

pub slice_bounds-read_pairs-end : goal.slice_bounds-read_pairs-end
slice_bounds-read_pairs-end c =
    let tested : let a = c.args in Passed a.rate a.memory true (length a.symbols.now) (valid a.symbols.now) (length a.output.now) = let a = c.args in
    hard_tested a.rate a.memory a.symbols.now a.output.now c.in_ok-answer_due.ensures c.largest_of-valid.ensures in
    let long : length c.args.symbols.now ≤ length c.hard_pairs.new.output = omega (arith, few (tested), c.hard_pairs.auto) in
    sym (length-take-le _ _ long)

pub read_pairs-read-requires : goal.read_pairs-read-requires
read_pairs-read-requires c =
    let tested : let a = c.args in Passed a.rate a.memory true (length a.symbols.now) (valid a.symbols.now) (length a.output.now) = let a = c.args in
    hard_tested a.rate a.memory a.symbols.now a.output.now c.in_ok-answer_due.ensures c.largest_of-valid.ensures in
    let long : length c.args.symbols.now ≤ length c.hard_pairs.new.output = omega (arith, few (tested), c.hard_pairs.auto) in
    let a = c.args in
    hard_readable a.rate a.memory a.symbols.now a.output.now (tested) c.hard_pairs.new.output c.hard_pairs.ensures (long)

pub overflow_mul-excess : goal.overflow_mul-excess
overflow_mul-excess c =
    let tested : let a = c.args in Passed a.rate a.memory true (length a.symbols.now) (valid a.symbols.now) (length a.output.now) = let a = c.args in
    hard_tested a.rate a.memory a.symbols.now a.output.now c.in_ok-answer_due.ensures c.largest_of-valid.ensures in
    omega (arith, few (tested))

pub overflow_sub-result : goal.overflow_sub-result
overflow_sub-result c =
    let tested : let a = c.args in Passed a.rate a.memory true (length a.symbols.now) (valid a.symbols.now) (length a.output.now) = let a = c.args in
    hard_tested a.rate a.memory a.symbols.now a.output.now c.in_ok-answer_due.ensures c.largest_of-valid.ensures in
    let long : length c.args.symbols.now ≤ length c.hard_pairs.new.output = omega (arith, few (tested), c.hard_pairs.auto) in
    let a = c.args in
    omega (arith, hard_more a.rate a.memory a.symbols.now a.output.now (tested) c.hard_pairs.new.output c.hard_pairs.ensures (long) c.read_pairs-read.ensures)

pub returns : goal.returns
returns c =
    let tested : let a = c.args in Passed a.rate a.memory true (length a.symbols.now) (valid a.symbols.now) (length a.output.now) = let a = c.args in
    hard_tested a.rate a.memory a.symbols.now a.output.now c.in_ok-answer_due.ensures c.largest_of-valid.ensures in
    let long : length c.args.symbols.now ≤ length c.hard_pairs.new.output = omega (arith, few (tested), c.hard_pairs.auto) in
    let a = c.args in
    hard_read a.rate a.memory a.symbols.now a.output.now (tested) c.hard_pairs.new.output c.hard_pairs.ensures (long) c.read_pairs-read.ensures
