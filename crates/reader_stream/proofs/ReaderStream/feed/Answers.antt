-- `reader_stream::ReaderStream::feed` meets its contract.
-- Assumes nothing.
use mathlib.Core.Path.{refl, sym, ◌∙◌}
use Prim.Native.Nat.{◌+◌, ◌-◌, ◌*◌, ◌<◌, ◌≤◌}
use native.Mathlib.Omega.{arith}
use borrow.Rule.Slice.PartMut.{same_len_mid}
use lib.ListN.{length, drop}
use lib.Seq.{length-take-le}
use Rattle.reader_stream.proofs.Runs.{all_take, all_drop}
use Rattle.bit_packing.proofs.Packing.{packs_fit}
use Rattle.reader_stream.proofs.Feeding.{feeding_none, fed_some, pack_fits, feeding_more, count_fits, feeding_all}
use Rattle.reader_stream.proofs.ReaderStream.feed.Goals as goal

pub loop-at-init : goal.loop-at-init
loop-at-init c = (feeding_none c.args.self c.requires.0 c.args.pairs.now c.args.output.now, refl, refl)

pub feed-taken-requires : goal.feed-taken-requires
feed-taken-requires c =
    let k = c.loop-at in (
      k.invariant.0.ready,
      all_take (length c.args.pairs.now - k.at) (drop k.at c.args.pairs.now) (all_drop k.at c.args.pairs.now c.requires.1),
      omega (arith, k.invariant.1, c.requires.2),
    )

pub slice_bounds-pack-end : goal.slice_bounds-pack-end
slice_bounds-pack-end c =
    let enough : let a = c.args in
    a.self.held + 2 * (a.self.runs.count + length a.pairs.now) < 8 * length c.loop-at.output + 8 = omega (arith, c.loop-at.invariant.2, c.requires.3) in
    let some : let f = c.feed-taken.result in
    let l = c.loop-at in
    (0 < f.taken) × (l.at + f.taken ≤ length c.args.pairs.now) × (f.count ≤ 1632) = fed_some c.requires.0.runs_ready c.requires.0.few (enough) c.loop-at-test.true c.loop-at.invariant.0 c.feed-taken.ensures.0 c.feed-taken.ensures.1 in
    let within : c.feed-taken.result.count ≤ length c.feed-taken.new.output = omega (arith, (some).2, c.loop-at.invariant.1, c.requires.2, c.feed-taken.auto) in
    within

pub slice_bounds-pack-end-in-loop-at : goal.slice_bounds-pack-end-in-loop-at
slice_bounds-pack-end-in-loop-at c =
    let enough : let a = c.args in
    a.self.held + 2 * (a.self.runs.count + length a.pairs.now) < 8 * length c.loop-at.output + 8 = omega (arith, c.loop-at.invariant.2, c.requires.3) in
    let some : let f = c.feed-taken.result in
    let l = c.loop-at in
    (0 < f.taken) × (l.at + f.taken ≤ length c.args.pairs.now) × (f.count ≤ 1632) = fed_some c.requires.0.runs_ready c.requires.0.few (enough) c.loop-at-test.true c.loop-at.invariant.0 c.feed-taken.ensures.0 c.feed-taken.ensures.1 in
    let within : c.feed-taken.result.count ≤ length c.feed-taken.new.output = omega (arith, (some).2, c.loop-at.invariant.1, c.requires.2, c.feed-taken.auto) in
    sym (length-take-le _ _ (within))

pub slice_bounds-pack-count : goal.slice_bounds-pack-count
slice_bounds-pack-count c = packs_fit c.loop-at.invariant.0.packed

pub slice_bounds-pack-start : goal.slice_bounds-pack-start
slice_bounds-pack-start c = packs_fit c.loop-at.invariant.0.packed

pub pack-packed-requires : goal.pack-packed-requires
pack-packed-requires c =
    let enough : let a = c.args in
    a.self.held + 2 * (a.self.runs.count + length a.pairs.now) < 8 * length c.loop-at.output + 8 = omega (arith, c.loop-at.invariant.2, c.requires.3) in
    pack_fits c.requires.0.runs_ready c.requires.0.few (enough) c.loop-at-test.true c.loop-at.invariant.0 c.feed-taken.ensures.0 c.feed-taken.ensures.1

pub overflow_add-count : goal.overflow_add-count
overflow_add-count c =
    let enough : let a = c.args in
    a.self.held + 2 * (a.self.runs.count + length a.pairs.now) < 8 * length c.loop-at.output + 8 = omega (arith, c.loop-at.invariant.2, c.requires.3) in
    let k = c.loop-at in
    omega (arith, c.well_formed, k.invariant.2, count_fits c.requires.0.runs_ready c.requires.0.few (enough) c.loop-at-test.true k.invariant.0 c.feed-taken.ensures.0 c.feed-taken.ensures.1 c.pack-packed.ensures c.pack-packed.auto.output)

pub overflow_add-at : goal.overflow_add-at
overflow_add-at c =
    let enough : let a = c.args in
    a.self.held + 2 * (a.self.runs.count + length a.pairs.now) < 8 * length c.loop-at.output + 8 = omega (arith, c.loop-at.invariant.2, c.requires.3) in
    let some : let f = c.feed-taken.result in
    let l = c.loop-at in
    (0 < f.taken) × (l.at + f.taken ≤ length c.args.pairs.now) × (f.count ≤ 1632) = fed_some c.requires.0.runs_ready c.requires.0.few (enough) c.loop-at-test.true c.loop-at.invariant.0 c.feed-taken.ensures.0 c.feed-taken.ensures.1 in
    omega (arith, c.well_formed, (some).1)

pub loop-at-smaller : goal.loop-at-smaller
loop-at-smaller c =
    let enough : let a = c.args in
    a.self.held + 2 * (a.self.runs.count + length a.pairs.now) < 8 * length c.loop-at.output + 8 = omega (arith, c.loop-at.invariant.2, c.requires.3) in
    let some : let f = c.feed-taken.result in
    let l = c.loop-at in
    (0 < f.taken) × (l.at + f.taken ≤ length c.args.pairs.now) × (f.count ≤ 1632) = fed_some c.requires.0.runs_ready c.requires.0.few (enough) c.loop-at-test.true c.loop-at.invariant.0 c.feed-taken.ensures.0 c.feed-taken.ensures.1 in
    let t = some in omega (arith, t.0, t.1)

pub loop-at-preserved : goal.loop-at-preserved
loop-at-preserved c =
    let enough : let a = c.args in
    a.self.held + 2 * (a.self.runs.count + length a.pairs.now) < 8 * length c.loop-at.output + 8 = omega (arith, c.loop-at.invariant.2, c.requires.3) in
    let k = c.loop-at in (
      feeding_more c.requires.0.runs_ready c.requires.0.few (enough) c.loop-at-test.true k.invariant.0 c.feed-taken.ensures.0 c.feed-taken.ensures.1 c.pack-packed.ensures,
      omega (arith, c.feed-taken.auto, k.invariant.1),
      same_len_mid k.count (length k.output - k.count) k.output c.pack-packed.new.output c.pack-packed.auto.output ∙ k.invariant.2,
    )

pub shape_of-bits : goal.shape_of-bits
shape_of-bits c = c.loop-at.invariant.1

pub shape_of-output : goal.shape_of-output
shape_of-output c = c.loop-at.invariant.2

pub returns : goal.returns
returns c = feeding_all c.args.self c.loop-at.invariant.0 c.loop-at-test.false
