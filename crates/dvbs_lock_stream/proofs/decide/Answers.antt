-- `dvbs_lock_stream::decide` meets its contract.
-- Assumes nothing.
use mathlib.Core.Path.{◌≡◌, sym, ◌∙◌}
use Prim.Native.Nat.{◌≤◌, min}
use native.Mathlib.Omega.{arith}
use lib.ListN.{length}
use lib.Seq.{length-take-le}
use Rattle.reader.proofs.SoftDecisions.{OneLength}
use Rattle.dvbs_lock_stream.proofs.Feeding.{points_small, points_piece}
use Rattle.dvbs_lock_stream.proofs.decide.Goals as goal

pub slice_bounds-soft_pairs-end : goal.slice_bounds-soft_pairs-end
slice_bounds-soft_pairs-end c =
    let few : (c.min-some.result ≡ min 1632 (length c.args.i.now)) × (c.min-some.result ≤ length c.args.i.now) × (c.min-some.result ≤ 1632) = (omega (arith, c.min-some.ensures), omega (arith, c.min-some.ensures), omega (arith, c.min-some.ensures)) in
    sym (length-take-le _ _ (few).1)

pub slice_bounds-soft_pairs-end-2 : goal.slice_bounds-soft_pairs-end-2
slice_bounds-soft_pairs-end-2 c =
    let few : (c.min-some.result ≡ min 1632 (length c.args.i.now)) × (c.min-some.result ≤ length c.args.i.now) × (c.min-some.result ≤ 1632) = (omega (arith, c.min-some.ensures), omega (arith, c.min-some.ensures), omega (arith, c.min-some.ensures)) in
    sym (length-take-le _ _ (omega (arith, (few).1, c.requires.0)))

pub slice_bounds-soft_pairs-end-3 : goal.slice_bounds-soft_pairs-end-3
slice_bounds-soft_pairs-end-3 c =
    let few : (c.min-some.result ≡ min 1632 (length c.args.i.now)) × (c.min-some.result ≤ length c.args.i.now) × (c.min-some.result ≤ 1632) = (omega (arith, c.min-some.ensures), omega (arith, c.min-some.ensures), omega (arith, c.min-some.ensures)) in
    sym (length-take-le _ _ (omega (arith, (few).1, c.requires.1)))

pub soft_pairs-requires : goal.soft_pairs-requires
soft_pairs-requires c =
    let few : (c.min-some.result ≡ min 1632 (length c.args.i.now)) × (c.min-some.result ≤ length c.args.i.now) × (c.min-some.result ≤ 1632) = (omega (arith, c.min-some.ensures), omega (arith, c.min-some.ensures), omega (arith, c.min-some.ensures)) in
    let n = c.min-some.result in
    let f = few in
    let i = length-take-le n c.args.i.now f.1 in
    let q = length-take-le n c.args.q.now (omega (arith, f.1, c.requires.0)) in
    let l = length-take-le n c.args.lost.now (omega (arith, f.1, c.requires.1)) in
    (q ∙ sym i, l ∙ sym i, omega (arith, i, f.2, c.requires.2))

pub returns : goal.returns
returns c =
    let few : (c.min-some.result ≡ min 1632 (length c.args.i.now)) × (c.min-some.result ≤ length c.args.i.now) × (c.min-some.result ≤ 1632) = (omega (arith, c.min-some.ensures), omega (arith, c.min-some.ensures), omega (arith, c.min-some.ensures)) in
    let n = c.min-some.result in
    let f = few in
    let o : OneLength c.args.i.now c.args.q.now c.args.lost.now = record { qs_size = c.requires.0; lost_size = c.requires.1 } in
    let pairs = c.soft_pairs.new.output in
    let long : n ≤ length pairs = omega (arith, f.2, c.requires.2, c.soft_pairs.auto) in
    (f.0, points_piece c.args.i.now c.args.q.now c.args.lost.now o n f.0 pairs long c.soft_pairs.ensures, points_small c.args.i.now c.args.q.now c.args.lost.now o n f.0 pairs long c.soft_pairs.ensures)
