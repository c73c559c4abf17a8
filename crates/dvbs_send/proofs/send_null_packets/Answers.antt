-- `dvbs_send::send_null_packets` meets its contract.
-- Assumes nothing.
use mathlib.Core.Path.{refl, sym}
use mathlib.Core.List.{[]}
use Prim.Native.Nat.{◌≤◌}
use lib.ListN.{length, replicate}
use lib.Seq.{length-take-le}
use Rattle.sender_stream.specs.Feed.{holding, FeedsAll}
use Rattle.sender_stream.proofs.History.{no_packets}
use Rattle.sender_stream.proofs.Laws.{feeds_all}
use Rattle.dvbs_send.proofs.Going.{fed_whole, within_room, nulls_fit, last_flushed}
use Rattle.dvbs_send.proofs.send_null_packets.Goals as goal

pub unreachable-requires : goal.unreachable-requires
unreachable-requires c = fed_whole c.in_default.field-0 refl c.in_default.ensures (nulls_fit c.requires)

pub slice_bounds-symbols-end : goal.slice_bounds-symbols-end
slice_bounds-symbols-end c =
    let fed : let s = c.args.sending in
    FeedsAll (holding s.stream.sender []) no_packets (replicate 17952 0) (replicate 11 0) 0 c.in-Ok.fed.count c.in-Ok.fed.packets
    c.in-Ok.fed.sending c.feed.new.output c.feed.new.answers = feeds_all c.in-Ok.ensures (nulls_fit c.requires) in
    let within : c.in-Ok.fed.count ≤ length c.feed.new.output = (within_room (fed) (nulls_fit c.requires) c.feed.auto.output c.feed.auto.answers).0 in
    within

pub slice_bounds-write-end-2 : goal.slice_bounds-write-end-2
slice_bounds-write-end-2 c =
    let fed : let s = c.args.sending in
    FeedsAll (holding s.stream.sender []) no_packets (replicate 17952 0) (replicate 11 0) 0 c.in-Ok.fed.count c.in-Ok.fed.packets
    c.in-Ok.fed.sending c.feed.new.output c.feed.new.answers = feeds_all c.in-Ok.ensures (nulls_fit c.requires) in
    let within : c.in-Ok.fed.count ≤ length c.feed.new.output = (within_room (fed) (nulls_fit c.requires) c.feed.auto.output c.feed.auto.answers).0 in
    sym (length-take-le _ _ within)

pub returns : goal.returns
returns c =
    let fed : let s = c.args.sending in
    FeedsAll (holding s.stream.sender []) no_packets (replicate 17952 0) (replicate 11 0) 0 c.in-Ok.fed.count c.in-Ok.fed.packets
    c.in-Ok.fed.sending c.feed.new.output c.feed.new.answers = feeds_all c.in-Ok.ensures (nulls_fit c.requires) in
    last_flushed c.args.mode c.args.sending (fed) c.write.ensures
