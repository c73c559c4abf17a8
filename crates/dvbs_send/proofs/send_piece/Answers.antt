-- `dvbs_send::send_piece` meets its contract.
-- Assumes nothing.
use mathlib.Core.Path.{refl, sym, ◌∙◌}
use mathlib.Core.Bool.{true≢false}
use Prim.Native.Nat.{◌≤◌}
use native.Mathlib.Omega.{arith}
use lib.ListN.{length, take}
use lib.Seq.{length-take-le}
use Rattle.sender_stream.specs.Feed.{OutputsFit, FeedsAll}
use Rattle.dvbs_send.proofs.Telling.{count_most}
use Rattle.sender_stream.proofs.Laws.{feeds_all}
use Rattle.dvbs_send.proofs.Going.{fed_whole, sent_more, sent_few, within_room, piece_fits}
use Rattle.dvbs_send.proofs.send_piece.Goals as goal

pub unreachable-requires : goal.unreachable-requires
unreachable-requires c =
    let fits : let a = c.args in
    OutputsFit a.sending.stream a.piece.now a.symbols.now a.answers.now = piece_fits c.requires.0 c.args.piece.now c.args.symbols.now c.args.answers.now c.requires.2 c.requires.3 c.requires.4 in
    fed_whole c.in_default.field-0 refl c.in_default.ensures fits

pub slice_bounds-write-end-2 : goal.slice_bounds-write-end-2
slice_bounds-write-end-2 c =
    let fits : let a = c.args in
    OutputsFit a.sending.stream a.piece.now a.symbols.now a.answers.now = piece_fits c.requires.0 c.args.piece.now c.args.symbols.now c.args.answers.now c.requires.2 c.requires.3 c.requires.4 in
    let fed : let a = c.args in
    FeedsAll a.sending.stream a.piece.now a.symbols.now a.answers.now 0 c.in-Ok.fed.count c.in-Ok.fed.packets c.in-Ok.fed.sending
    c.feed.new.output c.feed.new.answers = feeds_all c.in-Ok.ensures fits in
    let within : (c.in-Ok.fed.count ≤ length c.feed.new.output) × (c.in-Ok.fed.packets ≤ length c.feed.new.answers) = within_room (fed) (fits) c.feed.auto.output c.feed.auto.answers in
    (within).0

pub slice_bounds-write-end-3 : goal.slice_bounds-write-end-3
slice_bounds-write-end-3 c =
    let fits : let a = c.args in
    OutputsFit a.sending.stream a.piece.now a.symbols.now a.answers.now = piece_fits c.requires.0 c.args.piece.now c.args.symbols.now c.args.answers.now c.requires.2 c.requires.3 c.requires.4 in
    let fed : let a = c.args in
    FeedsAll a.sending.stream a.piece.now a.symbols.now a.answers.now 0 c.in-Ok.fed.count c.in-Ok.fed.packets c.in-Ok.fed.sending
    c.feed.new.output c.feed.new.answers = feeds_all c.in-Ok.ensures fits in
    let within : (c.in-Ok.fed.count ≤ length c.feed.new.output) × (c.in-Ok.fed.packets ≤ length c.feed.new.answers) = within_room (fed) (fits) c.feed.auto.output c.feed.auto.answers in
    sym (length-take-le _ _ (within).0)

pub returns-then-failed : goal.returns-then-failed
returns-then-failed c =
    let e = sym c.failed.ensures ∙ c.if-failed.true in
    record {
      file = c.write-output.ensures.file;
      whole = λ u bytes t. absurd (true≢false (sym e ∙ u));
      part = λ z. refl;
    }

pub slice_bounds-tell_answers-end : goal.slice_bounds-tell_answers-end
slice_bounds-tell_answers-end c =
    let fits : let a = c.args in
    OutputsFit a.sending.stream a.piece.now a.symbols.now a.answers.now = piece_fits c.requires.0 c.args.piece.now c.args.symbols.now c.args.answers.now c.requires.2 c.requires.3 c.requires.4 in
    let fed : let a = c.args in
    FeedsAll a.sending.stream a.piece.now a.symbols.now a.answers.now 0 c.in-Ok.fed.count c.in-Ok.fed.packets c.in-Ok.fed.sending
    c.feed.new.output c.feed.new.answers = feeds_all c.in-Ok.ensures fits in
    let within : (c.in-Ok.fed.count ≤ length c.feed.new.output) × (c.in-Ok.fed.packets ≤ length c.feed.new.answers) = within_room (fed) (fits) c.feed.auto.output c.feed.auto.answers in
    (within).1

pub slice_bounds-tell_answers-end-2 : goal.slice_bounds-tell_answers-end-2
slice_bounds-tell_answers-end-2 c =
    let fits : let a = c.args in
    OutputsFit a.sending.stream a.piece.now a.symbols.now a.answers.now = piece_fits c.requires.0 c.args.piece.now c.args.symbols.now c.args.answers.now c.requires.2 c.requires.3 c.requires.4 in
    let fed : let a = c.args in
    FeedsAll a.sending.stream a.piece.now a.symbols.now a.answers.now 0 c.in-Ok.fed.count c.in-Ok.fed.packets c.in-Ok.fed.sending
    c.feed.new.output c.feed.new.answers = feeds_all c.in-Ok.ensures fits in
    let within : (c.in-Ok.fed.count ≤ length c.feed.new.output) × (c.in-Ok.fed.packets ≤ length c.feed.new.answers) = within_room (fed) (fits) c.feed.auto.output c.feed.auto.answers in
    sym (length-take-le _ _ (within).1)

pub tell_answers-told-requires : goal.tell_answers-told-requires
tell_answers-told-requires c =
    let fits : let a = c.args in
    OutputsFit a.sending.stream a.piece.now a.symbols.now a.answers.now = piece_fits c.requires.0 c.args.piece.now c.args.symbols.now c.args.answers.now c.requires.2 c.requires.3 c.requires.4 in
    let fed : let a = c.args in
    FeedsAll a.sending.stream a.piece.now a.symbols.now a.answers.now 0 c.in-Ok.fed.count c.in-Ok.fed.packets c.in-Ok.fed.sending
    c.feed.new.output c.feed.new.answers = feeds_all c.in-Ok.ensures fits in
    let within : (c.in-Ok.fed.count ≤ length c.feed.new.output) × (c.in-Ok.fed.packets ≤ length c.feed.new.answers) = within_room (fed) (fits) c.feed.auto.output c.feed.auto.answers in
    let few : length (take c.in-Ok.fed.packets c.feed.new.answers) ≤ 64 = omega (arith, length-take-le c.in-Ok.fed.packets c.feed.new.answers (within).1, (within).1, c.feed.auto.answers, c.requires.4) in
    let p = c.requires in omega (arith, p.1, few)

pub overflow_add-result : goal.overflow_add-result
overflow_add-result c = let p = c.requires in record { fits = omega (arith, p.1, p.2) }

pub overflow_add-result-2 : goal.overflow_add-result-2
overflow_add-result-2 c =
    let fits : let a = c.args in
    OutputsFit a.sending.stream a.piece.now a.symbols.now a.answers.now = piece_fits c.requires.0 c.args.piece.now c.args.symbols.now c.args.answers.now c.requires.2 c.requires.3 c.requires.4 in
    let fed : let a = c.args in
    FeedsAll a.sending.stream a.piece.now a.symbols.now a.answers.now 0 c.in-Ok.fed.count c.in-Ok.fed.packets c.in-Ok.fed.sending
    c.feed.new.output c.feed.new.answers = feeds_all c.in-Ok.ensures fits in
    let within : (c.in-Ok.fed.count ≤ length c.feed.new.output) × (c.in-Ok.fed.packets ≤ length c.feed.new.answers) = within_room (fed) (fits) c.feed.auto.output c.feed.auto.answers in
    let few : length (take c.in-Ok.fed.packets c.feed.new.answers) ≤ 64 = omega (arith, length-take-le c.in-Ok.fed.packets c.feed.new.answers (within).1, (within).1, c.feed.auto.answers, c.requires.4) in
    let p = c.requires in
    let m = count_most (take c.in-Ok.fed.packets c.feed.new.answers) in
    record { fits = omega (arith, p.1, sent_few p.0, c.tell_answers-told.ensures.1, m, few) }

pub returns : goal.returns
returns c =
    let fits : let a = c.args in
    OutputsFit a.sending.stream a.piece.now a.symbols.now a.answers.now = piece_fits c.requires.0 c.args.piece.now c.args.symbols.now c.args.answers.now c.requires.2 c.requires.3 c.requires.4 in
    let fed : let a = c.args in
    FeedsAll a.sending.stream a.piece.now a.symbols.now a.answers.now 0 c.in-Ok.fed.count c.in-Ok.fed.packets c.in-Ok.fed.sending
    c.feed.new.output c.feed.new.answers = feeds_all c.in-Ok.ensures fits in
    let a = c.args in
    let e = sym c.failed.ensures ∙ c.if-failed.false in
    record {
      file = c.write-output.ensures.file;
      whole = λ u bytes t.
          sent_more a.mode bytes a.piece.now t a.symbols.now a.answers.now (fed) c.write-output.ensures u c.tell_answers-told.ensures.0
          c.tell_answers-told.ensures.1;
      part = λ z. absurd (true≢false (sym z ∙ e));
    }
