-- `sender_stream::send_whole` meets its contract. The measure is what is left of the piece, with the bytes held.
-- Assumes nothing.
use mathlib.Core.Path.{◌≡◌}
use native.Mathlib.Omega.{arith}
use lib.ListN.{length}
use Rattle.answer.proofs.Positive.{number_positive}
use Rattle.sender_stream.proofs.Laws.{sending_range}
use Rattle.sender_stream.proofs.Progress.{ready_of, progress_start, output_length, answers_length, count_within, packets_fit, progress_total, progress_more, progress_sent, progress_end}
use borrow.Author.Rules.{rules}
use Rattle.sender_stream.proofs.send_whole.Goals as goal

pub loop-held-init : goal.loop-held-init
loop-held-init c =
    let cells : length c.args.sending.sender.interleaver.branches.cells ≡ 1122 = search rules in
    let positions : length c.args.sending.sender.interleaver.branches.positions ≡ 12 = search rules in
    let r = sending_range c.args.sending c.requires.range in
    progress_start c.args.sending c.args.piece.now c.args.output.now c.args.answers.now (ready_of c.args.sending.sender (cells) (positions) r.0 c.requires.sent) r.1

pub slice_bounds-send_joined-count-in-loop-held : goal.slice_bounds-send_joined-count-in-loop-held
slice_bounds-send_joined-count-in-loop-held c =
    let size : length c.args.sending.pending ≡ 188 = search rules in
    count_within (size) c.requires c.loop-held.invariant

pub slice_bounds-send_joined-start-in-loop-held : goal.slice_bounds-send_joined-start-in-loop-held
slice_bounds-send_joined-start-in-loop-held c =
    let size : length c.args.sending.pending ≡ 188 = search rules in
    count_within (size) c.requires c.loop-held.invariant

-- the sender does not refuse a packet
pub returns-in_err-sent : goal.returns-in_err-sent
returns-in_err-sent c =
    let size : length c.args.sending.pending ≡ 188 = search rules in
    let r = c.in_err-sent.ensures in
    absurd (progress_sent (size) c.requires c.loop-held.invariant c.loop-held-test.true r.sends (number_positive c.in_err-sent.field-0.0) r.refused)

pub bounds-answers-packets : goal.bounds-answers-packets
bounds-answers-packets c =
    let size : length c.args.sending.pending ≡ 188 = search rules in
    packets_fit (size) c.requires c.loop-held.invariant c.loop-held-test.true

pub overflow_add-count : goal.overflow_add-count
overflow_add-count c =
    let size : length c.args.sending.pending ≡ 188 = search rules in
    omega (arith, progress_total (size) c.requires c.loop-held.invariant c.loop-held-test.true c.in_ok-sent.ensures.sends)

pub overflow_add-packets : goal.overflow_add-packets
overflow_add-packets c =
    let size : length c.args.sending.pending ≡ 188 = search rules in
    omega (arith, packets_fit (size) c.requires c.loop-held.invariant c.loop-held-test.true)

pub loop-held-preserved : goal.loop-held-preserved
loop-held-preserved c =
    let size : length c.args.sending.pending ≡ 188 = search rules in
    progress_more (size) c.requires c.loop-held.invariant c.loop-held-test.true c.in_ok-sent.ensures.sends c.number.ensures

pub shape_of-output : goal.shape_of-output
shape_of-output c =
    let size : length c.args.sending.pending ≡ 188 = search rules in
    output_length (size) c.requires c.loop-held.invariant

pub shape_of-answers : goal.shape_of-answers
shape_of-answers c =
    let size : length c.args.sending.pending ≡ 188 = search rules in
    answers_length (size) c.requires c.loop-held.invariant

pub returns : goal.returns
returns c =
    let size : length c.args.sending.pending ≡ 188 = search rules in
    progress_end (size) c.requires c.loop-held.invariant c.loop-held-test.false c.joined.result c.joined.ensures
