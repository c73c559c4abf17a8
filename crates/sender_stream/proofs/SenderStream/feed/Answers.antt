-- `sender_stream::SenderStream::feed` meets its contract.
-- Assumes nothing.
use mathlib.Core.Path.{◌≡◌, ap, sym, ◌∙◌}
use mathlib.Core.Bool.{true}
use mathlib.Core.List.{List}
use Prim.Native.Nat.{ℕ, ◌*◌, ◌<◌}
use native.Mathlib.Omega.{arith}
use borrow.Author.Tests.{lt-ltb, le-ltb, ltb-false}
use lib.Dec.{ltb}
use lib.ListN.{length}
use Rattle.puncturing.specs.Mode.{mode_of, block_bits}
use Rattle.puncturing.specs.Step.{symbols_in}
use Rattle.inner_code.proofs.Coder.{rate_known}
use Rattle.sender.specs.Send.{is_sent}
use Rattle.sender.proofs.Ready.{Ready}
use Rattle.sender_stream.specs.Feed.{fed_symbols, sender_stream_in_range, sender_feed_number, OutputsFit, FeedsSender, refused, fed}
use Rattle.sender_stream.specs.declared.SenderStream.{SenderStream}
use Rattle.sender_stream.proofs.Counts.{length_fed}
use Rattle.sender_stream.proofs.Progress.{ready_of}
use Rattle.sender_stream.proofs.Laws.{sending_range}
use borrow.Author.Rules.{rules}
use Rattle.sender_stream.proofs.SenderStream.feed.Goals as goal

refuse : (w : SenderStream) (piece output answers : List ℕ) (n : ℕ) → sender_feed_number w piece output answers ≡ n → 0 < n → FeedsSender w piece output answers n 0 0 w output answers
refuse w piece output answers n e h = refused (sym e) (λ z. omega arith)

pub returns-then-not-in_range : goal.returns-then-not-in_range
returns-then-not-in_range c =
    refuse c.args.self c.args.piece.now c.args.output.now c.args.answers.now 5
    (simp (sym c.in_range.ensures ∙ c.if-not-in_range.true)) (omega arith)

pub returns-then-not-is_sent : goal.returns-then-not-is_sent
returns-then-not-is_sent c =
    let good : sender_stream_in_range c.args.self ≡ true = sym c.in_range.ensures ∙ c.if-not-in_range.false in
    refuse c.args.self c.args.piece.now c.args.output.now c.args.answers.now 6
    (simp (good, sym c.is_sent.ensures ∙ c.if-not-is_sent.true)) (omega arith)

pub whole_count-packets-requires : goal.whole_count-packets-requires
whole_count-packets-requires c =
    let good : sender_stream_in_range c.args.self ≡ true = sym c.in_range.ensures ∙ c.if-not-in_range.false in
    let ranged : sender_stream_in_range c.args.self ≡ true = good in
    (sending_range c.args.self (ranged)).1

pub is_short-requires : goal.is_short-requires
is_short-requires c =
    let cells : length c.args.self.sender.interleaver.branches.cells ≡ 1122 = search rules in
    let positions : length c.args.self.sender.interleaver.branches.positions ≡ 12 = search rules in
    let sent : is_sent mode_of c.args.self.sender ≡ true = sym c.is_sent.ensures ∙ c.if-not-is_sent.false in
    let good : sender_stream_in_range c.args.self ≡ true = sym c.in_range.ensures ∙ c.if-not-in_range.false in
    let ranged : sender_stream_in_range c.args.self ≡ true = good in
    let ready : Ready mode_of c.args.self.sender = ready_of c.args.self.sender (cells) (positions) (sending_range c.args.self (ranged)).0 (sent) in
    let g = (ready).coder in (rate_known c.args.self.sender.coder g, g.place)

pub returns-then-is_short : goal.returns-then-is_short
returns-then-is_short c =
    let sent : is_sent mode_of c.args.self.sender ≡ true = sym c.is_sent.ensures ∙ c.if-not-is_sent.false in
    let good : sender_stream_in_range c.args.self ≡ true = sym c.in_range.ensures ∙ c.if-not-in_range.false in
    let ranged : sender_stream_in_range c.args.self ≡ true = good in
    let size : length c.args.self.pending ≡ 188 = search rules in
    let cells : length c.args.self.sender.interleaver.branches.cells ≡ 1122 = search rules in
    let positions : length c.args.self.sender.interleaver.branches.positions ≡ 12 = search rules in
    let ready : Ready mode_of c.args.self.sender = ready_of c.args.self.sender (cells) (positions) (sending_range c.args.self (ranged)).0 (sent) in
    let short : let a = c.args in
    ltb (length a.output.now) (length (fed_symbols a.self a.piece.now)) ≡ c.is_short.result = let coder = c.args.self.sender.coder in
    let most = length c.args.output.now in
    ap (ltb most) (length_fed c.args.self c.args.piece.now (ready) (size) (sending_range c.args.self (ranged)).1)
    ∙ ap (λ (n : ℕ). ltb most (symbols_in coder.rate coder.place (block_bits coder.rate * n))) (sym c.whole_count-packets.ensures)
    ∙ sym c.is_short.ensures in
    refuse c.args.self c.args.piece.now c.args.output.now c.args.answers.now 4
    (simp (ranged, sent, short ∙ c.if-is_short.true)) (omega arith)

pub returns-then-answers-packets : goal.returns-then-answers-packets
returns-then-answers-packets c =
    let sent : is_sent mode_of c.args.self.sender ≡ true = sym c.is_sent.ensures ∙ c.if-not-is_sent.false in
    let good : sender_stream_in_range c.args.self ≡ true = sym c.in_range.ensures ∙ c.if-not-in_range.false in
    let ranged : sender_stream_in_range c.args.self ≡ true = good in
    let size : length c.args.self.pending ≡ 188 = search rules in
    let cells : length c.args.self.sender.interleaver.branches.cells ≡ 1122 = search rules in
    let positions : length c.args.self.sender.interleaver.branches.positions ≡ 12 = search rules in
    let ready : Ready mode_of c.args.self.sender = ready_of c.args.self.sender (cells) (positions) (sending_range c.args.self (ranged)).0 (sent) in
    let short : let a = c.args in
    ltb (length a.output.now) (length (fed_symbols a.self a.piece.now)) ≡ c.is_short.result = let coder = c.args.self.sender.coder in
    let most = length c.args.output.now in
    ap (ltb most) (length_fed c.args.self c.args.piece.now (ready) (size) (sending_range c.args.self (ranged)).1)
    ∙ ap (λ (n : ℕ). ltb most (symbols_in coder.rate coder.place (block_bits coder.rate * n))) (sym c.whole_count-packets.ensures)
    ∙ sym c.is_short.ensures in
    refuse c.args.self c.args.piece.now c.args.output.now c.args.answers.now 4
    (simp (ranged, sent, short ∙ c.if-is_short.false, lt-ltb _ _ (rw c.whole_count-packets.ensures at c.if-answers-packets.true))) (omega arith)

pub send_whole-requires : goal.send_whole-requires
send_whole-requires c =
    let sent : is_sent mode_of c.args.self.sender ≡ true = sym c.is_sent.ensures ∙ c.if-not-is_sent.false in
    let good : sender_stream_in_range c.args.self ≡ true = sym c.in_range.ensures ∙ c.if-not-in_range.false in
    let ranged : sender_stream_in_range c.args.self ≡ true = good in
    let size : length c.args.self.pending ≡ 188 = search rules in
    let cells : length c.args.self.sender.interleaver.branches.cells ≡ 1122 = search rules in
    let positions : length c.args.self.sender.interleaver.branches.positions ≡ 12 = search rules in
    let ready : Ready mode_of c.args.self.sender = ready_of c.args.self.sender (cells) (positions) (sending_range c.args.self (ranged)).0 (sent) in
    let short : let a = c.args in
    ltb (length a.output.now) (length (fed_symbols a.self a.piece.now)) ≡ c.is_short.result = let coder = c.args.self.sender.coder in
    let most = length c.args.output.now in
    ap (ltb most) (length_fed c.args.self c.args.piece.now (ready) (size) (sending_range c.args.self (ranged)).1)
    ∙ ap (λ (n : ℕ). ltb most (symbols_in coder.rate coder.place (block_bits coder.rate * n))) (sym c.whole_count-packets.ensures)
    ∙ sym c.is_short.ensures in
    let output_fits : let a = c.args in
    OutputsFit a.self a.piece.now a.output.now a.answers.now = record {
      range = ranged;
      sent = sent;
      symbols = ltb-false _ _ (short ∙ c.if-is_short.false);
      answers_fit = rw c.whole_count-packets.ensures at c.if-answers-packets.false;
    } in
    output_fits

pub returns : goal.returns
returns c =
    let sent : is_sent mode_of c.args.self.sender ≡ true = sym c.is_sent.ensures ∙ c.if-not-is_sent.false in
    let good : sender_stream_in_range c.args.self ≡ true = sym c.in_range.ensures ∙ c.if-not-in_range.false in
    let ranged : sender_stream_in_range c.args.self ≡ true = good in
    let size : length c.args.self.pending ≡ 188 = search rules in
    let cells : length c.args.self.sender.interleaver.branches.cells ≡ 1122 = search rules in
    let positions : length c.args.self.sender.interleaver.branches.positions ≡ 12 = search rules in
    let ready : Ready mode_of c.args.self.sender = ready_of c.args.self.sender (cells) (positions) (sending_range c.args.self (ranged)).0 (sent) in
    let short : let a = c.args in
    ltb (length a.output.now) (length (fed_symbols a.self a.piece.now)) ≡ c.is_short.result = let coder = c.args.self.sender.coder in
    let most = length c.args.output.now in
    ap (ltb most) (length_fed c.args.self c.args.piece.now (ready) (size) (sending_range c.args.self (ranged)).1)
    ∙ ap (λ (n : ℕ). ltb most (symbols_in coder.rate coder.place (block_bits coder.rate * n))) (sym c.whole_count-packets.ensures)
    ∙ sym c.is_short.ensures in
    let output_fits : let a = c.args in
    OutputsFit a.self a.piece.now a.output.now a.answers.now = record {
      range = ranged;
      sent = sent;
      symbols = ltb-false _ _ (short ∙ c.if-is_short.false);
      answers_fit = rw c.whole_count-packets.ensures at c.if-answers-packets.false;
    } in
    let g = output_fits in
    fed (simp (g.range, g.sent, le-ltb _ _ g.symbols, le-ltb _ _ g.answers_fit)) c.send_whole.ensures
