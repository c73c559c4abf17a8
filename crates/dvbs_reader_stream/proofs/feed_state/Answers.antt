-- `dvbs_reader_stream::feed_state` meets its contract.
-- Assumes nothing.
use mathlib.Core.Path.{◌≡◌, refl, sym, subst}
use mathlib.Core.Bool.{true}
use mathlib.Core.List.{map}
use Rattle.answer.proofs.Positive.{number_positive}
use Rattle.reader.specs.Decisions.{hard_pair}
use lib.ListN.{length, set}
use Rattle.std.proofs.lemmas.Result.{err_from_is_err_and}
use Rattle.common.specs.Lists.{ByteEntries}
use Rattle.reader_stream.specs.Stream.{ReaderReady, FeedsReader}
use Rattle.reader_stream.specs.declared.ReaderStream.{ReaderStream}
use Rattle.reader_stream.proofs.Feeding.{room_enough}
use Rattle.dvbs_reader_stream.specs.State.{in_range}
use Rattle.dvbs_reader_stream.specs.Reading.{state_of}
use Rattle.dvbs_reader_stream.specs.Calls.{symbols_due}
use Rattle.dvbs_reader_stream.proofs.Feeding.{symbols_pass, none_reads, read_ready, refused_pairs, fed_pairs}
use Rattle.dvbs_reader_stream.proofs.feed_state.Goals as goal

pub returns-in_err-before : goal.returns-in_err-before
returns-in_err-before c =
    let p = err_from_is_err_and c.from_residual.result c.from_residual.ensures.1 in
    λ answer one. rw (p.1, p.2) (none_reads c.args.state.now answer one _ c.in_err-before.ensures (refl, refl))

pub returns-in_err-symbols_due : goal.returns-in_err-symbols_due
returns-in_err-symbols_due c =
    let b = c.in_ok-before.ensures in
    let clear : in_range (state_of c.args.state.now) ≡ true = subst (λ (s : ReaderStream). in_range s ≡ true) b.2 b.1 in
    let entries : ByteEntries c.args.state.now = λ i. (c.slice_known-1.given i).fits in
    let r = c.from_residual-in_err-symbols_due in
    let p = err_from_is_err_and r.result r.ensures.1 in
    let d = c.in_err-symbols_due.ensures in
    λ answer one.
    rw (p.1, p.2)
    (refused_pairs c.args.state.now b.0 entries clear answer one (symbols_due c.args.symbols.now (length c.args.output.now)) (map hard_pair c.args.symbols.now) c.args.output.now _ _ d (number_positive c.in_err-symbols_due.field-0.0) refl)

pub feed_symbols-fed-requires : goal.feed_symbols-fed-requires
feed_symbols-fed-requires c =
    let b = c.in_ok-before.ensures in
    let clear : in_range (state_of c.args.state.now) ≡ true = subst (λ (s : ReaderStream). in_range s ≡ true) b.2 b.1 in
    let entries : ByteEntries c.args.state.now = λ i. (c.slice_known-1.given i).fits in
    let s : ReaderStream = c.in_ok-before.before in
    let ready : ReaderReady s = subst ReaderReady (sym b.2) (read_ready c.args.state.now b.0 entries clear) in
    let pass = symbols_pass c.args.symbols.now (length c.args.output.now) (sym c.in_ok-symbols_due.ensures) in
    (ready, pass.0, room_enough s ready (length c.args.symbols.now) (length c.args.output.now) pass.1)

pub write_state-requires : goal.write_state-requires
write_state-requires c = (c.feed_symbols-fed.ensures.ready, c.in_ok-before.ensures.0)

pub returns : goal.returns
returns c =
    let b = c.in_ok-before.ensures in
    let clear : in_range (state_of c.args.state.now) ≡ true = subst (λ (s : ReaderStream). in_range s ≡ true) b.2 b.1 in
    let entries : ByteEntries c.args.state.now = λ i. (c.slice_known-1.given i).fits in
    let feed = c.feed_symbols-fed in
    λ answer one.
    fed_pairs c.args.state.now b.0 entries clear answer one (symbols_due c.args.symbols.now (length c.args.output.now)) (map hard_pair c.args.symbols.now) c.args.output.now 0 feed.result.count feed.result.stream feed.new.output c.write_state.new.bytes (set answer 0 0)
    c.in_ok-symbols_due.ensures refl
    (subst (λ (s : ReaderStream). FeedsReader s (map hard_pair c.args.symbols.now) c.args.output.now feed.result.stream feed.result.count feed.new.output) b.2 feed.ensures)
    refl c.write_state.ensures
