-- `dvbs_reader_stream::end_state` meets its contract.
-- Assumes nothing.
use mathlib.Core.Path.{◌≡◌, refl, sym, subst}
use mathlib.Core.Bool.{true}
use lib.ListN.{length, set, length-set}
use native.Mathlib.Omega.{arith}
use Rattle.answer.proofs.Positive.{number_positive}
use Rattle.std.proofs.lemmas.Result.{err_from_is_err_and}
use Rattle.common.specs.Lists.{ByteEntries}
use Rattle.reader_stream.specs.Stream.{ReaderReady, FinishesReader}
use Rattle.reader_stream.specs.declared.ReaderStream.{ReaderStream}
use Rattle.dvbs_reader_stream.specs.State.{in_range}
use Rattle.dvbs_reader_stream.specs.Reading.{state_of}
use Rattle.dvbs_reader_stream.proofs.Feeding.{end_pass, few_symbols, none_reads, read_ready, refused_ends, ends}
use Rattle.dvbs_reader_stream.proofs.end_state.Goals as goal

pub returns-in_err-stream : goal.returns-in_err-stream
returns-in_err-stream c =
    let p = err_from_is_err_and c.from_residual.result c.from_residual.ensures.1 in
    λ answer one. rw (p.1, p.2) (none_reads c.args.state.now answer one _ c.in_err-stream.ensures (refl, refl, refl))

pub returns-in_err-end_due : goal.returns-in_err-end_due
returns-in_err-end_due c =
    let b = c.in_ok-stream.ensures in
    let clear : in_range (state_of c.args.state.now) ≡ true = subst (λ (s : ReaderStream). in_range s ≡ true) b.2 b.1 in
    let entries : ByteEntries c.args.state.now = λ i. (c.shared_slice_known-1.given i).fits in
    let r = c.from_residual-in_err-end_due in
    let p = err_from_is_err_and r.result r.ensures.1 in
    let d = c.in_err-end_due.ensures in
    λ answer one.
    rw (p.1, p.2)
    (refused_ends c.args.state.now b.0 entries clear answer one c.args.output.now c.args.left.now _ _ d (number_positive c.in_err-end_due.field-0.0) refl)

pub finish-finished-requires : goal.finish-finished-requires
finish-finished-requires c =
    let b = c.in_ok-stream.ensures in
    let clear : in_range (state_of c.args.state.now) ≡ true = subst (λ (s : ReaderStream). in_range s ≡ true) b.2 b.1 in
    let entries : ByteEntries c.args.state.now = λ i. (c.shared_slice_known-1.given i).fits in
    let s : ReaderStream = c.in_ok-stream.stream in
    let ready : ReaderReady s = subst ReaderReady (sym b.2) (read_ready c.args.state.now b.0 entries clear) in
    (ready, omega arith, (end_pass (length c.args.output.now) (length c.args.left.now) (sym c.in_ok-end_due.ensures)).0)

pub overflow_cast-left : goal.overflow_cast-left
overflow_cast-left c =
    let b = c.in_ok-stream.ensures in
    let clear : in_range (state_of c.args.state.now) ≡ true = subst (λ (s : ReaderStream). in_range s ≡ true) b.2 b.1 in
    let entries : ByteEntries c.args.state.now = λ i. (c.shared_slice_known-1.given i).fits in
    let s : ReaderStream = c.in_ok-stream.stream in
    let ready : ReaderReady s = subst ReaderReady (sym b.2) (read_ready c.args.state.now b.0 entries clear) in
    let r = c.finish-finished.ensures.closed.few in
    record { fits = omega (arith, r, few_symbols s.runs.rate ready.runs_ready.known) }

pub bounds-left-0 : goal.bounds-left-0
bounds-left-0 c = omega (arith, (end_pass (length c.args.output.now) (length c.args.left.now) (sym c.in_ok-end_due.ensures)).1)

pub bounds-left-1 : goal.bounds-left-1
bounds-left-1 c = simp length-set (omega (arith, (end_pass (length c.args.output.now) (length c.args.left.now) (sym c.in_ok-end_due.ensures)).1))

pub returns : goal.returns
returns c =
    let b = c.in_ok-stream.ensures in
    let clear : in_range (state_of c.args.state.now) ≡ true = subst (λ (s : ReaderStream). in_range s ≡ true) b.2 b.1 in
    let entries : ByteEntries c.args.state.now = λ i. (c.shared_slice_known-1.given i).fits in
    let finish = c.finish-finished in
    λ answer one.
    ends c.args.state.now b.0 entries clear answer one c.args.output.now c.args.left.now 0 finish.result finish.new.output _ (set answer 0 0)
    c.in_ok-end_due.ensures refl
    (subst (λ (s : ReaderStream). FinishesReader s c.args.output.now finish.result finish.new.output) b.2 finish.ensures) refl refl
