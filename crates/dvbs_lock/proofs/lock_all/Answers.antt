-- `dvbs_lock::lock_all` meets its contract.
-- Assumes nothing.
use mathlib.Core.Path.{◌≡◌, refl, sym, ◌∙◌}
use mathlib.Core.List.{List, ◌++◌}
use Prim.Native.Nat.{ℕ, ◌≤◌}
use native.Mathlib.Omega.{arith}
use lib.ListN.{length, take, drop, length-replicate, length-append, length-drop}
use lib.Seq.{length-take-le}
use Rattle.dvbs_lock.specs.Ends.{part}
use Rattle.dvbs_lock.proofs.Endings.{files_on, stopped}
use Rattle.dvbs_lock.proofs.NumberLaws.{size_fits}
use Rattle.dvbs_lock.proofs.Reading.{reading_none, part_small, part_count, some_read, reading_more, reading_whole, reading_over, reading_long}
use Rattle.dvbs_lock.proofs.lock_all.Goals as goal

-- a buffer whose front was written is as long as before
rest-kept : (n : ℕ) (buffer front : List ℕ) → n ≤ length buffer → length front ≡ length (take n buffer) → length (front ++ drop n buffer) ≡ length buffer
rest-kept n buffer front h e = omega (arith, length-append front (drop n buffer), length-drop n buffer, length-take-le n buffer h, e)

pub new-stream-requires : goal.new-stream-requires
new-stream-requires c =
    c.requires.0

pub loop-came-init : goal.loop-came-init
loop-came-init c =
    let p = c.requires in
    (reading_none _ _ p.1 p.2 p.3 c.new-stream.ensures.0 c.new-stream.ensures.1, length-replicate {A = ℕ} 104448 0, length-replicate {A = ℕ} 13056 0, length-replicate {A = ℕ} 1504 0, length-replicate {A = ℕ} 2048 0, omega arith, c.read_size-size.ensures)

pub slice_bounds-buffer-end : goal.slice_bounds-buffer-end
slice_bounds-buffer-end c =
    let size_in : c.read_size-size.result ≤ length c.loop-came.buffer = omega (arith, c.loop-came.invariant.1, c.loop-came.invariant.6, size_fits c.args.bits) in
    size_in

pub slice_bounds-read_numbers-end : goal.slice_bounds-read_numbers-end
slice_bounds-read_numbers-end c =
    let size_in : c.read_size-size.result ≤ length c.loop-came.buffer = omega (arith, c.loop-came.invariant.1, c.loop-came.invariant.6, size_fits c.args.bits) in
    sym (length-take-le _ _ (size_in))

pub read_numbers-read-requires : goal.read_numbers-read-requires
read_numbers-read-requires c =
    let size_in : c.read_size-size.result ≤ length c.loop-came.buffer = omega (arith, c.loop-came.invariant.1, c.loop-came.invariant.6, size_fits c.args.bits) in
    let l = c.loop-came.invariant in
    (length-take-le _ _ (size_in) ∙ l.6, l.2)

pub slice_bounds-numbers-end : goal.slice_bounds-numbers-end
slice_bounds-numbers-end c =
    let count_fits : c.read_numbers-read.result.count ≤ length c.read_numbers-read.new.output = omega (arith, c.read_numbers-read.ensures.numbers.few, c.read_numbers-read.auto.output, c.loop-came.invariant.2) in
    count_fits

pub slice_bounds-take_numbers-end : goal.slice_bounds-take_numbers-end
slice_bounds-take_numbers-end c =
    let count_fits : c.read_numbers-read.result.count ≤ length c.read_numbers-read.new.output = omega (arith, c.read_numbers-read.ensures.numbers.few, c.read_numbers-read.auto.output, c.loop-came.invariant.2) in
    sym (length-take-le _ _ (count_fits))

pub take_numbers-taken-requires : goal.take_numbers-taken-requires
take_numbers-taken-requires c =
    let l = c.loop-came in
    let r = c.read_numbers-read in
    (l.invariant.0.ready, part_small r.ensures, omega (arith, part_count r.ensures, r.ensures.numbers.few, l.invariant.0.source_counted, c.loop-came-test.true), omega (arith, l.invariant.3), omega (arith, l.invariant.4))

pub returns-then-failed : goal.returns-then-failed
returns-then-failed c =
    let l = c.loop-came in
    let r = c.read_numbers-read in
    let t = c.take_numbers-taken.ensures in
    record { files = files_on l.invariant.0.files r.ensures.origin t.output_is t.errors_are; status = part refl (stopped (t.stops c.if-failed.true)) }

pub overflow_add-came : goal.overflow_add-came
overflow_add-came c =
    omega (arith, c.read_numbers-read.ensures.numbers.few, c.loop-came-test.true)

pub finish-requires : goal.finish-requires
finish-requires c =
    let l = c.loop-came in
    let r = c.read_numbers-read in
    let t = c.take_numbers-taken in
    let g = reading_more r.ensures l.invariant.0 t.ensures c.if-failed.false in
    (g.files, reading_over g (r.ensures.short (omega (arith, c.if-length-size.true, l.invariant.6))) c.rest_of-rest.ensures, omega (arith, t.auto.packets, l.invariant.3), omega (arith, t.auto.text, l.invariant.4))

pub returns-then-length-size : goal.returns-then-length-size
returns-then-length-size c =
    c.finish.ensures

pub loop-came-smaller : goal.loop-came-smaller
loop-came-smaller c =
    let l = c.loop-came in
    omega (arith, some_read c.read_numbers-read.ensures (omega (arith, c.if-length-size.false, l.invariant.6)), c.read_numbers-read.ensures.numbers.few, c.loop-came-test.true)

pub loop-came-preserved : goal.loop-came-preserved
loop-came-preserved c =
    let size_in : c.read_size-size.result ≤ length c.loop-came.buffer = omega (arith, c.loop-came.invariant.1, c.loop-came.invariant.6, size_fits c.args.bits) in
    let l = c.loop-came in
    let r = c.read_numbers-read in
    let t = c.take_numbers-taken in
    let g = reading_more r.ensures l.invariant.0 t.ensures c.if-failed.false in
    let n = c.read_size-size.result in
    let whole = rest-kept n l.buffer r.new.buffer (size_in) r.auto.buffer ∙ l.invariant.1 in
    (reading_whole g (omega (arith, c.if-length-size.false, r.ensures.within, l.invariant.6)), whole, r.auto.output ∙ l.invariant.2, t.auto.packets ∙ l.invariant.3, t.auto.text ∙ l.invariant.4, omega (arith, r.ensures.numbers.few, c.loop-came-test.true), l.invariant.6)

pub stop-requires : goal.stop-requires
stop-requires c =
    let l = c.loop-came in
    (l.invariant.0.files, reading_long l.invariant.0 (omega (arith, c.loop-came-test.false)))

pub returns : goal.returns
returns c =
    c.stop.ensures
