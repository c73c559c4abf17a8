-- `reader_stream::ReaderStream::finish` meets its contract.
-- Assumes nothing.
use mathlib.Core.Path.{sym}
use Prim.Native.Nat.{◌≤◌}
use native.Mathlib.Omega.{arith}
use lib.ListN.{length, length-take}
use lib.Seq.{length-take-le}
use Rattle.reader_stream.proofs.Feeding.{closed_few, closed_bits_lem}
use Rattle.reader_stream.proofs.ReaderStream.finish.Goals as goal

pub close-closed-requires : goal.close-closed-requires
close-closed-requires c = (c.requires.0.runs_ready, c.requires.1)

pub slice_bounds-pack-end : goal.slice_bounds-pack-end
slice_bounds-pack-end c =
    let within : c.close-closed.result.count ≤ length c.close-closed.new.output = omega (arith, closed_few c.requires.0.runs_ready c.close-closed.ensures, c.requires.1, c.close-closed.auto) in
    within

pub slice_bounds-pack-end-2 : goal.slice_bounds-pack-end-2
slice_bounds-pack-end-2 c =
    let within : c.close-closed.result.count ≤ length c.close-closed.new.output = omega (arith, closed_few c.requires.0.runs_ready c.close-closed.ensures, c.requires.1, c.close-closed.auto) in
    sym (length-take-le _ _ (within))

pub pack-packed-requires : goal.pack-packed-requires
pack-packed-requires c = (
  c.requires.0.few,
  closed_bits_lem c.close-closed.ensures,
  omega (arith, c.requires.0.few, length-take c.close-closed.result.count c.close-closed.new.output, closed_few c.requires.0.runs_ready c.close-closed.ensures, c.requires.2),
)
