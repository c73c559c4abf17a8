-- `dvbs_lock::numbers::read_numbers` meets its contract.
-- Assumes nothing.
use mathlib.Core.Path.{sym}
use native.Mathlib.Omega.{arith}
use lib.ListN.{take}
use lib.Seq.{length-take-le}
use Rattle.dvbs_lock.proofs.numbers.read_numbers.Goals as goal

pub slice_bounds-put_numbers-end : goal.slice_bounds-put_numbers-end
slice_bounds-put_numbers-end c =
    c.fill-filled.ensures.within

pub slice_bounds-put_numbers-end-2 : goal.slice_bounds-put_numbers-end-2
slice_bounds-put_numbers-end-2 c =
    sym (length-take-le _ _ c.fill-filled.ensures.within)

pub put_numbers-count-requires : goal.put_numbers-count-requires
put_numbers-count-requires c =
    let f = c.fill-filled in
    (omega (arith, length-take-le f.result.length f.new.buffer f.ensures.within, f.ensures.within, f.auto.buffer, c.requires.0), c.requires.1)

pub returns : goal.returns
returns c =
    let f = c.fill-filled in
    record {
      bytes = take f.result.length f.new.buffer;
      size = length-take-le f.result.length f.new.buffer f.ensures.within;
      origin = f.ensures.origin;
      trace = f.ensures.trace;
      within = omega (arith, f.ensures.within, f.auto.buffer, c.requires.0);
      short = λ h. f.ensures.short (omega (arith, h, f.auto.buffer, c.requires.0));
      numbers = c.put_numbers-count.ensures;
    }
