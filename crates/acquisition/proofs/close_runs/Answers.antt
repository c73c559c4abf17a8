-- `acquisition::close_runs` meets its contract.
-- Assumes nothing.
use Prim.Native.Nat.{◌≤◌}
use native.Mathlib.Omega.{arith}
use lib.ListN.{length, replicate}
use Rattle.acquisition.proofs.Symbols.{front_length}
use Rattle.acquisition.proofs.Ends.{close_counts}
use Rattle.acquisition.proofs.close_runs.Goals as goal

pub slice_bounds-bits-end : goal.slice_bounds-bits-end
slice_bounds-bits-end c =
    let within : (c.close-closed.result.count ≤ 1632) × (c.close-closed.result.count ≤ length c.close-closed.new.output) = let n = (close_counts c.args.reading.runs _ _ _ _ c.requires.runs_ready c.close-closed.ensures).0 in
    (n, omega (arith, n, c.close-closed.auto)) in
    (within).1

pub slice_bounds-settle-end : goal.slice_bounds-settle-end
slice_bounds-settle-end c =
    let within : (c.close-closed.result.count ≤ 1632) × (c.close-closed.result.count ≤ length c.close-closed.new.output) = let n = (close_counts c.args.reading.runs _ _ _ _ c.requires.runs_ready c.close-closed.ensures).0 in
    (n, omega (arith, n, c.close-closed.auto)) in
    front_length _ _ (within).1

pub settle-requires : goal.settle-requires
settle-requires c =
    let within : (c.close-closed.result.count ≤ 1632) × (c.close-closed.result.count ≤ length c.close-closed.new.output) = let n = (close_counts c.args.reading.runs _ _ _ _ c.requires.runs_ready c.close-closed.ensures).0 in
    (n, omega (arith, n, c.close-closed.auto)) in
    (c.requires, omega (arith, front_length c.close-closed.result.count c.close-closed.new.output (within).1, (within).0))

pub returns : goal.returns
returns c = let o = c.open-opened in record { output = replicate 1632 0; exit = c.close-closed.new.output; count = c.close-closed.result.count; rest = c.close-closed.result.rest; closes = c.close-closed.ensures; opened = o.result; ready = o.ensures.0; empty = o.ensures.1; settles = c.settle.ensures }
