-- `acquisition::piece_step` meets its contract.
-- Assumes nothing.
use mathlib.Core.Path.{ap, sym, subst}
use mathlib.Core.List.{List, []}
use Prim.Native.Nat.{ℕ, ◌+◌}
use native.Mathlib.Omega.{arith}
use lib.ListN.{take, length-take}
use Rattle.reader_stream.proofs.Runs.{all_take}
use Rattle.acquisition.specs.Reading.{ReadsSymbols}
use Rattle.acquisition.specs.Step.{AcquisitionReady}
use Rattle.acquisition.specs.declared.Acquisition.{Acquisition}
use Rattle.acquisition.proofs.Symbols.{front_length}
use Rattle.acquisition.proofs.Ready.{after_reading_ready, read_taken, front_is}
use Rattle.acquisition.proofs.piece_step.Goals as goal

pub slice_bounds-read-end : goal.slice_bounds-read-end
slice_bounds-read-end c = front_length c.min-count.result c.args.piece.now (omega (arith, c.min-count.ensures))

pub read-step-requires : goal.read-step-requires
read-step-requires c = (c.requires.0.reading_of.ready, all_take c.min-count.result c.args.piece.now c.requires.1, omega (arith, front_length c.min-count.result c.args.piece.now (omega (arith, c.min-count.ensures)), c.min-count.ensures))

pub returns : goal.returns
returns c = let t = c.read-step in let x : ReadsSymbols c.args.state.reading (take 1632 c.args.piece.now) t.result = subst (λ (l : List ℕ). ReadsSymbols c.args.state.reading l t.result) (front_is c.args.piece.now c.min-count.result c.min-count.ensures) t.ensures in let k = (read_taken c.args.state.reading (take 1632 c.args.piece.now) t.result c.requires.0.reading_of.ready x).0 in let n = length-take 1632 c.args.piece.now in (record { read = t.result; reads = x; result = ap (λ (y : Acquisition). record { acquisition = y; taken = t.result.taken; event = t.result.event }) c.after_reading-acquisition.ensures }, subst AcquisitionReady (sym c.after_reading-acquisition.ensures) (after_reading_ready c.args.state (take 1632 c.args.piece.now) [] (c.args.state.came + t.result.taken) t.result c.requires.0.read_known c.requires.0.reading_of (omega (arith, n)) tt (omega arith) (omega arith) (omega arith) (omega (arith, c.requires.2, k, n)) (omega (arith, c.requires.3)) x t.result.event), omega (arith, k, n))
