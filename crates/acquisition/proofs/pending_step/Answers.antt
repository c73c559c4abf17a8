-- `acquisition::pending_step` meets its contract.
-- Assumes nothing.
use mathlib.Core.Path.{◌≡◌, sym, ap, ◌∙◌, subst}
use mathlib.Core.List.{List}
use Prim.Native.Nat.{ℕ, ◌-◌, ◌≤◌}
use native.Mathlib.Omega.{arith}
use lib.ListN.{length, drop, length-drop}
use Rattle.reader_stream.proofs.Runs.{all_drop}
use Rattle.acquisition.specs.Step.{pending_of, AcquisitionReady, after_reading}
use Rattle.acquisition.specs.declared.Acquisition.{Acquisition}
use Rattle.acquisition.proofs.Ready.{after_reading_ready, pending_length, read_taken, take-drop}
use Rattle.acquisition.proofs.pending_step.Goals as goal

pub slice_bounds-read-end : goal.slice_bounds-read-end
slice_bounds-read-end c = sym (pending_length c.args.state c.requires.0.pending_size c.requires.0.pending_few)

pub read-step-requires : goal.read-step-requires
read-step-requires c = (c.requires.0.reading_of.ready, c.requires.0.pending_small, omega (arith, pending_length c.args.state c.requires.0.pending_size c.requires.0.pending_few, c.requires.0.pending_few))

pub slice_bounds-after_reading-count : goal.slice_bounds-after_reading-count
slice_bounds-after_reading-count c =
    let within : c.read-step.result.taken ≤ c.args.state.held = omega (arith, (read_taken c.args.state.reading _ c.read-step.result c.requires.0.reading_of.ready c.read-step.ensures).0, pending_length c.args.state c.requires.0.pending_size c.requires.0.pending_few) in
    within

pub slice_bounds-after_reading-start : goal.slice_bounds-after_reading-start
slice_bounds-after_reading-start c =
    let within : c.read-step.result.taken ≤ c.args.state.held = omega (arith, (read_taken c.args.state.reading _ c.read-step.result c.requires.0.reading_of.ready c.read-step.ensures).0, pending_length c.args.state c.requires.0.pending_size c.requires.0.pending_few) in
    within

pub returns : goal.returns
returns c =
    let within : c.read-step.result.taken ≤ c.args.state.held = omega (arith, (read_taken c.args.state.reading _ c.read-step.result c.requires.0.reading_of.ready c.read-step.ensures).0, pending_length c.args.state c.requires.0.pending_size c.requires.0.pending_few) in
    let t = c.read-step in let l = drop t.result.taken (pending_of c.args.state) in let e = c.after_reading-acquisition.ensures ∙ ap (λ (x : List ℕ). after_reading c.args.state t.result x c.args.state.came t.result.event) (take-drop t.result.taken c.args.state.held c.args.state.pending (within)) in let n = pending_length c.args.state c.requires.0.pending_size c.requires.0.pending_few in let k = read_taken c.args.state.reading (pending_of c.args.state) t.result c.requires.0.reading_of.ready t.ensures in let some = k.1 (omega (arith, n, c.requires.2)) in let m : length l ≡ length (pending_of c.args.state) - t.result.taken = length-drop t.result.taken (pending_of c.args.state) in (record { read = t.result; reads = t.ensures; result = ap (λ (x : Acquisition). record { acquisition = x; taken = 0; event = t.result.event }) e }, subst AcquisitionReady (sym e) (after_reading_ready c.args.state (pending_of c.args.state) l c.args.state.came t.result c.requires.0.read_known c.requires.0.reading_of (omega (arith, n, c.requires.0.pending_few)) (all_drop t.result.taken (pending_of c.args.state) c.requires.0.pending_small) (omega (arith, m, n, c.requires.0.pending_few, some)) (omega (arith, m, n, c.requires.0.pending_came)) (omega arith) c.requires.1 (omega (arith, m, n, k.0)) t.ensures t.result.event))
