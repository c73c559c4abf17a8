-- `reader_program::refuse` meets its contract.
-- Assumes nothing.
use mathlib.Core.Path.{refl}
use native.Mathlib.Omega.{arith}
use lib.ListN.{length}
use Prim.Native.Nat.{◌≤◌}
use Rattle.reader_program.specs.Ends.{part}
use Rattle.reader_program.proofs.Going.{files_told}
use Rattle.reader_program.proofs.Ending.{refusal_told}
use Rattle.reader_program.proofs.refuse.Goals as goal

pub slice_bounds-text-end : goal.slice_bounds-text-end
slice_bounds-text-end c =
    let fits : c.refusal_line-n.result ≤ length c.refusal_line-n.new.text = let r = c.refusal_line-n in omega (arith, r.ensures.bound, r.auto.text) in
    fits

pub returns : goal.returns
returns c =
    let l = c.refusal_line-n in
    let t = c.write_text-errors.ensures in
    record { files = files_told c.requires.0 t.file; status = part refl (refusal_told c.requires.2 c.args.place c.requires.1 l.ensures.text t) }
