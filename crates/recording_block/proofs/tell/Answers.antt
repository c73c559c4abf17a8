-- `recording_block::tell` meets its contract.
-- Assumes nothing.
use mathlib.Core.Path.{subst}
use mathlib.Core.List.{List}
use Prim.Native.Nat.{ℕ}
use Rattle.program_io.specs.Files.{Writes}
use Rattle.recording_block.proofs.tell.Goals as goal

pub returns : goal.returns
returns c = subst (λ (l : List ℕ). Writes c.args.errors l c.write_text.result) c.block_line-n.ensures.text c.write_text.ensures
