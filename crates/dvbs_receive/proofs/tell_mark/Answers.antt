-- `dvbs_receive::tell_mark` meets its contract.
-- Assumes nothing.
use mathlib.Core.Path.{subst}
use mathlib.Core.List.{List}
use Prim.Native.Nat.{ℕ}
use Rattle.program_io.specs.Files.{Writes}
use Rattle.dvbs_receive.proofs.tell_mark.Goals as goal

pub returns : goal.returns
returns c = subst (λ (l : List ℕ). Writes c.args.errors l c.write_text.result) c.refusal_line-n.ensures.text c.write_text.ensures
