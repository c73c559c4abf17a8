-- `reader_stream::symbol_runs::memory_after` meets its contract.
-- Assumes nothing.
use mathlib.Core.Path.{sym, ◌∙◌, subst}
use Prim.Native.Nat.{ℕ, ◌-◌}
use native.Mathlib.Omega.{arith}
use lib.ListN.{length}
use Rattle.convolutional_code.specs.Bits.{Bits}
use Rattle.convolutional_code.proofs.Bits.{bits_drop}
use Rattle.reader_stream.proofs.Runs.{back_whole, last_six}
use Rattle.reader_stream.proofs.symbol_runs.memory_after.Goals as goal

pub memory_through-requires-2 : goal.memory_through-requires-2
memory_through-requires-2 c =
    let n : ℕ = length c.args.bits.now - 6 in
    (c.requires.0, subst Bits (sym (back_whole c.args.bits.now n)) (bits_drop n c.requires.1))

pub returns : goal.returns
returns c =
    c.memory_through-2.ensures ∙ last_six c.args.memory c.args.bits.now c.requires.0 c.requires.1 (omega arith)
