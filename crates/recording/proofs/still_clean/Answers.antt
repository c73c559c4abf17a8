-- `recording::still_clean` meets its contract.
-- Assumes nothing.
use mathlib.Core.Path.{sym, ap, ◌∙◌}
use Prim.Native.Nat.{ℕ}
use lib.ListN.{replicate}
use Rattle.common.proofs.Largest.{largest_none}
use borrow.Author.Tests.{eqb-true}
use Rattle.recording.proofs.still_clean.Goals as goal

pub returns : goal.returns
returns c =
    λ z. largest_none c.args.held.now (sym c.largest_of.ensures ∙ eqb-true _ _ z) ∙ ap (λ (n : ℕ). replicate n 0) c.requires.0
