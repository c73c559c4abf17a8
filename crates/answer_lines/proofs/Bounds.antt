-- A larger bound.
-- Assumes nothing.
use mathlib.Core.List.{List}
use Prim.Native.Nat.{ℕ, ◌≤◌}
use Rattle.report_lines.specs.Line.{Appended}

pub larger : {l entry exit : List ℕ} {at r most : ℕ} (bound : ℕ) → Appended l entry exit at r most → r ≤ bound → Appended l entry exit at r bound
larger bound a h = record { place = a.place; bound = h; same = a.same; text = a.text }
