-- `recording::marks_at` meets its contract.
-- Assumes nothing.
use mathlib.Core.Path.{◌≡◌, sym, ◌∙◌}
use mathlib.Core.Logic.{◌⊎◌, inl, inr}
use Prim.Native.Nat.{ℕ, ◌+◌, ◌≤◌}
use native.Mathlib.Omega.{arith}
use mathlib.Core.Bool.{false}
use lib.Dec.{eqb}
use lib.ListN.{length, drop, length-drop}
use Rattle.recording.proofs.Recordings.{marks_front_lem}
use Rattle.recording.proofs.marks_at.Goals as goal

some_marks : (n at : ℕ) → eqb n 0 ≡ false → (n ≡ 0) ⊎ (at + 204 ≤ n) → at + 204 ≤ n
some_marks n at f (inl e) = absurd (let g : eqb 0 0 ≡ false = rw e at f in cc)
some_marks n at f (inr h) = h

pub returns : goal.returns
returns c =
    let a = c.args in
    let h : a.at + 204 ≤ length a.marks.now = some_marks (length a.marks.now) a.at (sym c.is_empty.ensures ∙ c.if-is_empty.false) c.requires in
    c.array_at.ensures ∙ sym (marks_front_lem (drop a.at a.marks.now) (omega (arith, length-drop a.at a.marks.now)))
