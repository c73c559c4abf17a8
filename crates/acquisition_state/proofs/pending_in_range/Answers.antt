-- `acquisition_state::pending_in_range` meets its contract.
-- Assumes nothing.
use mathlib.Core.Path.{◌≡◌, sym, ap, ◌∙◌}
use Prim.Native.Nat.{ℕ, ◌-◌}
use native.Mathlib.Omega.{arith}
use borrow.Author.Tests.{lt-ltb, le-ltb, eq-eqb, ne_eqb}
use lib.Dec.{eqb, ltb}
use lib.ListN.{length, drop, length-drop}
use lib.Seq.{take_all}
use Rattle.common.specs.Lists.{largest}
use Rattle.acquisition_state.proofs.pending_in_range.Goals as goal

pub returns-then-held-ge1633 : goal.returns-then-held-ge1633
returns-then-held-ge1633 c = sym (simp (le-ltb _ _ c.if-held-ge1633.true))

pub returns-then-came-held : goal.returns-then-came-held
returns-then-came-held c = sym (simp (lt-ltb _ _ c.if-held-ge1633.false, lt-ltb _ _ c.if-came-held.true))

pub returns-then-largest_of-ne0 : goal.returns-then-largest_of-ne0
returns-then-largest_of-ne0 c =
    let vacant : let s = c.args in c.largest_of.result ≡ largest (drop s.held s.pending.now) = let s = c.args in
    c.largest_of.ensures ∙ ap largest (take_all (length s.pending.now - s.held) (drop s.held s.pending.now) (omega (arith, length-drop s.held s.pending.now))) in
    sym (simp (lt-ltb _ _ c.if-held-ge1633.false, le-ltb _ _ c.if-came-held.false, ap (λ (n : ℕ). eqb n 0) (sym (vacant)) ∙ ne_eqb _ _ c.if-largest_of-ne0.true))

pub returns : goal.returns
returns c =
    let vacant : let s = c.args in c.largest_of.result ≡ largest (drop s.held s.pending.now) = let s = c.args in
    c.largest_of.ensures ∙ ap largest (take_all (length s.pending.now - s.held) (drop s.held s.pending.now) (omega (arith, length-drop s.held s.pending.now))) in
    sym (simp (lt-ltb _ _ c.if-held-ge1633.false, le-ltb _ _ c.if-came-held.false, ap (λ (n : ℕ). eqb n 0) (sym (vacant)) ∙ eq-eqb _ _ c.if-largest_of-ne0.false) (ap (λ (n : ℕ). ltb n 81) (sym c.largest_of-2.ensures)))
