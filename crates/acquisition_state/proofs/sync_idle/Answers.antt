-- `acquisition_state::sync_idle` meets its contract.
-- Assumes nothing.
use mathlib.Core.Path.{sym, ap}
use Prim.Native.Nat.{ℕ}
use borrow.Author.Tests.{eq-eqb, ne_eqb}
use lib.Dec.{eqb}
use Rattle.acquisition_state.proofs.sync_idle.Goals as goal

pub returns-then-held-ne0 : goal.returns-then-held-ne0
returns-then-held-ne0 c = sym (simp (c.if-locked.false, c.if-inverted.false, ne_eqb _ _ c.if-held-ne0.true))

pub returns-then-first-ne0 : goal.returns-then-first-ne0
returns-then-first-ne0 c = sym (simp (c.if-locked.false, c.if-inverted.false, eq-eqb _ _ c.if-held-ne0.false, ne_eqb _ _ c.if-first-ne0.true))

pub returns-then-used-ne0 : goal.returns-then-used-ne0
returns-then-used-ne0 c = sym (simp (c.if-locked.false, c.if-inverted.false, eq-eqb _ _ c.if-held-ne0.false, eq-eqb _ _ c.if-first-ne0.false, ne_eqb _ _ c.if-used-ne0.true))

pub returns : goal.returns
returns c = sym (simp (c.if-locked.false, c.if-inverted.false, eq-eqb _ _ c.if-held-ne0.false, eq-eqb _ _ c.if-first-ne0.false, eq-eqb _ _ c.if-used-ne0.false) (ap (λ (n : ℕ). eqb n 0) (sym c.largest_of.ensures)))
