-- `acquisition_state::runs_idle` meets its contract.
-- Assumes nothing.
use mathlib.Core.Path.{sym, ap}
use Prim.Native.Nat.{ℕ}
use borrow.Author.Tests.{eq-eqb, ne_eqb}
use lib.Dec.{eqb}
use Rattle.acquisition_state.proofs.runs_idle.Goals as goal

pub returns-then-turn-ne0 : goal.returns-then-turn-ne0
returns-then-turn-ne0 c = sym (simp (ne_eqb _ _ c.if-turn-ne0.true))

pub returns-then-rate-ne0 : goal.returns-then-rate-ne0
returns-then-rate-ne0 c = sym (simp (eq-eqb _ _ c.if-turn-ne0.false, ne_eqb _ _ c.if-rate-ne0.true))

pub returns-then-memory-ne0 : goal.returns-then-memory-ne0
returns-then-memory-ne0 c = sym (simp (eq-eqb _ _ c.if-turn-ne0.false, eq-eqb _ _ c.if-rate-ne0.false, ne_eqb _ _ c.if-memory-ne0.true))

pub returns-then-count-ne0 : goal.returns-then-count-ne0
returns-then-count-ne0 c = sym (simp (eq-eqb _ _ c.if-turn-ne0.false, eq-eqb _ _ c.if-rate-ne0.false, eq-eqb _ _ c.if-memory-ne0.false, ne_eqb _ _ c.if-count-ne0.true))

pub returns : goal.returns
returns c = sym (simp (eq-eqb _ _ c.if-turn-ne0.false, eq-eqb _ _ c.if-rate-ne0.false, eq-eqb _ _ c.if-memory-ne0.false, eq-eqb _ _ c.if-count-ne0.false) (ap (λ (n : ℕ). eqb n 0) (sym c.largest_of.ensures)))
