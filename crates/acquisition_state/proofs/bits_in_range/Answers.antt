-- `acquisition_state::bits_in_range` meets its contract.
-- Assumes nothing.
use mathlib.Core.Path.{◌≡◌, sym, ap, ◌∙◌}
use Prim.Native.Nat.{ℕ, ◌-◌}
use native.Mathlib.Omega.{arith}
use borrow.Author.Tests.{lt-ltb, le-ltb, eq-eqb, ne_eqb}
use lib.Dec.{eqb, ltb}
use lib.ListN.{drop, length-drop}
use lib.Seq.{take_all}
use Rattle.common.specs.Lists.{largest}
use Rattle.acquisition_state.proofs.bits_in_range.Goals as goal

pub returns-then-held-ge8168 : goal.returns-then-held-ge8168
returns-then-held-ge8168 c = sym (simp (le-ltb _ _ c.if-held-ge8168.true))

pub returns-then-largest_of-ne0 : goal.returns-then-largest_of-ne0
returns-then-largest_of-ne0 c =
    let vacant : let s = c.args.sync in c.largest_of.result ≡ largest (drop s.held s.bits) = let s = c.args.sync in
    c.largest_of.ensures ∙ ap largest (take_all (8168 - s.held) (drop s.held s.bits) (omega (arith, length-drop s.held s.bits, c.requires))) in
    sym (simp (lt-ltb _ _ c.if-held-ge8168.false, ap (λ (n : ℕ). eqb n 0) (sym (vacant)) ∙ ne_eqb _ _ c.if-largest_of-ne0.true))

pub returns : goal.returns
returns c =
    let vacant : let s = c.args.sync in c.largest_of.result ≡ largest (drop s.held s.bits) = let s = c.args.sync in
    c.largest_of.ensures ∙ ap largest (take_all (8168 - s.held) (drop s.held s.bits) (omega (arith, length-drop s.held s.bits, c.requires))) in
    sym (simp (lt-ltb _ _ c.if-held-ge8168.false, ap (λ (n : ℕ). eqb n 0) (sym (vacant)) ∙ eq-eqb _ _ c.if-largest_of-ne0.false) (ap (λ (n : ℕ). ltb n 2) (sym c.largest_of-2.ensures)))
