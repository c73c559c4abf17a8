-- `error_correction::list_zeros` meets its contract: the zeros among the first l lanes are listed.
-- Assumes nothing.
use mathlib.Core.Path.{◌≡◌, sym, ◌∙◌}
use mathlib.Core.List.{List}
use Prim.Native.Nat.{ℕ, ◌+◌, ◌-◌, ◌<◌}
use native.Mathlib.Omega.{arith}
use lib.ListN.{length, get_or, take, length-take}
use lib.Seq.{get_or-take}
use Rattle.error_correction.proofs.RootSearch.{listed_none, listed_past, listed_skip, listed_more, listed_fits}
use borrow.Author.Rules.{rules}
use Rattle.error_correction.proofs.list_zeros.Goals as goal
use Rattle.error_correction.proofs.list_zeros.Goals.{then-within+then-v-at-eq0, then-within+else-v-at-eq0, else-within}

-- a lane whose degree is below 204
module _ (v : List ℕ) (i l : ℕ) (n : length v ≡ 16) (h : l < 16) (k : i + l < 204) where
  counts : l < length (take (204 - i) v)
  counts = omega (arith, length-take (204 - i) v)

  lane : get_or (take (204 - i) v) l 0 ≡ get_or v l 0
  lane = get_or-take (204 - i) v l 0 (omega arith)

pub loop-l-init : goal.loop-l-init
loop-l-init c = listed_none _ _ _ _ _ _ (search rules) (search rules)

pub bounds-listed-listed : goal.bounds-listed-listed
bounds-listed-listed c =
    let output : c.loop-l.listed.count < 16 = let l = c.loop-l in
    let n : length c.args.v ≡ 16 = search rules in
    listed_fits _ _ _ _ _ _ _ _ _ _ l.invariant (counts _ c.args.i l.l n (omega arith) c.if-within.true) (lane _ c.args.i l.l n (omega arith) c.if-within.true ∙ c.if-v-at-eq0.true) c.requires.1 in
    output

pub bounds-listed-listed-then-v-at-eq0 : goal.bounds-listed-listed-then-v-at-eq0
bounds-listed-listed-then-v-at-eq0 c =
    let output : c.loop-l.listed.count < 16 = let l = c.loop-l in
    let n : length c.args.v ≡ 16 = search rules in
    listed_fits _ _ _ _ _ _ _ _ _ _ l.invariant (counts _ c.args.i l.l n (omega arith) c.if-within.true) (lane _ c.args.i l.l n (omega arith) c.if-within.true ∙ c.if-v-at-eq0.true) c.requires.1 in
    output

pub loop-l-preserved : goal.loop-l-preserved
loop-l-preserved c =
    let l = c.loop-l in
    let i = c.args.i in
    let n : length c.args.v ≡ 16 = search rules in
    elim c.if-within.branch [
      | then-within+then-v-at-eq0 w ↦ rw w.listed-is (listed_more _ _ _ _ _ _ _ _ _ _ l.invariant (counts _ i l.l n (omega arith) w.if-within.true) (lane _ i l.l n (omega arith) w.if-within.true ∙ w.if-v-at-eq0.true) c.requires.1)
      | then-within+else-v-at-eq0 w ↦ rw w.listed-is (listed_skip _ _ _ _ _ _ _ _ _ _ l.invariant (counts _ i l.l n (omega arith) w.if-within.true) (λ z. w.if-v-at-eq0.false (sym (lane _ i l.l n (omega arith) w.if-within.true) ∙ z)))
      | else-within w ↦ rw w.listed-is (listed_past _ _ _ _ _ _ _ _ _ _ l.invariant (omega (arith, length-take (204 - i) c.args.v, w.if-within.false)))
    ]
