-- `node_search::search_rate` meets its contract.
-- Assumes nothing.
use mathlib.Core.Bool.{Bool}
use mathlib.Core.Path.{◌≡◌, sym, ◌∙◌, ap, ap₂}
use Prim.Native.Nat.{ℕ, ◌*◌}
use native.Mathlib.Omega.{arith}
use Rattle.node_search.specs.Hypotheses.{hypothesis_count}
use Rattle.common.specs.Choice.{pick}
use Rattle.node_search.specs.Search.{adding}
use Rattle.node_search.specs.declared.Hypothesis.{Hypothesis}
use Rattle.node_search.proofs.Verdicts.{searching_none, searching_more, searching_all}
use Rattle.node_search.proofs.search_rate.Goals as goal
use Rattle.node_search.proofs.search_rate.Goals.{then-is_candidate, else-is_candidate}

pub loop-k-init : goal.loop-k-init
loop-k-init c = (ap₂ (λ (x y : ℕ). x * y) c.symbol_count.ensures c.turn_count.ensures, searching_none c.args.rate c.args.window.now c.args.before)

pub loop-k-preserved : goal.loop-k-preserved
loop-k-preserved c =
    let k = c.loop-k in
    let h : Hypothesis = c.hypothesis_at-h.result in
    let e = c.hypothesis_at-h.ensures.0 in
    let below : Bool = c.is_candidate.result in
    let more : c.if-is_candidate.found ≡ pick below (adding k.found h) k.found =
    elim c.if-is_candidate.branch [
      | then-is_candidate w ↦ w.found-is ∙ (w.added-found.ensures ∙ sym (ap (λ (b : Bool). pick b (adding k.found h) k.found) w.if-is_candidate.true))
      | else-is_candidate w ↦ w.found-is ∙ sym (ap (λ (b : Bool). pick b (adding k.found h) k.found) w.if-is_candidate.false)
    ] in
    (k.invariant.0, searching_more c.args.rate c.args.window.now k.k k.invariant.1 h e below c.is_candidate.ensures c.if-is_candidate.found more)

pub returns : goal.returns
returns c =
    let k = c.loop-k in
    let n : k.k ≡ hypothesis_count c.args.rate = omega (arith, k.invariant.0) in
    searching_all c.args.rate c.args.window.now k.k k.invariant.1 n
