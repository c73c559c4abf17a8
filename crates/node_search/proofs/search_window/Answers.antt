-- `node_search::search_window` meets its contract.
-- Assumes nothing.
use mathlib.Core.Path.{refl, ap, subst}
use mathlib.Core.List.{List}
use Prim.Native.Nat.{ℕ, ◌<◌}
use native.Mathlib.Omega.{arith}
use Rattle.common.specs.Lists.{largest}
use Rattle.node_search.specs.Search.{SearchesWindow}
use Rattle.node_search.proofs.Calls.{no_decisions, at_rate_lem, at_any, window_small}
use Rattle.node_search.proofs.search_window.Goals as goal

pub returns-then-largest_of-ge81 : goal.returns-then-largest_of-ge81
returns-then-largest_of-ge81 c =
    let w = c.in-Ok.ensures.1 in
    no_decisions c.args.rate c.args.window.now refl (omega arith) w.long (omega (arith, c.largest_of.ensures, ap largest w.same)) refl

pub search_rate-requires : goal.search_rate-requires
search_rate-requires c = (c.if-rate-lt-ANY_RATE.true, window_small c.in-Ok.window.now (omega (arith, c.if-largest_of-ge81.false, c.largest_of.ensures)))

pub returns-then-rate-lt-ANY_RATE : goal.returns-then-rate-lt-ANY_RATE
returns-then-rate-lt-ANY_RATE c =
    let small : largest c.in-Ok.window.now < 81 = omega (arith, c.if-largest_of-ge81.false, c.largest_of.ensures) in
    subst (λ (w : List ℕ). SearchesWindow c.args.rate w 0 c.search_rate.result) c.in-Ok.ensures.1.same
    (at_rate_lem c.args.rate c.in-Ok.window.now (omega arith) (omega arith) small c.if-rate-lt-ANY_RATE.true c.search_rate.ensures)

pub search_rates-requires : goal.search_rates-requires
search_rates-requires c = window_small c.in-Ok.window.now (omega (arith, c.if-largest_of-ge81.false, c.largest_of.ensures))

pub returns : goal.returns
returns c =
    let small : largest c.in-Ok.window.now < 81 = omega (arith, c.if-largest_of-ge81.false, c.largest_of.ensures) in
    subst (λ (w : List ℕ). SearchesWindow c.args.rate w 0 c.search_rates.result) c.in-Ok.ensures.1.same
    (at_any c.args.rate c.in-Ok.window.now (omega arith) (omega arith) small c.if-rate-lt-ANY_RATE.false c.search_rates.ensures)
