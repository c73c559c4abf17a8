-- `galois::lanes::inverses` meets its contract: the lanes of each product are the powers that its name says.
-- Assumes nothing.
use mathlib.Core.Path.{◌∙◌}
use mathlib.Core.List.{List}
use Prim.Native.Nat.{ℕ}
use Rattle.galois.specs.Field256.{inv}
use Rattle.galois.proofs.LanePowers.{first_products, one_more, times_powers}
use Rattle.galois.proofs.lanes.inverses.Goals as goal

pub returns : goal.returns
unfolding inv
returns c =
    let a : List ℕ = c.args.a in
    let p2 = c.products-a2.ensures ∙ first_products a in
    let p3 = c.products-a3.ensures ∙ one_more a 2 p2 in
    let p6 = c.products-a6.ensures ∙ times_powers a 3 3 p3 p3 in
    let p12 = c.products-a12.ensures ∙ times_powers a 6 6 p6 p6 in
    let p14 = c.products-a14.ensures ∙ times_powers a 12 2 p12 p2 in
    let p15 = c.products-a15.ensures ∙ times_powers a 12 3 p12 p3 in
    let p30 = c.products-a30.ensures ∙ times_powers a 15 15 p15 p15 in
    let p60 = c.products-a60.ensures ∙ times_powers a 30 30 p30 p30 in
    let p120 = c.products-a120.ensures ∙ times_powers a 60 60 p60 p60 in
    let p240 = c.products-a240.ensures ∙ times_powers a 120 120 p120 p120 in
    c.products.ensures ∙ times_powers a 240 14 p240 p14
