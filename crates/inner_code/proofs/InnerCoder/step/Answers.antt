-- `inner_code::InnerCoder::step` meets its contract.
-- Assumes nothing.
use mathlib.Core.Path.{◌≡◌, sym, ◌∙◌}
use mathlib.Core.Bool.{Bool, true, false}
use Prim.Native.Nat.{◌<◌}
use native.Mathlib.Omega.{arith}
use mir.Val.{bool_byte}
use Rattle.puncturing.proofs.Steps.{held_le}
use Rattle.inner_code.specs.Step.{coder_in_range}
use Rattle.inner_code.proofs.Coder.{in_range_lem, rate_known}
use Rattle.inner_code.proofs.InnerCoder.step.Goals as goal

bit_small : (b : Bool) → bool_byte b < 2
bit_small true = omega arith
bit_small false = omega arith

pub next_memory-next-requires : goal.next_memory-next-requires
next_memory-next-requires c =
    let good : coder_in_range c.args.self ≡ true = sym c.in_range.ensures ∙ c.if-not-in_range.false in
    ((in_range_lem c.args.self (good)).memory, bit_small c.args.bit)

pub puncture-punctured-requires : goal.puncture-punctured-requires
puncture-punctured-requires c =
    let good : coder_in_range c.args.self ≡ true = sym c.in_range.ensures ∙ c.if-not-in_range.false in
    let a = c.args.self in
    let g = in_range_lem a (good) in (
      rate_known a g,
      g.place,
      omega (arith, g.held, held_le a.rate a.place (rate_known a g) g.place),
      rw c.x_of.ensures (omega arith),
      rw c.y_of.ensures (omega arith),
    )
