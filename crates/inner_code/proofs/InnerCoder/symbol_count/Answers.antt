-- `inner_code::InnerCoder::symbol_count` meets its contract.
-- Assumes nothing.
use mathlib.Core.Path.{◌≡◌, sym, ◌∙◌}
use mathlib.Core.Bool.{true}
use Rattle.inner_code.specs.Step.{coder_in_range}
use Rattle.inner_code.proofs.Coder.{range_by_mode, in_range_lem, rate_known}
use Rattle.inner_code.proofs.InnerCoder.symbol_count.Goals as goal

pub returns-then-not-in_range : goal.returns-then-not-in_range
returns-then-not-in_range c = simp (sym (range_by_mode c.args.self) ∙ sym c.in_range.ensures ∙ c.if-not-in_range.true)

pub block_count-requires : goal.block_count-requires
block_count-requires c =
    let good : coder_in_range c.args.self ≡ true = sym c.in_range.ensures ∙ c.if-not-in_range.false in
    let a = c.args.self in
    let g = in_range_lem a (good) in
    (rate_known a g, g.place)
