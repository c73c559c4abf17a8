-- `acquisition::symbol_at` meets its contract.
-- Assumes nothing.
use mathlib.Core.Path.{refl}
use Prim.Native.Nat.{◌-◌, ◌*◌, ◌/◌, ◌≤◌}
use native.Mathlib.Omega.{arith}
use Rattle.acquisition.specs.Reading.{symbol_at}
use Rattle.acquisition.proofs.Numbers.{rate_numbers, symbols_fit, symbol_before}
use Rattle.acquisition.proofs.symbol_at.Goals as goal

pub returns-then-bit-lead : goal.returns-then-bit-lead
returns-then-bit-lead c = symbol_before c.args.rate c.args.first c.args.bit c.requires.0 (omega (arith, c.if-bit-lead.true, c.lead_bits-lead.ensures))

pub nonzero_div-result : goal.nonzero_div-result
nonzero_div-result c = rw c.pattern_length-length.ensures (rate_numbers c.args.rate c.requires.0).some_bits

pub overflow_mul-result : goal.overflow_mul-result
overflow_mul-result c =
    let fits : c.symbol_count.result * ((c.args.bit - c.lead_bits-lead.result) / c.pattern_length-length.result)
    ≤ c.args.bit - c.lead_bits-lead.result = symbols_fit c.args.rate c.requires.0 c.pattern_length-length.ensures c.symbol_count.ensures (c.args.bit - c.lead_bits-lead.result) in
    omega (arith, fits, c.requires.1)

pub overflow_add-result : goal.overflow_add-result
overflow_add-result c =
    let fits : c.symbol_count.result * ((c.args.bit - c.lead_bits-lead.result) / c.pattern_length-length.result)
    ≤ c.args.bit - c.lead_bits-lead.result = symbols_fit c.args.rate c.requires.0 c.pattern_length-length.ensures c.symbol_count.ensures (c.args.bit - c.lead_bits-lead.result) in
    omega (arith, fits, c.requires.1)

pub returns : goal.returns
unfolding symbol_at
returns c = rw (c.pattern_length-length.ensures, c.lead_bits-lead.ensures, c.symbol_count.ensures) refl
