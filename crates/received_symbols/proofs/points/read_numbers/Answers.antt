-- `received_symbols::points::read_numbers` meets its contract.
-- Assumes nothing.
use mathlib.Core.Path.{refl, ◌∙◌, ap}
use native.Mathlib.Omega.{arith}
use lib.Ieee.{of_bits, binary32}
use Rattle.received_symbols.proofs.SoftInput.{number_more}
use Rattle.received_symbols.proofs.points.read_numbers.Goals as goal

pub loop-k-init : goal.loop-k-init
loop-k-init c = record { len = refl; each = λ t h. absurd (omega arith) }

pub offset_bounds-numbers-k : goal.offset_bounds-numbers-k
offset_bounds-numbers-k c = omega (arith, c.loop-k.invariant.len)

pub bounds-numbers-k : goal.bounds-numbers-k
bounds-numbers-k c = omega (arith, c.loop-k.invariant.len)

pub loop-k-preserved : goal.loop-k-preserved
loop-k-preserved c =
    let l = c.loop-k in
    number_more _ c.args.at _ (omega arith) (c.number_of.ensures ∙ ap (of_bits binary32) c.word_at.ensures) l.invariant

pub shape_of-numbers : goal.shape_of-numbers
shape_of-numbers c = c.loop-k.invariant.len

pub returns : goal.returns
returns c = λ t h. c.loop-k.invariant.each t (omega arith)
