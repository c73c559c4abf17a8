-- `puncturing::puncture_parts` meets its contract: proofs/Parts.antt has the symbols of a block in three parts.
-- Assumes nothing.
use mathlib.Core.Path.{◌≡◌, ap, ap₂, sym, subst, ◌∙◌}
use mathlib.Core.List.{List, ◌++◌}
use Prim.Native.Nat.{ℕ, ◌+◌, ◌-◌, ◌*◌, ◌≤◌}
use native.Mathlib.Omega.{arith}
use lib.ListN.{length, length-append}
use Rattle.common.specs.Lists.{placed}
use Rattle.common.proofs.Outputs.{placed_three}
use Rattle.puncturing.specs.Step.{pattern_length}
use Rattle.puncturing.specs.Run.{punctured_symbols, held_behind, patterns_symbols, i_bits, q_bits}
use Rattle.puncturing.specs.declared.Progress.{Progress}
use Rattle.puncturing.proofs.Parts.{length_patterns, parts_symbols, parts_place, parts_held}
use Rattle.puncturing.proofs.puncture_parts.Goals as goal

pub puncture_bits-first-requires : goal.puncture_bits-first-requires
puncture_bits-first-requires c =
    let head_symbols : List ℕ = punctured_symbols c.args.rate c.args.place c.args.held c.args.coded.now 0 (c.args.head - 0) in
    let whole_symbols : List ℕ = patterns_symbols (i_bits c.args.rate) (q_bits c.args.rate) c.args.coded.now (pattern_length c.args.rate) c.args.head c.args.turns in
    let tail_symbols : List ℕ = punctured_symbols c.args.rate 0 0 c.args.coded.now c.args.tail (1632 - c.args.tail) in
    let everything : c.args.head + (c.args.turns * pattern_length c.args.rate + (1632 - c.args.tail)) ≡ 1632 = let e = c.requires.5 in let h = c.requires.6 in omega arith in
    let none_off : c.args.head ≡ c.args.head - 0 = omega arith in
    let three : punctured_symbols c.args.rate c.args.place c.args.held c.args.coded.now 0 1632 ≡ head_symbols ++ whole_symbols ++ tail_symbols = parts_symbols c.args.rate c.args.coded.now c.requires.0 c.requires.3 c.args.place c.args.held c.args.head c.args.turns
    (1632 - c.args.tail) c.requires.1 c.requires.2 c.requires.4 everything
    ∙ (λ i.
    punctured_symbols c.args.rate c.args.place c.args.held c.args.coded.now 0 (none_off i)
    ++ whole_symbols
    ++ punctured_symbols c.args.rate 0 0 c.args.coded.now (sym c.requires.5 i) (1632 - c.args.tail)) in
    let fits : length (head_symbols ++ whole_symbols ++ tail_symbols) ≤ length c.args.output.now = subst (λ (s : List ℕ). length s ≤ length c.args.output.now) three c.requires.7 in
    let sizes : length (head_symbols) + length (whole_symbols) + length (tail_symbols) ≤ length c.args.output.now = let e : length (head_symbols ++ whole_symbols ++ tail_symbols) ≡ length (head_symbols) + length (whole_symbols) + length (tail_symbols)
    = length-append (head_symbols ++ whole_symbols) (tail_symbols)
    ∙ ap (λ (n : ℕ). n + length (tail_symbols)) (length-append (head_symbols) (whole_symbols))
    in
    omega (arith, fits) in
    let g = c.requires in
    (g.0, g.1, g.2, g.3, omega arith, omega (arith, g.5, g.6), omega (arith, sizes))

pub whole_patterns-count-requires : goal.whole_patterns-count-requires
whole_patterns-count-requires c =
    let head_symbols : List ℕ = punctured_symbols c.args.rate c.args.place c.args.held c.args.coded.now 0 (c.args.head - 0) in
    let whole_symbols : List ℕ = patterns_symbols (i_bits c.args.rate) (q_bits c.args.rate) c.args.coded.now (pattern_length c.args.rate) c.args.head c.args.turns in
    let tail_symbols : List ℕ = punctured_symbols c.args.rate 0 0 c.args.coded.now c.args.tail (1632 - c.args.tail) in
    let everything : c.args.head + (c.args.turns * pattern_length c.args.rate + (1632 - c.args.tail)) ≡ 1632 = let e = c.requires.5 in let h = c.requires.6 in omega arith in
    let none_off : c.args.head ≡ c.args.head - 0 = omega arith in
    let three : punctured_symbols c.args.rate c.args.place c.args.held c.args.coded.now 0 1632 ≡ head_symbols ++ whole_symbols ++ tail_symbols = parts_symbols c.args.rate c.args.coded.now c.requires.0 c.requires.3 c.args.place c.args.held c.args.head c.args.turns
    (1632 - c.args.tail) c.requires.1 c.requires.2 c.requires.4 everything
    ∙ (λ i.
    punctured_symbols c.args.rate c.args.place c.args.held c.args.coded.now 0 (none_off i)
    ++ whole_symbols
    ++ punctured_symbols c.args.rate 0 0 c.args.coded.now (sym c.requires.5 i) (1632 - c.args.tail)) in
    let fits : length (head_symbols ++ whole_symbols ++ tail_symbols) ≤ length c.args.output.now = subst (λ (s : List ℕ). length s ≤ length c.args.output.now) three c.requires.7 in
    let sizes : length (head_symbols) + length (whole_symbols) + length (tail_symbols) ≤ length c.args.output.now = let e : length (head_symbols ++ whole_symbols ++ tail_symbols) ≡ length (head_symbols) + length (whole_symbols) + length (tail_symbols)
    = length-append (head_symbols ++ whole_symbols) (tail_symbols)
    ∙ ap (λ (n : ℕ). n + length (tail_symbols)) (length-append (head_symbols) (whole_symbols))
    in
    omega (arith, fits) in
    let turned : length (whole_symbols) ≡ c.args.turns * length (i_bits c.args.rate) = length_patterns c.args.rate c.args.coded.now c.requires.0 c.requires.3 c.args.head c.args.turns in
    let g = c.requires in
    let b = c.puncture_bits-first in
    let counted = ap (λ (p : Progress). p.count) b.ensures.0 in
    let kept : length b.new.output ≡ length c.args.output.now = b.auto.output in
    (g.0, g.3, omega (arith, g.5, g.6), omega (arith, sizes, turned, counted, kept))

pub puncture_bits-requires : goal.puncture_bits-requires
puncture_bits-requires c =
    let head_symbols : List ℕ = punctured_symbols c.args.rate c.args.place c.args.held c.args.coded.now 0 (c.args.head - 0) in
    let whole_symbols : List ℕ = patterns_symbols (i_bits c.args.rate) (q_bits c.args.rate) c.args.coded.now (pattern_length c.args.rate) c.args.head c.args.turns in
    let tail_symbols : List ℕ = punctured_symbols c.args.rate 0 0 c.args.coded.now c.args.tail (1632 - c.args.tail) in
    let everything : c.args.head + (c.args.turns * pattern_length c.args.rate + (1632 - c.args.tail)) ≡ 1632 = let e = c.requires.5 in let h = c.requires.6 in omega arith in
    let none_off : c.args.head ≡ c.args.head - 0 = omega arith in
    let three : punctured_symbols c.args.rate c.args.place c.args.held c.args.coded.now 0 1632 ≡ head_symbols ++ whole_symbols ++ tail_symbols = parts_symbols c.args.rate c.args.coded.now c.requires.0 c.requires.3 c.args.place c.args.held c.args.head c.args.turns
    (1632 - c.args.tail) c.requires.1 c.requires.2 c.requires.4 everything
    ∙ (λ i.
    punctured_symbols c.args.rate c.args.place c.args.held c.args.coded.now 0 (none_off i)
    ++ whole_symbols
    ++ punctured_symbols c.args.rate 0 0 c.args.coded.now (sym c.requires.5 i) (1632 - c.args.tail)) in
    let fits : length (head_symbols ++ whole_symbols ++ tail_symbols) ≤ length c.args.output.now = subst (λ (s : List ℕ). length s ≤ length c.args.output.now) three c.requires.7 in
    let sizes : length (head_symbols) + length (whole_symbols) + length (tail_symbols) ≤ length c.args.output.now = let e : length (head_symbols ++ whole_symbols ++ tail_symbols) ≡ length (head_symbols) + length (whole_symbols) + length (tail_symbols)
    = length-append (head_symbols ++ whole_symbols) (tail_symbols)
    ∙ ap (λ (n : ℕ). n + length (tail_symbols)) (length-append (head_symbols) (whole_symbols))
    in
    omega (arith, fits) in
    let turned : length (whole_symbols) ≡ c.args.turns * length (i_bits c.args.rate) = length_patterns c.args.rate c.args.coded.now c.requires.0 c.requires.3 c.args.head c.args.turns in
    let g = c.requires in
    let b = c.puncture_bits-first in
    let w = c.whole_patterns-count in
    let counted = ap (λ (p : Progress). p.count) b.ensures.0 in
    let kept : length w.new.output ≡ length c.args.output.now = w.auto.output ∙ b.auto.output in
    (g.0, omega (arith, g.1), omega arith, g.3, g.6, omega arith, omega (arith, sizes, turned, counted, w.ensures.0, kept))

pub returns : goal.returns
returns c =
    let head_symbols : List ℕ = punctured_symbols c.args.rate c.args.place c.args.held c.args.coded.now 0 (c.args.head - 0) in
    let whole_symbols : List ℕ = patterns_symbols (i_bits c.args.rate) (q_bits c.args.rate) c.args.coded.now (pattern_length c.args.rate) c.args.head c.args.turns in
    let tail_symbols : List ℕ = punctured_symbols c.args.rate 0 0 c.args.coded.now c.args.tail (1632 - c.args.tail) in
    let everything : c.args.head + (c.args.turns * pattern_length c.args.rate + (1632 - c.args.tail)) ≡ 1632 = let e = c.requires.5 in let h = c.requires.6 in omega arith in
    let none_off : c.args.head ≡ c.args.head - 0 = omega arith in
    let three : punctured_symbols c.args.rate c.args.place c.args.held c.args.coded.now 0 1632 ≡ head_symbols ++ whole_symbols ++ tail_symbols = parts_symbols c.args.rate c.args.coded.now c.requires.0 c.requires.3 c.args.place c.args.held c.args.head c.args.turns
    (1632 - c.args.tail) c.requires.1 c.requires.2 c.requires.4 everything
    ∙ (λ i.
    punctured_symbols c.args.rate c.args.place c.args.held c.args.coded.now 0 (none_off i)
    ++ whole_symbols
    ++ punctured_symbols c.args.rate 0 0 c.args.coded.now (sym c.requires.5 i) (1632 - c.args.tail)) in
    let fits : length (head_symbols ++ whole_symbols ++ tail_symbols) ≤ length c.args.output.now = subst (λ (s : List ℕ). length s ≤ length c.args.output.now) three c.requires.7 in
    let turned : length (whole_symbols) ≡ c.args.turns * length (i_bits c.args.rate) = length_patterns c.args.rate c.args.coded.now c.requires.0 c.requires.3 c.args.head c.args.turns in
    let g = c.requires in
    let b = c.puncture_bits-first in
    let w = c.whole_patterns-count in
    let t = c.puncture_bits in
    let counted : b.result.count ≡ 0 + length (head_symbols) = ap (λ (p : Progress). p.count) b.ensures.0 in
    let next : w.result ≡ 0 + length (head_symbols) + length (whole_symbols)
    = w.ensures.0 ∙ ap₂ (λ (m n : ℕ). m + n) counted (sym (turned))
    in
    let place =
    parts_place c.args.rate c.args.coded.now g.0 g.3 c.args.place c.args.held c.args.head c.args.turns
    (1632 - c.args.tail) g.1 g.2 g.4 (everything)
    in
    let held =
    parts_held c.args.rate c.args.coded.now g.0 g.3 c.args.place c.args.held c.args.head c.args.turns
    (1632 - c.args.tail) g.1 g.2 g.4 (everything)
    ∙ ap (λ (n : ℕ). held_behind c.args.rate 0 0 c.args.coded.now n (1632 - c.args.tail)) (sym g.5)
    in
    let total : 0 + length (punctured_symbols c.args.rate c.args.place c.args.held c.args.coded.now 0 1632)
    ≡ w.result + length (tail_symbols)
    =
    let e = ap length (three) in
    let f = length-append (head_symbols ++ whole_symbols) (tail_symbols) in
    let h = length-append (head_symbols) (whole_symbols) in
    omega (arith, next)
    in (
      t.ensures.0 ∙ (λ i. record { place = sym place i; held = sym held i; count = sym total i }),
      t.ensures.1
          ∙ (λ i. placed (w.ensures.1 i) (next i) (tail_symbols))
          ∙ (λ i. placed (placed (b.ensures.1 i) (counted i) (whole_symbols)) (0 + length (head_symbols) + length (whole_symbols)) (tail_symbols))
          ∙ placed_three c.args.output.now (head_symbols) (whole_symbols) (tail_symbols) (fits)
          ∙ ap (placed c.args.output.now 0) (sym (three)),
    )
