-- `symbol_turns::turn_pairs` meets its contract.
-- Assumes nothing.
use mathlib.Core.Path.{◌≡◌, sym, ◌∙◌, ap}
use mathlib.Core.List.{List, ◌++◌, map}
use Prim.Native.Nat.{ℕ, ◌<◌}
use native.Mathlib.Nat.{zero-add}
use native.Mathlib.Omega.{arith}
use lib.ListN.{length, get_or, drop, length-map}
use Rattle.common.proofs.Lists.{All-at, get_d_map_in}
use Rattle.common.proofs.Written.{written_none, written_next, written_length, written_all}
use Rattle.symbol_turns.specs.Turn.{turned_pair}
use Rattle.symbol_turns.proofs.Turns.{exchanged}
use Rattle.symbol_turns.proofs.turn_pairs.Goals as goal

pub loop-k-init : goal.loop-k-init
loop-k-init c = written_none (omega (arith, length-map c.args.pairs.now (turned_pair c.args.turn), c.requires.2))

pub exchanged_pair-requires : goal.exchanged_pair-requires
exchanged_pair-requires c =
    All-at (λ p. p < 81) c.args.pairs.now 0 c.loop-k.k c.requires.1 (omega arith)

pub bounds-output-k : goal.bounds-output-k
bounds-output-k c = omega (arith, written_length c.loop-k.invariant)

pub loop-k-preserved : goal.loop-k-preserved
loop-k-preserved c =
    let pairs : List ℕ = c.args.pairs.now in
    let turn : ℕ = c.args.turn in
    let k : ℕ = c.loop-k.k in
    let h : k < length pairs = (omega arith) in
    written_next c.loop-k.invariant c.exchanged_pair.result (omega (arith, length-map pairs (turned_pair turn)))
    (c.exchanged_pair.ensures
    ∙ (exchanged turn (get_or pairs k 0) c.requires.0 (All-at (λ p. p < 81) pairs 0 k c.requires.1 h)
    ∙ sym (get_d_map_in (turned_pair turn) pairs 0 0 k h)))

pub shape_of-output : goal.shape_of-output
shape_of-output c = written_length c.loop-k.invariant

pub returns : goal.returns
returns c =
    let pairs : List ℕ = c.args.pairs.now in
    let turn : ℕ = c.args.turn in
    let k : ℕ = c.loop-k.k in
    let e : length (map (turned_pair turn) pairs) ≡ k = omega (arith, length-map pairs (turned_pair turn), c.loop-k.invariant.within) in
    written_all c.loop-k.invariant e
    ∙ ap (λ (n : ℕ). map (turned_pair turn) pairs ++ drop n c.args.output.now) (zero-add k ∙ (sym e ∙ length-map pairs (turned_pair turn)))
