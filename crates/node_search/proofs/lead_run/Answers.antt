-- `node_search::lead_run` meets its contract.
-- Assumes nothing.
use mathlib.Core.Path.{◌≡◌, sym, ◌∙◌, ap}
use mathlib.Core.List.{◌++◌}
use Prim.Native.Nat.{ℕ, ◌-◌}
use native.Mathlib.Omega.{arith}
use lib.ListN.{length, take, drop, replicate, length-take, length-drop, length-append}
use lib.Seq.{length-take-le}
use Rattle.symbol_turns.proofs.Turns.{undoing_small}
use Rattle.node_search.proofs.Numbers.{numbers}
use Rattle.node_search.proofs.Runs.{led_written}
use Rattle.node_search.proofs.lead_run.Goals as goal

pub slice_bounds-fill-end : goal.slice_bounds-fill-end
slice_bounds-fill-end c = omega (arith, c.lead_symbols-lead.ensures, (numbers c.args.h.rate c.requires.0).lead_most)

pub slice_bounds-fill-end-2 : goal.slice_bounds-fill-end-2
slice_bounds-fill-end-2 c = sym (length-take-le _ _ (omega (arith, c.lead_symbols-lead.ensures, (numbers c.args.h.rate c.requires.0).lead_most)))

pub slice_bounds-turn_pairs-count : goal.slice_bounds-turn_pairs-count
slice_bounds-turn_pairs-count c = omega (arith, length-append c.fill.new.self (drop c.lead_symbols-lead.result c.args.run.now), c.fill.ensures.len, length-take c.lead_symbols-lead.result c.args.run.now, c.lead_symbols-lead.ensures, (numbers c.args.h.rate c.requires.0).lead_most)

pub slice_bounds-turn_pairs-start : goal.slice_bounds-turn_pairs-start
slice_bounds-turn_pairs-start c = omega (arith, length-append c.fill.new.self (drop c.lead_symbols-lead.result c.args.run.now), c.fill.ensures.len, length-take c.lead_symbols-lead.result c.args.run.now, c.lead_symbols-lead.ensures, (numbers c.args.h.rate c.requires.0).lead_most)

pub turn_pairs-requires : goal.turn_pairs-requires
turn_pairs-requires c =
    let lead = c.lead_symbols-lead.result in
    let run = c.fill.new.self ++ drop lead c.args.run.now in
    let n = numbers c.args.h.rate c.requires.0 in (
      rw c.undoing_turn.ensures (undoing_small c.args.h.turn c.requires.1),
      c.requires.3,
      omega (
        arith,
        c.lead_symbols-lead.ensures,
        n.run_most,
        c.requires.2,
        c.fill.ensures.len,
        length-append c.fill.new.self (drop lead c.args.run.now),
        length-take lead c.args.run.now,
        length-drop lead c.args.run.now,
        length-take (length run - lead) (drop lead run),
        length-drop lead run,
      ),
    )

pub returns : goal.returns
returns c =
    let lead : ℕ = c.lead_symbols-lead.result in
    let whole : length (take lead c.args.run.now) ≡ lead = length-take-le _ _ (omega (arith, c.lead_symbols-lead.ensures, (numbers c.args.h.rate c.requires.0).lead_most)) in
    led_written c.args.h.rate c.args.h.turn c.args.pairs.now lead c.lead_symbols-lead.ensures
    c.fill.new.self (drop lead c.args.run.now) (c.fill.ensures.after (λ y h. h) ∙ ap (λ (k : ℕ). replicate k 80) whole)
    c.undoing_turn.result c.undoing_turn.ensures c.turn_pairs.new.output _ _ c.turn_pairs.ensures
