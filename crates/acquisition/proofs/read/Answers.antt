-- `acquisition::read` meets its contract.
-- Assumes nothing.
use mathlib.Core.Path.{◌≡◌, sym, ap, ◌∙◌, subst}
use mathlib.Core.List.{List, map}
use Prim.Native.Nat.{ℕ, ◌<◌, ◌≤◌}
use native.Mathlib.Omega.{arith}
use lib.ListN.{length, take, replicate, length-map}
use Rattle.common.specs.Lists.{All}
use Rattle.symbol_turns.specs.Turn.{undoing, turned_pair}
use Rattle.symbol_turns.proofs.Turns.{undoing_small, pairs_small}
use Rattle.reader_stream.specs.Runs.{FeedsSymbols}
use Rattle.acquisition.proofs.Symbols.{run_counts, turned_front, front_length}
use Rattle.acquisition.proofs.read.Goals as goal

pub turn_pairs-requires : goal.turn_pairs-requires
turn_pairs-requires c =
    (rw c.undoing_turn.ensures (undoing_small c.args.reading.turn c.requires.0.turn_small), c.requires.1, c.requires.2)

pub slice_bounds-turned-end : goal.slice_bounds-turned-end
slice_bounds-turned-end c = omega (arith, c.turn_pairs.auto, c.requires.2)

pub slice_bounds-feed-end : goal.slice_bounds-feed-end
slice_bounds-feed-end c =
    let front : take (length c.args.symbols.now) c.turn_pairs.new.output
    ≡ map (turned_pair (undoing c.args.reading.turn)) c.args.symbols.now = turned_front _ c.args.symbols.now _ _ c.turn_pairs.ensures ∙ ap (λ (t : ℕ). map (turned_pair t) c.args.symbols.now) c.undoing_turn.ensures in
    sym (ap length (front) ∙ length-map c.args.symbols.now (turned_pair (undoing c.args.reading.turn)))

pub feed-fed-requires : goal.feed-fed-requires
feed-fed-requires c =
    let front : take (length c.args.symbols.now) c.turn_pairs.new.output
    ≡ map (turned_pair (undoing c.args.reading.turn)) c.args.symbols.now = turned_front _ c.args.symbols.now _ _ c.turn_pairs.ensures ∙ ap (λ (t : ℕ). map (turned_pair t) c.args.symbols.now) c.undoing_turn.ensures in
    let t = undoing c.args.reading.turn in (
      c.requires.0.runs_ready,
      subst (All (λ p. p < 81)) (sym (front)) (pairs_small t (undoing_small c.args.reading.turn c.requires.0.turn_small) c.args.symbols.now c.requires.1),
      omega arith,
    )

pub slice_bounds-bits-end : goal.slice_bounds-bits-end
slice_bounds-bits-end c =
    let front : take (length c.args.symbols.now) c.turn_pairs.new.output
    ≡ map (turned_pair (undoing c.args.reading.turn)) c.args.symbols.now = turned_front _ c.args.symbols.now _ _ c.turn_pairs.ensures ∙ ap (λ (t : ℕ). map (turned_pair t) c.args.symbols.now) c.undoing_turn.ensures in
    let feeds : FeedsSymbols c.args.reading.runs (map (turned_pair (undoing c.args.reading.turn)) c.args.symbols.now) (replicate 1632 0) c.feed-fed.result.runs c.feed-fed.result.taken
    c.feed-fed.result.count c.feed-fed.new.output = subst (λ (l : List ℕ). FeedsSymbols c.args.reading.runs l (replicate 1632 0) c.feed-fed.result.runs c.feed-fed.result.taken c.feed-fed.result.count c.feed-fed.new.output)
    (front) c.feed-fed.ensures.0 in
    let within : (c.feed-fed.result.count ≤ 1632) × (c.feed-fed.result.count ≤ length c.feed-fed.new.output) = let n = (run_counts c.requires.0.runs_ready c.feed-fed.ensures.1 (feeds)).few_bits in
    (n, omega (arith, n, c.feed-fed.auto)) in
    (within).1

pub slice_bounds-settle-end : goal.slice_bounds-settle-end
slice_bounds-settle-end c =
    let front : take (length c.args.symbols.now) c.turn_pairs.new.output
    ≡ map (turned_pair (undoing c.args.reading.turn)) c.args.symbols.now = turned_front _ c.args.symbols.now _ _ c.turn_pairs.ensures ∙ ap (λ (t : ℕ). map (turned_pair t) c.args.symbols.now) c.undoing_turn.ensures in
    let feeds : FeedsSymbols c.args.reading.runs (map (turned_pair (undoing c.args.reading.turn)) c.args.symbols.now) (replicate 1632 0) c.feed-fed.result.runs c.feed-fed.result.taken
    c.feed-fed.result.count c.feed-fed.new.output = subst (λ (l : List ℕ). FeedsSymbols c.args.reading.runs l (replicate 1632 0) c.feed-fed.result.runs c.feed-fed.result.taken c.feed-fed.result.count c.feed-fed.new.output)
    (front) c.feed-fed.ensures.0 in
    let within : (c.feed-fed.result.count ≤ 1632) × (c.feed-fed.result.count ≤ length c.feed-fed.new.output) = let n = (run_counts c.requires.0.runs_ready c.feed-fed.ensures.1 (feeds)).few_bits in
    (n, omega (arith, n, c.feed-fed.auto)) in
    front_length _ _ (within).1

pub settle-requires : goal.settle-requires
settle-requires c =
    let front : take (length c.args.symbols.now) c.turn_pairs.new.output
    ≡ map (turned_pair (undoing c.args.reading.turn)) c.args.symbols.now = turned_front _ c.args.symbols.now _ _ c.turn_pairs.ensures ∙ ap (λ (t : ℕ). map (turned_pair t) c.args.symbols.now) c.undoing_turn.ensures in
    let feeds : FeedsSymbols c.args.reading.runs (map (turned_pair (undoing c.args.reading.turn)) c.args.symbols.now) (replicate 1632 0) c.feed-fed.result.runs c.feed-fed.result.taken
    c.feed-fed.result.count c.feed-fed.new.output = subst (λ (l : List ℕ). FeedsSymbols c.args.reading.runs l (replicate 1632 0) c.feed-fed.result.runs c.feed-fed.result.taken c.feed-fed.result.count c.feed-fed.new.output)
    (front) c.feed-fed.ensures.0 in
    let within : (c.feed-fed.result.count ≤ 1632) × (c.feed-fed.result.count ≤ length c.feed-fed.new.output) = let n = (run_counts c.requires.0.runs_ready c.feed-fed.ensures.1 (feeds)).few_bits in
    (n, omega (arith, n, c.feed-fed.auto)) in
    (c.requires.0, omega (arith, front_length c.feed-fed.result.count c.feed-fed.new.output (within).1, (within).0))

pub returns : goal.returns
returns c =
    let front : take (length c.args.symbols.now) c.turn_pairs.new.output
    ≡ map (turned_pair (undoing c.args.reading.turn)) c.args.symbols.now = turned_front _ c.args.symbols.now _ _ c.turn_pairs.ensures ∙ ap (λ (t : ℕ). map (turned_pair t) c.args.symbols.now) c.undoing_turn.ensures in
    let feeds : FeedsSymbols c.args.reading.runs (map (turned_pair (undoing c.args.reading.turn)) c.args.symbols.now) (replicate 1632 0) c.feed-fed.result.runs c.feed-fed.result.taken
    c.feed-fed.result.count c.feed-fed.new.output = subst (λ (l : List ℕ). FeedsSymbols c.args.reading.runs l (replicate 1632 0) c.feed-fed.result.runs c.feed-fed.result.taken c.feed-fed.result.count c.feed-fed.new.output)
    (front) c.feed-fed.ensures.0 in
    record {
      next = c.feed-fed.result.runs;
      taken = c.feed-fed.result.taken;
      count = c.feed-fed.result.count;
      output = replicate 1632 0;
      exit = c.feed-fed.new.output;
      feeds = feeds;
      ready = c.feed-fed.ensures.1;
      settles = c.settle.ensures;
    }
