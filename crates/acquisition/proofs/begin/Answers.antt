-- `acquisition::begin` meets its contract.
-- Assumes nothing.
use Rattle.acquisition.proofs.Symbols.{lost_front, led}
use Rattle.acquisition.proofs.Numbers.{rate_numbers}
use Rattle.common.specs.Lists.{All}
use Rattle.reader_stream.specs.Runs.{RunsHold, FeedsSymbols}
use lib.ListN.{length, take, replicate, length-replicate}
use native.Mathlib.Omega.{arith}
use Prim.Native.Nat.{ℕ, zero, suc, ◌<◌, ◌≤◌}
use mathlib.Core.Path.{◌≡◌, refl, sym, ap, ◌∙◌, subst}
use mathlib.Core.List.{List}
use Rattle.acquisition.proofs.begin.Goals as goal

pub slice_bounds-lost-end : goal.slice_bounds-lost-end
slice_bounds-lost-end c = omega (arith, c.lead_symbols-count.ensures, (rate_numbers c.args.hypothesis.rate c.requires.0).few_leads)

small : (n : ℕ) → All (λ p. p < 81) (replicate n 80)
small zero = tt
small (suc n) = (omega arith, small n)

pub slice_bounds-feed-end : goal.slice_bounds-feed-end
slice_bounds-feed-end c =
    let lost : take {A = ℕ} c.lead_symbols-count.result (replicate 8 80) ≡ replicate c.lead_symbols-count.result 80 = lost_front c.lead_symbols-count.result (omega (arith, c.lead_symbols-count.ensures, (rate_numbers c.args.hypothesis.rate c.requires.0).few_leads)) in
    sym (ap length (lost) ∙ length-replicate c.lead_symbols-count.result 80)

pub feed-led-requires : goal.feed-led-requires
feed-led-requires c =
    let lost : take {A = ℕ} c.lead_symbols-count.result (replicate 8 80) ≡ replicate c.lead_symbols-count.result 80 = lost_front c.lead_symbols-count.result (omega (arith, c.lead_symbols-count.ensures, (rate_numbers c.args.hypothesis.rate c.requires.0).few_leads)) in
    (c.open-open.ensures.0, subst (All (λ p. p < 81)) (sym (lost)) (small c.lead_symbols-count.result), omega arith)

pub returns : goal.returns
returns c =
    let lost : take {A = ℕ} c.lead_symbols-count.result (replicate 8 80) ≡ replicate c.lead_symbols-count.result 80 = lost_front c.lead_symbols-count.result (omega (arith, c.lead_symbols-count.ensures, (rate_numbers c.args.hypothesis.rate c.requires.0).few_leads)) in
    let n : ℕ = c.lead_symbols-count.result in
    let few : length (replicate {A = ℕ} n 80) ≤ 8 =
    omega (arith, length-replicate {A = ℕ} n 80, c.lead_symbols-count.ensures, (rate_numbers c.args.hypothesis.rate c.requires.0).few_leads) in
    let f = c.feed-led in
    let o = c.open-open in
    let x : FeedsSymbols o.result (replicate n 80) (replicate 1632 0) f.result.runs f.result.taken f.result.count f.new.output =
    subst (λ (l : List ℕ). FeedsSymbols o.result l (replicate 1632 0) f.result.runs f.result.taken f.result.count f.new.output) (lost) f.ensures.0 in
    record {
      turn_is = c.turn_read-turn.ensures.0;
      ready = f.ensures.1;
      lead = subst (λ (k : ℕ). RunsHold f.result.runs c.args.hypothesis.rate 0 (replicate k 80)) c.lead_symbols-count.ensures (led c.args.hypothesis.rate c.requires.0 o.ensures.1 o.ensures.0 few x);
      sync_is = c.new-sync.ensures;
      first_is = refl;
      none_used = refl;
    }
