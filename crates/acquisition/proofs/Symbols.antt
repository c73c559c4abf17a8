-- What a call of the runs counts, and the parts of a reading.
-- Assumes nothing.
use mathlib.Core.Path.{◌≡◌, refl, sym, ◌∙◌, ap}
use mathlib.Core.List.{List, [], ◌∷◌, ◌++◌, map}
use Prim.Native.Nat.{ℕ, zero, suc, ◌+◌, ◌*◌, ◌≤◌, ◌<◌}
use native.Mathlib.Omega.{arith}
use lib.Dec.{ltb, ltb→lt}
use lib.ListN.{length, take, replicate, length-append, length-map}
use lib.Seq.{length-take-le, take-append_seam}
use Rattle.common.proofs.Computed as computed
use Rattle.puncturing.specs.Mode.{mode_of}
use Rattle.reader.specs.Read.{symbols_per_pattern}
use Rattle.symbol_turns.specs.Turn.{turned_pair}
use Rattle.reader_stream.specs.Runs.{run_patterns, full_symbols, held_of, RunsReady, RunsHold, FeedsSymbols, gathered, read}
use Rattle.reader_stream.specs.declared.symbol_runs.SymbolRuns.{SymbolRuns}
use Rattle.reader_stream.proofs.Runs.{numbers, held_length}
use Rattle.reader_stream.proofs.Feeding.{fed_space}

-- what a call counts
pub record RunCounts (s : SymbolRuns) (piece : List ℕ) (next : SymbolRuns) (taken count : ℕ) : Type 0 where
  pub taken_most : taken ≤ length piece
  pub taken_some : 0 < length piece → 0 < taken
  pub few_bits : count ≤ 1632
  pub balance : count + 2 * next.count ≤ 2 * (s.count + taken)

pub run_counts : {s next : SymbolRuns} {piece output exit : List ℕ} {taken count : ℕ} → RunsReady s → RunsReady next → FeedsSymbols s piece output next taken count exit
    → RunCounts s piece next taken count
run_counts {s} {next} {piece} g r (gathered l et ec ex h) = record {
  taken_most = omega (arith, et);
  taken_some = λ p. omega (arith, et, p);
  few_bits = omega (arith, ec);
  balance = fed_space g r (gathered l et ec ex h);
}
run_counts {s} {next} {piece} {taken = taken} g r (read pairs es le size ec after f h) = record {
  taken_most = le;
  taken_some = λ p. omega (arith, size, ap length es, length-append (held_of s) (take taken piece), length-take-le taken piece le, held_length s g, g.below);
  few_bits = omega (arith, ec, (numbers s.rate g.known).bits_fewer);
  balance = fed_space g r (read pairs es le size ec after f h);
}

-- the symbols of a lead are lost
pub lost_front : (n : ℕ) → n ≤ 8 → take {A = ℕ} n (replicate 8 80) ≡ replicate n 80
lost_front n h = front n 8 h
  where
    front : (n m : ℕ) → n ≤ m → take {A = ℕ} n (replicate m 80) ≡ replicate n 80
    front zero m h = refl
    front (suc n) zero h = absurd (omega (arith, h))
    front (suc n) (suc m) h = ap (λ (l : List ℕ). 80 ∷ l) (front n m (omega (arith, h)))

-- the turned symbols stand at the front of what was written
pub turned_front : (t : ℕ) (l rest exit : List ℕ) → exit ≡ map (turned_pair t) l ++ rest → take (length l) exit ≡ map (turned_pair t) l
turned_front t l rest exit e =
    let n : length l ≡ length (map (turned_pair t) l) = sym (length-map l (turned_pair t)) in
    ap (take (length l)) e ∙ ap (λ (k : ℕ). take k (map (turned_pair t) l ++ rest)) n ∙ take-append_seam (map (turned_pair t) l) rest

-- a front that is no longer than the list
pub front_length : (n : ℕ) (l : List ℕ) → n ≤ length l → n ≡ length (take n l)
front_length n l h = sym (length-take-le n l h)

-- a longest run has more symbols than a lead
full_many : (rate : ℕ) → rate < 5 → 8 < full_symbols rate
unfolding full_symbols run_patterns symbols_per_pattern mode_of
full_many rate h = ltb→lt _ _ (computed.below_at (λ r. ltb 8 (full_symbols r)) 5 tt rate h)

-- so runs that are fed with a lead hold it
pub led : {s next : SymbolRuns} {piece output exit : List ℕ} {taken count : ℕ} → (rate : ℕ) → rate < 5 → RunsHold s rate 0 [] → RunsReady s → length piece ≤ 8
    → FeedsSymbols s piece output next taken count exit → RunsHold next rate 0 piece
led {s} {next} {piece} rate k e g n (gathered l et ec ex h) = record {
  rate_is = h.rate_is ∙ e.rate_is;
  memory_is = h.memory_is ∙ e.memory_is;
  held_is = h.held_is ∙ ap (λ (l : List ℕ). l ++ piece) e.held_is;
}
led {s} {next} {piece} {taken = taken} rate k e g n (read pairs es le size ec after f h) =
    absurd
    (omega (
      arith,
      size,
      ap full_symbols e.rate_is,
      full_many rate k,
      ap length es,
      length-append (held_of s) (take taken piece),
      ap length e.held_is,
      length-take-le taken piece le,
      le,
      n,
    ))
