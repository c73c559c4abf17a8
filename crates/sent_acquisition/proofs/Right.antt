-- A reading that turns back the right turn, or all of it but half a turn: behind the bits of the lead it gives the bits that were sent, straight or all inverted.
-- Assumes nothing.
use mathlib.Core.Path.{◌≡◌, refl, sym, ◌∙◌, ap, ap₂, subst}
use mathlib.Core.Bool.{Bool, true, false}
use mathlib.Core.List.{List, [], ◌∷◌, ◌++◌, map, map-append}
use Prim.Native.Nat.{ℕ, zero, suc, ◌+◌, ◌-◌, ◌*◌, ◌%◌, ◌≤◌, ◌<◌}
use Prim.{tt}
use native.Mathlib.Decide.{ℕ_discrete}
use native.Mathlib.Omega.{arith}
use lib.Bits.{bit_xor}
use lib.Dec.{eqb, ltb, leb, eqb→eq, ltb→lt, leb→le}
use lib.ListN.{length, get_or, take, drop, replicate, length-map, length-replicate, take-append-drop}
use lib.Seq.{take-append_seam}
use Rattle.common.specs.Choice.{pick}
use Rattle.common.specs.Lists.{All}
use Rattle.common.proofs.Computed.{below, below_at}
use Rattle.common.proofs.Lists.{All-at, All-append, get_d_map_in}
use Rattle.convolutional_code.specs.Bits.{Bits, none, more}
use Rattle.convolutional_code.specs.Costs.{pair_cost}
use Rattle.puncturing.specs.Mode.{mode_of}
use Rattle.puncturing.specs.Step.{held_count, place_next}
use Rattle.puncturing.proofs.Parts.{none_held}
use Rattle.inner_code.specs.Encode.{coder_at}
use Rattle.inner_code.specs.Step.{symbols_by, symbols_of}
use Rattle.reader.specs.Clear as clear
use Rattle.reader.specs.Clear.{Clear, AllClear}
use Rattle.reader.specs.Cost.{Costed}
use Rattle.reader.proofs.Costs.{sent_small}
use Rattle.reader.specs.Read.{symbols_per_pattern}
use Rattle.reader_stream.specs.Runs.{DecidedPairs, EndDecided, held_of, RunsReady, ClosesRuns}
use Rattle.reader_stream.specs.declared.symbol_runs.SymbolRuns.{SymbolRuns}
use Rattle.reader_stream.proofs.Histories.{SymbolsDecided, symbols_decided, closed_end}
use Rattle.reader_stream.proofs.Unharmed.{WholeStream, all_front}
use Rattle.symbol_turns.specs.Turn.{turned, undoing, turned_pair, turned_cost, by_pair}
use Rattle.symbol_turns.proofs.Turns.{turned_small, turned_all, undoing_small, clear_turned, costed_turned}
use Rattle.symbol_turns.proofs.Ambiguity.{coder, flipped, half_turn, map_agrees, map-map}
use Rattle.free_start.specs.Lead.{Unknown, lead_symbols, bits_of_lead}
use Rattle.free_start.proofs.FreeStream.{free_given_back, free_whole}
use Rattle.node_search.specs.Sent as prefer
use Rattle.node_search.specs.Sent.{Prefers, AllPrefer}
use Rattle.node_search.specs.Weight.{of_pair, cheaper}
use Rattle.node_search.proofs.Truth.{map-take, preferred_cost}
use Rattle.block_sync.specs.Decision.{turned_bits}
use Rattle.block_sync.proofs.Turning.{turned_bits_lem}
use Rattle.sent_acquisition.specs.Right.{SentSymbols, less_half, has_half}

-- ---- what a symbol costs beyond what its decisions cost in any case

beyond : ℕ → ℕ → ℕ
beyond p s = by_pair p s - of_pair cheaper p

floor_least : (p s : ℕ) → p < 81 → s < 4 → of_pair cheaper p ≤ by_pair p s
unfolding pair_cost
floor_least p s hp hs = leb→le _ _ (below_at (λ s. leb (of_pair cheaper p) (by_pair p s)) 4 (below_at (λ p. below (λ s. leb (of_pair cheaper p) (by_pair p s)) 4) 81 tt p hp) s hs)

-- a symbol that is preferred costs nothing so, and every other one something
prefers_clear : (p s : ℕ) → p < 81 → s < 4 → Prefers by_pair p s → Clear beyond p s
unfolding beyond
prefers_clear p s hp hs f = let e = (preferred_cost p s hp hs f).0 in record {
  free_sent = omega arith;
  only = λ other h z. by other h z (ℕ_discrete other s);
}
  where
    by : (other : ℕ) → other < 4 → beyond p other ≡ 0 → Dec (other ≡ s) → other ≡ s
    by other h z (yes e) = e
    by other h z (no n) = absurd (omega (arith, f other h n, (preferred_cost p s hp hs f).0, z))

prefer_clear : {pairs : List ℕ} {ss : List ℕ} → All (λ p. p < 81) pairs → All (λ s. s < 4) ss → AllPrefer by_pair pairs ss → AllClear beyond pairs ss
prefer_clear w v prefer.none = clear.none
prefer_clear w v (prefer.more {r} {s} c g) = clear.more (prefers_clear r s w.0 v.0 c) (prefer_clear w.1 v.1 g)

-- decisions cost what symbols cost so, and the same for each symbol that was sent
beyond_costed : (pairs : List ℕ) → All (λ p. p < 81) pairs → Costed beyond pairs pairs
unfolding beyond
beyond_costed pairs w = record {
  size = refl;
  extra = λ i. of_pair cheaper (get_or pairs i 0);
  each = λ i s h four.
      let p = get_or pairs i 0 in
      let l : of_pair cheaper p ≤ by_pair p s = floor_least p s (All-at (λ p. p < 81) pairs 0 i w h) four in
      ap (λ (f : ℕ → ℕ). f s + of_pair cheaper p) (get_d_map_in beyond pairs 0 (λ s. 0) i h) ∙ joined (by_pair p s) (of_pair cheaper p) l;
}
  where
    joined : (a b : ℕ) → b ≤ a → a - b + b ≡ a
    joined a b h = omega arith

-- ---- the lead

lost_small : (n : ℕ) → All (λ p. p < 81) (replicate n 80)
lost_small zero = tt
lost_small (suc n) = (omega arith, lost_small n)

lost_stays : (t : ℕ) → t < 8 → turned_pair t 80 ≡ 80
unfolding turned_pair
lost_stays t h = eqb→eq _ _ (below_at (λ t. eqb (turned_pair t 80) 80) 8 tt t h)

lost_turned : (t : ℕ) → t < 8 → (n : ℕ) → map (turned_pair t) (replicate n 80) ≡ replicate n 80
lost_turned t h zero = refl
lost_turned t h (suc n) = ap₂ (λ (x : ℕ) (l : List ℕ). x ∷ l) (lost_stays t h) (lost_turned t h n)

lost_free : (s : ℕ) → s < 4 → beyond 80 s ≡ 0
unfolding beyond pair_cost
lost_free s h = eqb→eq _ _ (below_at (λ s. eqb (beyond 80 s) 0) 4 tt s h)

lost_unknown : (t : ℕ) → t < 8 → (n : ℕ) → All (Unknown (turned_cost beyond t)) (replicate n 80)
lost_unknown t h zero = tt
lost_unknown t h (suc n) = (λ s four. lost_free (turned t s) (turned_small t s h four), lost_unknown t h n)

-- ---- what the half turn leaves

-- The coding of bits, turned, is the coding of the same bits, straight or inverted, turned by the turn without its half.
record Halved (rate turn m : ℕ) (bits : List ℕ) : Type 0 where
  memory : ℕ
  in_range_lem : memory < 64
  same : map (turned turn) (symbols_of (coder_at rate m) bits) ≡ map (turned (less_half turn)) (symbols_of (coder_at rate memory) (turned_bits (has_half turn) bits))

straight : {bits : List ℕ} → Bits bits → turned_bits false bits ≡ bits
unfolding turned_bits
straight none = refl
straight (more {b = b} h t) = ap₂ (λ (x : ℕ) (l : List ℕ). x ∷ l) (one b h) (straight t)
  where
    one : (b : ℕ) → b < 2 → b % 2 ≡ b
    one b h = omega arith

inverted : (rate p : ℕ) {bits : List ℕ} → Bits bits → flipped rate 2 (λ p. 63) (λ p. 1) (λ p. held_count rate p) p bits ≡ turned_bits true bits
unfolding turned_bits
inverted rate p none = refl
inverted rate p (more {b = b} h t) = ap₂ (λ (x : ℕ) (l : List ℕ). x ∷ l) (one b h) (inverted rate (place_next rate p) t)
  where
    one : (b : ℕ) → b < 2 → bit_xor b 1 ≡ 1 - b % 2
    one b h = eqb→eq _ _ (below_at (λ b. eqb (bit_xor b 1) (1 - b % 2)) 2 tt b h)

less_small : (turn : ℕ) → turn < 8 → less_half turn < 8
unfolding less_half
less_small turn h = omega arith

-- a turn with a half turn in it comes of the one without it, behind a half turn
abbrev halves : ℕ → ℕ → Bool
halves t s = eqb (turned (less_half t) (turned (pick (has_half t) 2 0) s)) (turned t s)

halves_is : (turn s : ℕ) → turn < 8 → s < 4 → turned (less_half turn) (turned (pick (has_half turn) 2 0) s) ≡ turned turn s
unfolding turned less_half has_half
halves_is turn s ht hs = eqb→eq _ _ (below_at (halves turn) 4 (below_at (λ t. below (halves t) 4) 8 tt turn ht) s hs)

module _ (rate turn : ℕ) (hr : rate < 5) (ht : turn < 8) (m : ℕ) (hm : m < 64) (bits : List ℕ) (w : Bits bits) where
  abbrev ss : List ℕ
  ss = symbols_of (coder_at rate m) bits

  composed : map (turned turn) ss ≡ map (turned (less_half turn)) (map (turned (pick (has_half turn) 2 0)) ss)
  composed =
      sym
      (map-map (turned (less_half turn)) (turned (pick (has_half turn) 2 0)) ss
      ∙ map_agrees (λ s. turned (less_half turn) (turned (pick (has_half turn) 2 0) s)) (turned turn) (λ s h. halves_is turn s ht h) ss (sent_small rate m hr hm w))

  own : (l : List ℕ) → map (turned 0) l ≡ l
  unfolding turned
  own [] = refl
  own (s ∷ l) = ap (λ (r : List ℕ). s ∷ r) (own l)

  halved : Halved rate turn m bits
  halved = by (has_half turn) refl
    where
      by : (b : Bool) → has_half turn ≡ b → Halved rate turn m bits
      by false e = record {
        memory = m;
        in_range_lem = hm;
        same =
            composed
            ∙ (ap (λ (x : Bool). map (turned (less_half turn)) (map (turned (pick x 2 0)) ss)) e
            ∙ ap (map (turned (less_half turn)))
            (own ss ∙ sym (ap (symbols_of (coder_at rate m)) (ap (λ (x : Bool). turned_bits x bits) e ∙ straight w))));
      }
      by true e = record {
        memory = bit_xor m 63;
        in_range_lem = ltb→lt (bit_xor m 63) 64 (below_at (λ m. ltb (bit_xor m 63) 64) 64 tt m hm);
        same =
            composed
            ∙ (ap (λ (x : Bool). map (turned (less_half turn)) (map (turned (pick x 2 0)) ss)) e
            ∙ ap (map (turned (less_half turn)))
            (sym
            (ap (symbols_of (coder_at rate (bit_xor m 63))) (ap (λ (x : Bool). turned_bits x bits) e ∙ sym (inverted rate 0 w))
            ∙ (ap (λ (h : ℕ). symbols_by (mode_of rate) (coder rate (bit_xor m 63) 0 (bit_xor 0 h)) (flipped rate 2 (λ p. 63) (λ p. 1) (λ p. held_count rate p) 0 bits)) (sym (none_held rate hr))
            ∙ half_turn rate hr bits w m hm))));
      }

-- ---- the theorems

abbrev lead : ℕ → List ℕ
lead rate = replicate (lead_symbols rate) 80

-- The symbols, where the turn without its half is turned back, are clear about the coding of the bits, straight or inverted.
record Upright (rate turn : ℕ) (bits symbols : List ℕ) : Type 0 where
  memory : ℕ
  in_range_lem : memory < 64
  came : List ℕ
  later : List ℕ
  stream : came ++ later ≡ symbols_of (coder_at rate memory) (turned_bits (has_half turn) bits)
  all_clear : AllClear (turned_cost beyond (less_half turn)) symbols came
  costed : Costed (turned_cost beyond (less_half turn)) (lead rate ++ symbols) (lead rate ++ map (turned_pair (undoing (less_half turn))) symbols)

upright : (rate turn : ℕ) → rate < 5 → turn < 8 → (bits symbols : List ℕ) → SentSymbols rate turn bits symbols → Upright rate turn bits symbols
upright rate turn hr ht bits symbols sent =
    let u = less_half turn in
    let hu : u < 8 = less_small turn ht in
    let cost : ℕ → ℕ → ℕ = turned_cost beyond u in
    let x = halved rate turn hr ht sent.memory sent.in_range_lem bits sent.binary in
    let all : List ℕ = symbols_of (coder_at rate x.memory) (turned_bits (has_half turn) bits) in
    let four : All (λ s. s < 4) all = sent_small rate x.memory hr x.in_range_lem (turned_bits_lem (has_half turn) bits) in
    let n : ℕ = length sent.came in
    let split : take n all ++ drop n all ≡ all = take-append-drop n all in
    let some : All (λ s. s < 4) (take n all) = all_front (take n all) (drop n all) (subst (All (λ s. s < 4)) (sym split) four) in
    -- the symbols that came are these, turned by the turn without its half
    let front : map (turned turn) sent.came ≡ map (turned u) (take n all) =
    sym (take-append_seam (map (turned turn) sent.came) (map (turned turn) sent.later))
    ∙ (ap₂ take (length-map sent.came (turned turn)) (sym (map-append (turned turn) sent.came sent.later) ∙ (ap (map (turned turn)) sent.stream ∙ x.same))
    ∙ sym (map-take (turned u) n all)) in
    -- and the decisions turned back are those on them
    let back : ℕ → ℕ = turned_pair (undoing u) in
    let read : map back (lead rate ++ symbols) ≡ lead rate ++ map back symbols =
    map-append back (lead rate) symbols ∙ ap (λ (l : List ℕ). l ++ map back symbols) (lost_turned (undoing u) (undoing_small u hu) (lead_symbols rate)) in
    let w : All (λ p. p < 81) (lead rate ++ symbols) = All-append (λ p. p < 81) (lead rate) symbols (lost_small (lead_symbols rate)) sent.small in
    record {
      memory = x.memory;
      in_range_lem = x.in_range_lem;
      came = take n all;
      later = drop n all;
      stream = split;
      all_clear =
          clear_turned beyond u hu (take n all) some
          (prefer_clear sent.small (turned_all u hu (take n all) some) (subst (AllPrefer by_pair symbols) front sent.preferred));
      costed = subst (Costed cost (lead rate ++ symbols)) read (costed_turned beyond u hu w (beyond_costed (lead rate ++ symbols) w));
    }

module _ (rate turn : ℕ) (hr : rate < 5) (ht : turn < 8) (bits symbols : List ℕ) (sent : SentSymbols rate turn bits symbols) {out held : List ℕ} {last : ℕ}
    (d : DecidedPairs rate 0 (replicate (lead_symbols rate) 80 ++ map (turned_pair (undoing (less_half turn))) symbols) out last held) where
  abbrev cost : ℕ → ℕ → ℕ
  cost = turned_cost beyond (less_half turn)

  abbrev others : List ℕ
  others = turned_bits (has_half turn) bits

  set : Upright rate turn bits symbols
  set = upright rate turn hr ht bits symbols sent

  runs : SymbolsDecided cost rate 0 (lead rate ++ symbols) out last held
  runs = symbols_decided cost hr (omega arith) d (lead rate ++ symbols) set.costed

  unknown : All (Unknown cost) (lead rate)
  unknown = lost_unknown (less_half turn) (less_small turn ht) (lead_symbols rate)

  -- What is decided of a sender's symbols behind the lead, where the turn without its half is turned back: behind the bits of the lead those that were sent, or
  -- all of them inverted, as far as they are decided.
  pub right_reading : drop (bits_of_lead rate) out ≡ take (length out - bits_of_lead rate) (turned_bits (has_half turn) bits)
  right_reading =
      free_given_back cost rate hr (lead rate) unknown (length-replicate {A = ℕ} (lead_symbols rate) 80) set.memory set.in_range_lem others (turned_bits_lem (has_half turn) bits) symbols set.came set.later
      set.all_clear set.stream {left = runs.left} runs.decided

  -- And with the end, where six patterns came: all of them, up to the last whole pattern.
  pub right_ended : 6 * symbols_per_pattern rate ≤ length symbols → (s : SymbolRuns) → RunsReady s → s.rate ≡ rate → s.memory ≡ last → held_of s ≡ held
      → {output exit : List ℕ} {count rest : ℕ} → ClosesRuns s output count rest exit
      → WholeStream rate (turned_bits (has_half turn) bits) (length symbols) (drop (bits_of_lead rate) (out ++ take count exit)) rest
  right_ended six s g er em eh {output} {exit} {count} {rest} c =
      let e : EndDecided cost s.rate s.memory runs.left output count rest exit = closed_end cost s g runs.left (subst (Costed cost runs.left) (sym eh) runs.held) c in
      free_whole cost rate hr (lead rate) unknown (length-replicate {A = ℕ} (lead_symbols rate) 80) set.memory set.in_range_lem others (turned_bits_lem (has_half turn) bits) symbols set.came set.later
      set.all_clear set.stream six
      (record {
        known = hr;
        decided = out;
        memory = last;
        left = runs.left;
        runs = runs.decided;
        output = output;
        exit = exit;
        count = count;
        end =
            subst (λ (m : ℕ). EndDecided cost rate m runs.left output count rest exit) em
            (subst (λ (r : ℕ). EndDecided cost r s.memory runs.left output count rest exit) er e);
        bits_are = refl;
      })
