-- What holds of soft decisions: points of 1.0 and -1.0 are read as hard decisions are, at seven times the cost; lost symbols and NaNs cost nothing.
-- Assumes nothing.
use mathlib.Core.Bool.{Bool, true, false}
use mathlib.Core.Path.{◌≡◌, refl, sym, ◌∙◌, ap, ap₂, subst}
use mathlib.Core.List.{List, [], ◌∷◌, ◌++◌, map}
use Prim.Native.Nat.{ℕ, zero, suc, ◌+◌, ◌*◌, ◌/◌, ◌%◌, ◌^◌, ◌<◌, ◌≤◌}
use native.Mathlib.Nat.{div-div-eq-div-mul, pow-suc, mul_comm}
use native.Mathlib.Omega.{arith}
use borrow.Author.Tests.{eq-eqb}
use lib.Dec.{eqb, ltb}
use lib.Ieee.{Float, nan, of_bits, binary32}
use lib.ListN.{length, get_or, drop, replicate, length-map, length-replicate}
use Rattle.std.specs.Prelude.{Some, None}
use Rattle.common.specs.Choice.{pick, unequal}
use Rattle.common.specs.Lists.{All, largest}
use Rattle.common.proofs.Lists.{zeros_at}
use Rattle.convolutional_code.specs.Bits.{Bits}
use Rattle.convolutional_code.specs.Code.{memory_after}
use Rattle.convolutional_code.proofs.Bits.{bits_tail, zero_bits}
use Rattle.viterbi_decoder.specs.Best.{ZeroAtLast, Best, Decoded}
use Rattle.viterbi_decoder.proofs.Order.{bits_head}
use Rattle.viterbi_decoder.proofs.Laws.{scale, unique, decoded_unique}
use Rattle.puncturing.specs.Mode.{qpsk_count}
use Rattle.inner_code.specs.Step.{symbols_of}
use Rattle.inner_code.specs.Encode.{coder_at}
use Rattle.branch_metrics.specs.Cost.{by_level, number_costs, symbol_costs, decided_as, softly, received_of, ReceivedSymbol}
use Rattle.branch_metrics.specs.declared.soft_decision.Point.{Point}
use Rattle.branch_metrics.proofs.Numbers.{costs_nan, costs_one, costs_minus_one}
use Rattle.reader.specs.Clear as clear
use Rattle.reader.specs.Clear.{Clear, AllClear}
use Rattle.reader.specs.Cost.{differing, total_cost, hard_cost, soft_cost}
use Rattle.reader.specs.Read.{run_bits, length_of_run, valid, sound, read_number, soft_number, BestRead, ReadsHard, ReadsSoft, refused, read}
use Rattle.reader.proofs.Serial.{flat}
use Rattle.reader.proofs.Costs.{sent_bits_lem}
use Rattle.reader.proofs.Unharmed.{differing_clear}
use Rattle.reader.proofs.Outcome.{passed}
use Rattle.reader.proofs.SoftDecisions.{decided_small, soft}
use Rattle.reader.proofs.Laws.{all_valid, total_le}

-- ---- what a run can cost

-- at most 14 for each symbol
pub soft_most : (rate m : ℕ) (rs : List ReceivedSymbol) {n : ℕ} {output : List ℕ} {after total count : ℕ} {left : List ℕ}
    → BestRead (soft_cost rs rate m) n m output after total count left → total ≤ 14 * length rs
soft_most rate m rs o =
    omega (
      arith,
      o.decoded.costs,
      total_le softly 14 (λ r s. omega (arith, decided_small r 0 (eqb (s / 2) 0), decided_small r 1 (eqb (s % 2) 0))) rs (symbols_of (coder_at rate m) o.bits),
    )

-- ---- what costs nothing

nothing : (t : Bool) → pick {A = ℕ} t 0 0 ≡ 0
nothing true = refl
nothing false = refl

-- a lost symbol, whatever was sent
pub lost_free : (sent : ℕ) → softly None sent ≡ 0
unfolding symbol_costs
lost_free sent = ap₂ (λ (x y : ℕ). x + y) (nothing (eqb (sent / 2) 0)) (nothing (eqb (sent % 2) 0))

-- at either of its places, as a place does that was punctured
pub lost_places : (rs : List ReceivedSymbol) (i : ℕ) → get_or rs i None ≡ None → (v : ℕ) → (soft rs (2 * i) v ≡ 0) × (soft rs (2 * i + 1) v ≡ 0)
unfolding symbol_costs
lost_places rs i e v =
    let a : 2 * i / 2 ≡ i = omega arith in
    let b : 2 * i % 2 ≡ 0 = omega arith in
    let c : (2 * i + 1) / 2 ≡ i = omega arith in
    let d : (2 * i + 1) % 2 ≡ 1 = omega arith in
    (rw (a, b, e) (nothing (eqb v 0)), rw (c, d, e) (nothing (eqb v 0)))

-- so every sequence costs what it would if that symbol had not been sent
pub lost_unsent : (before after : List ReceivedSymbol) (xs ys : List ℕ) (sent : ℕ) → length before ≡ length xs
    → total_cost (map softly (before ++ None ∷ after)) (xs ++ sent ∷ ys) ≡ total_cost (map softly (before ++ after)) (xs ++ ys)
unfolding total_cost
lost_unsent [] after [] ys sent e = omega (arith, lost_free sent)
lost_unsent [] after (x ∷ xs) ys sent e = absurd (omega arith)
lost_unsent (r ∷ before) after [] ys sent e = absurd (omega arith)
lost_unsent (r ∷ before) after (x ∷ xs) ys sent e = ap (λ (t : ℕ). softly r x + t) (lost_unsent before after xs ys sent (omega arith))

-- a NaN frees its own number, and that one alone
pub nan_i : (q : Float) (sent : ℕ) → softly (Some (record { i = nan; q = q })) sent ≡ decided_as (number_costs q) (sent % 2)
unfolding symbol_costs
nan_i q sent = rw costs_nan (omega (arith, nothing (eqb (sent / 2) 0)))

pub nan_q : (i : Float) (sent : ℕ) → softly (Some (record { i = i; q = nan })) sent ≡ decided_as (number_costs i) (sent / 2)
unfolding symbol_costs
nan_q i sent = rw costs_nan (omega (arith, nothing (eqb (sent % 2) 0)))

-- ---- a run in which every symbol is lost

lost_all : (is qs : List Float) (lost : List ℕ) → All (λ m. 0 < m) lost → (ss : List ℕ) → total_cost (map softly (received_of is qs lost)) ss ≡ 0
unfolding received_of total_cost
lost_all [] qs lost h ss = refl
lost_all (i ∷ is) [] lost h ss = refl
lost_all (i ∷ is) (q ∷ qs) [] h ss = refl
lost_all (i ∷ is) (q ∷ qs) (zero ∷ lost) h ss = absurd (omega (arith, h.0))
lost_all (i ∷ is) (q ∷ qs) (suc m ∷ lost) h [] = refl
lost_all (i ∷ is) (q ∷ qs) (suc m ∷ lost) h (s ∷ ss) = omega (arith, lost_free s, lost_all is qs lost h.1 ss)

-- of sequences that cost nothing the zeros are the best
zeros_best : (cost : List ℕ → ℕ) (n : ℕ) → ((ys : List ℕ) → cost ys ≡ 0) → Best cost n (replicate n 0)
unfolding ZeroAtLast
zeros_best cost n h = record {
  binary = zero_bits n;
  size = length-replicate {A = ℕ} n 0;
  least = λ ys w l. rw (h (replicate n 0)) (omega arith);
  ties = λ ys w l e i a b. zeros_at n i;
}

-- each zero moves the memory down by one
zeros_memory : (m n : ℕ) → memory_after m (replicate n 0) ≡ m / 2 ^ n
unfolding memory_after
zeros_memory m zero = omega arith
zeros_memory m (suc n) =
    let z : 0 * 32 + m / 2 ≡ m / 2 = omega arith in
    ap (λ (k : ℕ). memory_after k (replicate n 0)) z ∙ (zeros_memory (m / 2) n ∙ (div-div-eq-div-mul m 2 (2 ^ n) ∙ ap (λ (k : ℕ). m / k) (mul_comm 2 (2 ^ n) ∙ sym (pow-suc 2 n))))

-- it is read as zeros that cost nothing, and of the memory as many bits are left as zeros did not push out
pub all_lost : (rate m : ℕ) (is qs : List Float) (lost : List ℕ) → All (λ k. 0 < k) lost → {output : List ℕ} {after total count : ℕ} {left : List ℕ}
    → (o : BestRead (soft_cost (received_of is qs lost) rate m) (run_bits rate (length is)) m output after total count left)
    → (o.bits ≡ replicate (run_bits rate (length is)) 0) × (total ≡ 0) × (after ≡ m / 2 ^ run_bits rate (length is))
all_lost rate m is qs lost h o =
    let n = run_bits rate (length is) in
    let cost : List ℕ → ℕ = soft_cost (received_of is qs lost) rate m in
    let free : (ys : List ℕ) → cost ys ≡ 0 = λ ys. lost_all is qs lost h (symbols_of (coder_at rate m) ys) in
    let e : o.bits ≡ replicate n 0 = unique cost n o.bits (replicate n 0) o.decoded.best (zeros_best cost n free) in
    (e, o.decoded.costs ∙ free o.bits, o.decoded.ends ∙ (ap (memory_after m) e ∙ zeros_memory m n))

-- ---- points that are sure of their bits, and those of 1.0 and -1.0 among them

-- the number that is sent for a bit: 1.0 for 0, and -1.0 for 1
unfoldable pub signal : ℕ → Float
signal b = pick (eqb b 0) (of_bits binary32 0x3f80_0000) (of_bits binary32 0xbf80_0000)

abbrev pub signals_i : List ℕ → List Float
signals_i symbols = map (λ s. signal (s / 2)) symbols

abbrev pub signals_q : List ℕ → List Float
signals_q symbols = map (λ s. signal (s % 2)) symbols

abbrev pub none_lost : List ℕ → List ℕ
none_lost symbols = map (λ s. 0) symbols

-- a number that is sure of a bit: at level 7 of 0, and at level 0 of 1; a NaN is of none
abbrev pub Sure : Float → ℕ → Type 0
Sure x b = number_costs x ≡ by_level (pick (eqb b 0) 7 0)

signal_sure : (b : ℕ) → b < 2 → Sure (signal b) b
unfolding signal
signal_sure zero h = costs_one
signal_sure (suc zero) h = costs_minus_one
signal_sure (suc (suc b)) h = absurd (omega arith)

seven : (b v : ℕ) → b < 2 → v < 2 → decided_as (by_level (pick (eqb b 0) 7 0)) v ≡ 7 * unequal b v
seven zero zero hb hv = refl
seven zero (suc zero) hb hv = refl
seven (suc zero) zero hb hv = refl
seven (suc zero) (suc zero) hb hv = refl
seven zero (suc (suc v)) hb hv = absurd (omega arith)
seven (suc zero) (suc (suc v)) hb hv = absurd (omega arith)
seven (suc (suc b)) v hb hv = absurd (omega arith)

-- a point that is sure of both bits of a symbol costs seven times what the hard decision does
sure_symbol : (p : Point) (r : ℕ) → r < 4 → Sure p.i (r / 2) → Sure p.q (r % 2) → (s : ℕ) → s / 2 < 2 → softly (Some p) s ≡ 7 * differing r s
unfolding symbol_costs
sure_symbol p r hr i q s hs = rw (i, q) (omega (arith, seven (r / 2) (s / 2) (omega arith) hs, seven (r % 2) (s % 2) (omega arith) (omega arith)))

-- so it is clear about it
pub sure_clear : (p : Point) (r : ℕ) → r < 4 → Sure p.i (r / 2) → Sure p.q (r % 2) → Clear softly (Some p) r
sure_clear p r hr i q =
    let times = sure_symbol p r hr i q in
    let d = differing_clear r in
    record {
      free_sent = omega (arith, times r (omega arith), d.free_sent);
      only = λ t h z. d.only t h (omega (arith, times t (omega arith)));
    }

signals_symbol : (r s : ℕ) → r < 4 → s / 2 < 2 → softly (Some (record { i = signal (r / 2); q = signal (r % 2) })) s ≡ 7 * differing r s
signals_symbol r s hr hs =
    sure_symbol (record { i = signal (r / 2); q = signal (r % 2) }) r hr (signal_sure (r / 2) (omega arith)) (signal_sure (r % 2) (omega arith)) s hs

-- the points of symbols are clear about them
pub signals_clear : (ss : List ℕ) → All (λ s. s < 4) ss → AllClear softly (received_of (signals_i ss) (signals_q ss) (none_lost ss)) ss
unfolding received_of
signals_clear [] h = clear.none
signals_clear (s ∷ ss) h =
    clear.more (sure_clear (record { i = signal (s / 2); q = signal (s % 2) }) s h.0 (signal_sure (s / 2) (omega (arith, h.0))) (signal_sure (s % 2) (omega arith)))
    (signals_clear ss h.1)

seven_total : (rs ss : List ℕ) → All (λ r. r < 4) rs → Bits (flat ss)
    → total_cost (map softly (received_of (signals_i rs) (signals_q rs) (none_lost rs))) ss ≡ 7 * total_cost (map differing rs) ss
unfolding received_of total_cost
seven_total [] ss h w = refl
seven_total (r ∷ rs) [] h w = refl
seven_total (r ∷ rs) (s ∷ ss) h w =
    omega (arith, signals_symbol r s h.0 (bits_head w), seven_total rs ss h.1 (bits_tail (bits_tail w)))

none_marked : (rs : List ℕ) → largest (none_lost rs) ≡ 0
unfolding largest
none_marked [] = refl
none_marked (r ∷ rs) = omega (arith, none_marked rs)

-- what both calls give, one against the other
pub record SevenTimes (number number' after after' cost cost' count count' : ℕ) (left left' : List ℕ) : Type 0 where
  pub numbers : number' ≡ number
  pub memories : after' ≡ after
  pub costs : cost' ≡ 7 * cost
  pub counts : count' ≡ count
  pub outputs : left' ≡ left

module _ (rate m : ℕ) (rs output : List ℕ) (h : All (λ r. r < 4) rs) where
  abbrev n : ℕ
  n = length (signals_i rs)

  size : n ≡ length rs
  size = length-map rs (λ s. signal (s / 2))

  lists_pass : sound (signals_i rs) (signals_q rs) (none_lost rs) ≡ true
  lists_pass =
      rw (eq-eqb (length (signals_q rs)) n (length-map rs (λ s. signal (s % 2)) ∙ sym size), eq-eqb (length (none_lost rs)) n (length-map rs (λ s. 0) ∙ sym size)) (ap (λ (k : ℕ). ltb k 2) (none_marked rs))

  -- the same answer is due
  same_number : soft_number rate m (signals_i rs) (signals_q rs) (none_lost rs) output ≡ read_number rate m rs output
  same_number = rw (lists_pass, all_valid rs h, size) refl

  -- every sequence costs seven times as much
  seven_times : m < 64 → rate < qpsk_count → (ys : List ℕ) → Bits ys → length ys ≡ length_of_run rate rs
      → soft_cost (received_of (signals_i rs) (signals_q rs) (none_lost rs)) rate m ys ≡ 7 * hard_cost rs rate m ys
  seven_times hm hr ys w l =
      seven_total rs (symbols_of (coder_at rate m) ys) h (sent_bits_lem rate m hr hm w)

  -- Points of 1.0 and -1.0 only: the answer, the bits, the memory and the output of hard decisions, at seven times their number.
  pub as_hard : {number number' after after' cost cost' count count' : ℕ} {left left' : List ℕ} → ReadsHard rate m rs output number after cost count left
      → ReadsSoft rate m (signals_i rs) (signals_q rs) (none_lost rs) output number' after' cost' count' left'
      → SevenTimes number number' after after' cost cost' count count' left left'
  as_hard (refused e p a c k l) (refused e' p' a' c' k' l') =
      record { numbers = e' ∙ (same_number ∙ sym e); memories = a' ∙ sym a; costs = omega (arith, c, c'); counts = k' ∙ sym k; outputs = l' ∙ sym l }
  as_hard (refused e p a c k l) (read z r o) = absurd (omega (arith, e, p, r, same_number))
  as_hard (read z r o) (refused e p a c k l) = absurd (omega (arith, e, p, r, same_number))
  as_hard {after = after} {after'} {cost} {cost'} (read z r o) (read z' r' o') =
      let g = passed rate m true (length rs) (valid rs) (length output) r in
      let soft : List ℕ → ℕ = soft_cost (received_of (signals_i rs) (signals_q rs) (none_lost rs)) rate m in
      let times = seven_times g.in_range_lem g.known in
      let best = o.decoded.best in
      let d : Decoded soft (length_of_run rate rs) m o.bits (7 * cost) after =
      record {
        best = scale 7 (hard_cost rs rate m) soft (length_of_run rate rs) (omega arith) times o.bits best;
        costs = ap (λ (x : ℕ). 7 * x) o.decoded.costs ∙ sym (times o.bits best.binary best.size);
        ends = o.decoded.ends;
      } in
      let d' : Decoded soft (length_of_run rate rs) m o'.bits cost' after' = subst (λ (k : ℕ). Decoded soft (run_bits rate k) m o'.bits cost' after') size o'.decoded in
      let s = decoded_unique soft (length_of_run rate rs) m d' d in
      record {
        numbers = z' ∙ sym z;
        memories = s.after;
        costs = s.total;
        counts = o'.counted ∙ (ap (run_bits rate) size ∙ sym o.counted);
        outputs = o'.written ∙ (ap₂ (λ (b : List ℕ) (k : ℕ). b ++ drop (run_bits rate k) output) s.bits size ∙ sym o.written);
      }
