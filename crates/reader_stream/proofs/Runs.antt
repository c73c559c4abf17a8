-- The numbers of a rate; a longest run; feeding runs with a piece, and closing them.
-- Assumes nothing.
use Rattle.reader_stream.specs.declared.symbol_runs.SymbolRuns.{SymbolRuns}
use Rattle.reader.proofs.Streams.{memory_append}
use Rattle.reader.proofs.Patterns.{some_symbols, memory_in_range}
use Rattle.common.specs.Lists.{All}
use mathlib.Core.Path.{◌≡◌, refl, sym, ◌∙◌, ap, subst}
use mathlib.Core.List.{List, [], ◌∷◌, ◌++◌}
use Prim.Native.Nat.{ℕ, zero, suc, ◌+◌, ◌-◌, ◌*◌, ◌%◌, ◌<◌, ◌≤◌, ◌/◌}
use native.Mathlib.Nat.{mul-mod_right, mul-div_right, div-le_of_le-mul, mul-le-mul_left, mul-div-le, zero-add, suc-add, mod-add-div, mod-lt}
use native.Mathlib.Omega.{arith}
use lib.Dec.{leb, leb→le}
use lib.ListN.{length, get_or, take, drop, length-append, length-drop, length-take, take-append-drop}
use lib.Seq.{take-append-le, take-suc, take-length, take-take, length-take-le, take-nil, take_at}
use Rattle.common.proofs.Computed as computed
use Rattle.common.proofs.Lists.{All-append}
use Rattle.convolutional_code.proofs.Bits.{memory_snoc, bits_take}
use Rattle.convolutional_code.specs.Bits.{Bits}
use Rattle.convolutional_code.specs.Code.{next_memory, memory_after}
use Rattle.puncturing.specs.Mode.{mode_of, qpsk_count}
use Rattle.puncturing.specs.Step.{pattern_length}
use Rattle.reader.specs.Cost.{run_cost, costs_of}
use Rattle.reader.specs.Read.{symbols_per_pattern, run_bits, Readable, BestRead}
use Rattle.reader_stream.specs.Runs.{run_patterns, kept_patterns, full_symbols, kept_symbols, kept_bits, held_of, FullRead, RunsReady, FeedsSymbols, gathered, read, ClosesRuns}

-- ---- the memory after bits, one after the other

pub record Passing (memory : ℕ) (bits : List ℕ) (m k : ℕ) : Type 0 where
  pub most : k ≤ length bits
  pub is : m ≡ memory_after memory (take k bits)
  pub small : m < 64

pub passing_none : (memory : ℕ) (bits : List ℕ) → memory < 64 → Passing memory bits memory 0
unfolding memory_after
passing_none memory bits h = record { most = omega arith; is = refl; small = h }

pub passing_more : {memory : ℕ} {bits : List ℕ} {m k : ℕ} → Passing memory bits m k → k < length bits → get_or bits k 0 < 2 → {n : ℕ} → n ≡ next_memory m (get_or bits k 0)
    → Passing memory bits n (k + 1)
passing_more {memory} {bits} {m} {k} p h b e =
    let s : k + 1 ≡ suc k = omega arith in
    record {
      most = omega arith;
      is = e ∙ (ap (λ (x : ℕ). next_memory x (get_or bits k 0)) p.is ∙ (sym (memory_snoc memory (take k bits) (get_or bits k 0)) ∙ ap (memory_after memory) (sym (ap (λ (j : ℕ). take j bits) s ∙ take-suc bits k 0 h))));
      small = rw e (omega (arith, p.small));
    }

pub passing_all : {memory : ℕ} {bits : List ℕ} {m k : ℕ} → Passing memory bits m k → length bits ≤ k → m ≡ memory_after memory bits
passing_all {memory} {bits} {m} {k} p h =
    let e : k ≡ length bits = omega (arith, p.most) in
    p.is ∙ ap (memory_after memory) (ap (λ (j : ℕ). take j bits) e ∙ take-length bits)

-- ---- the last six bits

-- each bit that comes moves what two memories have in common one place up
module _ (x y b : ℕ) where
  flush6 : x < 64 → y < 64 → next_memory x b / 32 ≡ next_memory y b / 32
  flush6 h k = omega arith

  flush5 : x / 32 ≡ y / 32 → next_memory x b / 16 ≡ next_memory y b / 16
  flush5 e = omega arith

  flush4 : x / 16 ≡ y / 16 → next_memory x b / 8 ≡ next_memory y b / 8
  flush4 e = omega arith

  flush3 : x / 8 ≡ y / 8 → next_memory x b / 4 ≡ next_memory y b / 4
  flush3 e = omega arith

  flush2 : x / 4 ≡ y / 4 → next_memory x b / 2 ≡ next_memory y b / 2
  flush2 e = omega arith

  flush1 : x / 2 ≡ y / 2 → next_memory x b ≡ next_memory y b
  flush1 e = omega arith

-- six bits flush the memory: nothing of what it held is left
flushed : (x y : ℕ) (l : List ℕ) → x < 64 → y < 64 → length l ≡ 6 → memory_after x l ≡ memory_after y l
unfolding memory_after
flushed x y [] h k n = absurd (omega arith)
flushed x y (a ∷ []) h k n = absurd (omega arith)
flushed x y (a ∷ b ∷ []) h k n = absurd (omega arith)
flushed x y (a ∷ b ∷ c ∷ []) h k n = absurd (omega arith)
flushed x y (a ∷ b ∷ c ∷ d ∷ []) h k n = absurd (omega arith)
flushed x y (a ∷ b ∷ c ∷ d ∷ e ∷ []) h k n = absurd (omega arith)
flushed x y (a ∷ b ∷ c ∷ d ∷ e ∷ f ∷ []) h k n = flush1 _ _ f (flush2 _ _ e (flush3 _ _ d (flush4 _ _ c (flush5 _ _ b (flush6 x y a h k)))))
flushed x y (a ∷ b ∷ c ∷ d ∷ e ∷ f ∷ g ∷ l) h k n = absurd (omega arith)

-- so only the last six of some bits count
after_six : (m : ℕ) (bits : List ℕ) (n : ℕ) → m < 64 → Bits bits → n + 6 ≡ length bits → memory_after m (drop n bits) ≡ memory_after m bits
after_six m bits n h w e =
    flushed m (memory_after m (take n bits)) (drop n bits) h (memory_in_range 0 m (omega arith) h (bits_take n w)) (length-drop n bits ∙ omega arith)
    ∙ (sym (memory_append m (take n bits) (drop n bits)) ∙ ap (memory_after m) (take-append-drop n bits))

-- a part that ends where the list does
pub back_whole : (bits : List ℕ) (n : ℕ) → take (length bits - n) (drop n bits) ≡ drop n bits
back_whole bits n = ap (λ (k : ℕ). take k (drop n bits)) (sym (length-drop n bits)) ∙ take-length (drop n bits)

pub last_six : (m : ℕ) (bits : List ℕ) → m < 64 → Bits bits → 6 ≤ length bits
    → memory_after m (take (length bits - (length bits - 6)) (drop (length bits - 6) bits)) ≡ memory_after m bits
last_six m bits h w l = ap (memory_after m) (back_whole bits (length bits - 6)) ∙ after_six m bits (length bits - 6) h w (omega arith)

-- ---- the numbers of a rate

pub record Numbers (rate : ℕ) : Type 0 where
  pub kept_fewer : kept_symbols rate ≤ full_symbols rate
  pub kept_some : 0 < kept_symbols rate
  pub bits_fewer : kept_bits rate ≤ 1632
  pub bits_double : kept_bits rate ≤ 2 * kept_symbols rate
  pub full_most : full_symbols rate ≤ 1632
  pub full_whole : full_symbols rate % symbols_per_pattern rate ≡ 0

pub numbers : (rate : ℕ) → rate < qpsk_count → Numbers rate
unfolding full_symbols kept_symbols kept_bits run_patterns kept_patterns symbols_per_pattern mode_of
numbers rate h = record {
  kept_fewer = leb→le _ _ (computed.below_at (λ r. leb (kept_symbols r) (full_symbols r)) qpsk_count tt rate h);
  kept_some = leb→le _ _ (computed.below_at (λ r. leb 1 (kept_symbols r)) qpsk_count tt rate h);
  bits_fewer = leb→le _ _ (computed.below_at (λ r. leb (kept_bits r) 1632) qpsk_count tt rate h);
  bits_double = leb→le _ _ (computed.below_at (λ r. leb (kept_bits r) (2 * kept_symbols r)) qpsk_count tt rate h);
  full_most = leb→le _ _ (computed.below_at (λ r. leb (full_symbols r) 1632) qpsk_count tt rate h);
  full_whole = computed.agree_at (λ r. full_symbols r % symbols_per_pattern r) (λ r. 0) qpsk_count tt rate h;
}

-- ---- lists of pairs

pub all_take : (n : ℕ) (xs : List ℕ) → All (λ x. x < 81) xs → All (λ x. x < 81) (take n xs)
all_take zero xs h = tt
all_take (suc n) [] h = tt
all_take (suc n) (x ∷ xs) h = (h.0, all_take n xs h.1)

pub all_drop : (n : ℕ) (xs : List ℕ) → All (λ x. x < 81) xs → All (λ x. x < 81) (drop n xs)
all_drop zero xs h = h
all_drop (suc n) [] h = tt
all_drop (suc n) (x ∷ xs) h = all_drop n xs h.1

pub drop-take : (n k : ℕ) (l : List ℕ) → drop n (take (n + k) l) ≡ take k (drop n l)
drop-take zero k l = ap (λ (j : ℕ). take j l) (zero-add k)
drop-take (suc n) k [] = ap (drop (suc n)) (take-nil (suc n + k)) ∙ sym (take-nil k)
drop-take (suc n) k (x ∷ l) = ap (λ (j : ℕ). drop (suc n) (take j (x ∷ l))) (suc-add n k) ∙ drop-take n k l

-- ---- runs

-- what is no longer than a longest run has no more bits than the longest
pub short_run : (rate n : ℕ) → n ≤ full_symbols rate → run_bits rate n ≤ 1632
unfolding full_symbols run_patterns
short_run rate n most =
    let d : n / symbols_per_pattern rate ≤ 1632 / pattern_length rate = div-le_of_le-mul (symbols_per_pattern rate) most in
    omega (arith, mul-le-mul_left (pattern_length rate) d, mul-div-le 1632 (pattern_length rate))

-- the pairs of k symbols that make whole patterns, no more than a longest run, can be read
short_readable : (rate m : ℕ) → rate < qpsk_count → m < 64 → (l : List ℕ) (k : ℕ) → length l ≡ k → k % symbols_per_pattern rate ≡ 0 → k ≤ full_symbols rate
    → All (λ x. x < 81) l → (output : List ℕ) → 1632 ≤ length output → Readable rate m l output
short_readable rate m hr hm l k size whole most small output long =
    let b : run_bits rate (length l) ≤ 1632 = rw size (short_run rate k most) in
    record { known = hr; in_range_lem = hm; whole = rw size whole; most = b; small = small; fits = omega (arith, b) }

-- the bits of a longest run
pub kept_le : (rate : ℕ) → rate < qpsk_count → kept_bits rate ≤ run_bits rate (full_symbols rate)
unfolding kept_bits kept_patterns full_symbols run_patterns
kept_le rate hr = rw (mul-div_right (1632 / pattern_length rate) (some_symbols rate hr)) (mul-le-mul_left (pattern_length rate) less)
  where
    less : 1632 / pattern_length rate - (100 / pattern_length rate + 1) ≤ 1632 / pattern_length rate
    less = omega arith

-- a longest run: the bits that are kept stand at the front of the output
module _ (rate m : ℕ) (hr : rate < qpsk_count) (hm : m < 64) (l output : List ℕ) (size : length l ≡ full_symbols rate) where
  pub full_readable : All (λ x. x < 81) l → 1632 ≤ length output → Readable rate m l output
  full_readable small long =
      let n = numbers rate hr in
      short_readable rate m hr hm l (full_symbols rate) size n.full_whole (omega arith) small output long

  pub front : {after total count : ℕ} {exit : List ℕ} → (o : BestRead (run_cost (costs_of l) rate m) (run_bits rate (length l)) m output after total count exit)
      → (k : ℕ) → k ≡ kept_bits rate
      → (take (k - 0) exit ≡ take (kept_bits rate) o.bits) × Bits (take (k - 0) exit) × (k ≤ length exit)
  front {exit = exit} o k e =
      let z : k - 0 ≡ kept_bits rate = omega arith in
      let n : run_bits rate (length l) ≡ run_bits rate (full_symbols rate) = ap (run_bits rate) size in
      let f : kept_bits rate ≤ length o.bits = omega (arith, kept_le rate hr, o.decoded.best.size, n) in
      let b = o.written in
      let t : take (k - 0) exit ≡ take (kept_bits rate) o.bits =
      ap (λ (j : ℕ). take j exit) z ∙ (ap (take (kept_bits rate)) b ∙ take-append-le (kept_bits rate) o.bits (drop (run_bits rate (length l)) output) f) in (
        t,
        subst Bits (sym t) (bits_take (kept_bits rate) o.decoded.best.binary),
        omega (arith, ap length b, length-append o.bits (drop (run_bits rate (length l)) output)),
      )

-- ---- feeding a piece

pub held_length : (s : SymbolRuns) → RunsReady s → length (held_of s) ≡ s.count
held_length s g = length-take-le s.count s.held (omega (arith, g.size, g.below, (numbers s.rate g.known).full_most))

module _ (s : SymbolRuns) (g : RunsReady s) (piece : List ℕ) (w : All (λ x. x < 81) piece) where
  abbrev h : List ℕ
  h = held_of s

  h_length : length h ≡ s.count
  h_length = held_length s g

  -- the piece behind what is held
  module _ (p H : List ℕ) (n : ℕ) (en : n ≡ s.count + length p) (eH : H ≡ h ++ p ++ drop (s.count + length p) s.held) where
    pub behind : take n H ≡ h ++ p
    behind =
        ap (take n) eH ∙ take_at (h ++ p) (drop (s.count + length p) s.held) n (length-append h p ∙ (ap (λ (k : ℕ). k + length p) h_length ∙ sym en))

    behind_length : s.count + length p ≤ 1632 → length H ≡ 1632
    behind_length l =
        ap length eH
        ∙ omega (arith, length-append (h ++ p) (drop (s.count + length p) s.held), length-append h p, h_length, length-drop (s.count + length p) s.held, g.size)

  pub gathers : (output H : List ℕ) → length piece < full_symbols s.rate - s.count → H ≡ h ++ piece ++ drop (s.count + length piece) s.held
      → let next : SymbolRuns = record { rate = s.rate; memory = s.memory; held = H; count = s.count + length piece } in
      (FeedsSymbols s piece output next (length piece) 0 output) × (RunsReady next)
  gathers output H l eH =
      let b = behind piece H (s.count + length piece) refl eH in
      let n = numbers s.rate g.known in (
        gathered (omega (arith, length-append h piece, h_length)) refl refl refl (record { rate_is = refl; memory_is = refl; held_is = b }),
        record {
          known = g.known;
          in_range_lem = g.in_range_lem;
          size = behind_length piece H (s.count + length piece) refl eH (omega (arith, n.full_most));
          below = omega arith;
          small = subst (All (λ x. x < 81)) (sym b) (All-append (λ x. x < 81) h piece g.small w);
        },
      )

  -- where there are symbols enough for a run
  module _ (full : ℕ) (ef : full ≡ full_symbols s.rate) (enough : full - s.count ≤ length piece) (H : List ℕ)
      (eH : H ≡ h ++ take (full - s.count - 0) piece ++ drop (s.count + length (take (full - s.count - 0) piece)) s.held) where
    abbrev p : List ℕ
    p = take (full - s.count - 0) piece

    piece_length : length p ≡ full - s.count
    piece_length = length-take-le (full - s.count - 0) piece (omega arith) ∙ omega arith

    all_of : full ≡ s.count + length p
    all_of = omega (arith, piece_length, g.below)

    pub fits : s.count + length p ≤ length s.held
    fits = omega (arith, all_of, g.size, (numbers s.rate g.known).full_most)

    pub H-length : length H ≡ 1632
    H-length = behind_length p H full all_of eH (omega (arith, fits, g.size))

    run_of : take (full - 0) H ≡ h ++ p
    run_of = let z : full - 0 ≡ full = omega arith in ap (λ (k : ℕ). take k H) z ∙ behind p H full all_of eH

    pub run_length : length (take (full - 0) H) ≡ full_symbols s.rate
    run_length = ap length run_of ∙ (length-append h p ∙ omega (arith, h_length, all_of))

    pub run_small : All (λ x. x < 81) (take (full - 0) H)
    run_small = subst (All (λ x. x < 81)) (sym run_of) (All-append (λ x. x < 81) h p g.small (all_take (full - s.count - 0) piece w))

    module _ (from : ℕ) (er : from ≡ kept_symbols s.rate) (N zeros : List ℕ) (ez : length zeros ≡ 1632)
        (eN : N ≡ take (full - from) (drop from H) ++ drop (0 + length (take (full - from) (drop from H))) zeros) where
      from_le : from ≤ full
      from_le = omega (arith, (numbers s.rate g.known).kept_fewer)

      tail_length : length (take (full - from) (drop from H)) ≡ full - from
      tail_length = length-take-le (full - from) (drop from H) (omega (arith, length-drop from H, H-length, all_of, fits, g.size))

      tail_is : take (full - from) N ≡ drop from (take (full - 0) H)
      tail_is =
          let z : full - 0 ≡ from + (full - from) = omega (arith, from_le) in
          ap (take (full - from)) eN
          ∙ (take_at (take (full - from) (drop from H)) (drop (0 + length (take (full - from) (drop from H))) zeros) (full - from) tail_length
          ∙ (sym (drop-take from (full - from) H) ∙ ap (λ (k : ℕ). drop from (take k H)) (sym z)))

      pub reads : (output exit : List ℕ) (after kept : ℕ) → kept ≡ kept_bits s.rate → FullRead s.rate s.memory (take (full - 0) H) output after exit
          → let next : SymbolRuns = record { rate = s.rate; memory = after; held = N; count = full - from } in
          (FeedsSymbols s piece output next (full - s.count) kept exit) × (RunsReady next)
      reads output exit after kept ek f =
          let n = numbers s.rate g.known in
          let z : full - s.count - 0 ≡ full - s.count = omega arith in (
            read (take (full - 0) H) (run_of ∙ ap (λ (k : ℕ). h ++ take k piece) z) enough run_length ek after f
                (record { rate_is = refl; memory_is = refl; held_is = tail_is ∙ ap (λ (k : ℕ). drop k (take (full - 0) H)) er }),
            record {
              known = g.known;
              in_range_lem = rw f.leaves (memory_in_range s.rate s.memory g.known g.in_range_lem (bits_take (kept_bits s.rate) f.out.decoded.best.binary));
              size =
                  ap length eN
                  ∙ omega (
                    arith,
                    length-append (take (full - from) (drop from H)) (drop (0 + length (take (full - from) (drop from H))) zeros),
                    length-drop (0 + length (take (full - from) (drop from H))) zeros,
                    tail_length,
                    n.full_most,
                  );
              below = omega (arith, n.kept_some, n.kept_fewer);
              small = subst (All (λ x. x < 81)) (sym tail_is) (all_drop from (take (full - 0) H) run_small);
            },
          )

-- the room for what is put
pub placed_fits : (s : SymbolRuns) → RunsReady s → (piece : List ℕ) → (full : ℕ) → full ≡ full_symbols s.rate → full - s.count ≤ length piece
    → s.count + length (take (full - s.count - 0) piece) ≤ length s.held
placed_fits s g piece full e enough =
    omega (
      arith,
      length-take-le (full - s.count - 0) piece (omega arith),
      g.size,
      g.below,
      (numbers s.rate g.known).full_most,
    )

pub tail_fits : (full from : ℕ) (l : List ℕ) → full ≤ 1632 → 0 + length (take (full - from) l) ≤ 1632
tail_fits full from l h = omega (arith, length-take (full - from) l)

-- ---- the end

pub mod_le : (n k : ℕ) → n % k ≤ n
mod_le n k = omega (arith, mod-add-div n k)

-- of so many symbols as are held those that make whole patterns
module _ (s : SymbolRuns) (g : RunsReady s) (k : ℕ) (e : k ≡ symbols_per_pattern s.rate) where
  abbrev n : ℕ
  n = s.count

  abbrev end : ℕ
  end = n - n % k - 0

  abbrev whole : ℕ
  whole = symbols_per_pattern s.rate * (n / symbols_per_pattern s.rate)

  end_is : end ≡ whole
  end_is = rw e (part n (symbols_per_pattern s.rate))
    where
      part : (n p : ℕ) → n - n % p - 0 ≡ p * (n / p)
      part n p = omega (arith, mod-add-div n p)

  whole_le : whole ≤ s.count
  whole_le = omega (arith, mul-div-le n (symbols_per_pattern s.rate))

  pub end_le : end ≤ 1632
  end_le = omega (arith, end_is, whole_le, g.below, (numbers s.rate g.known).full_most)

  taken_is : take end s.held ≡ take whole (held_of s)
  taken_is = ap (λ (j : ℕ). take j s.held) end_is ∙ sym (take-take whole s.count s.held whole_le)

  taken_length : length (take end s.held) ≡ whole
  taken_length = length-take-le end s.held (omega (arith, end_le, g.size)) ∙ end_is

  pub end_readable : (output : List ℕ) → 1632 ≤ length output → Readable s.rate s.memory (take end s.held) output
  end_readable output long =
      short_readable s.rate s.memory g.known g.in_range_lem (take end s.held) whole taken_length
      (mul-mod_right (symbols_per_pattern s.rate) (n / symbols_per_pattern s.rate))
      (omega (arith, whole_le, g.below))
      (subst (All (λ x. x < 81)) (sym taken_is) (all_take whole (held_of s) g.small)) output long

  pub closes : (output : List ℕ) {after total count : ℕ} {exit : List ℕ}
      → BestRead (run_cost (costs_of (take end s.held)) s.rate s.memory) (run_bits s.rate (length (take end s.held))) s.memory output after total count exit
      → ClosesRuns s output count (n % k) exit
  closes output {after} {total} {count} {exit} o =
      let p = symbols_per_pattern s.rate in
      record {
        whole = n / p;
        split = rw e (mod-add-div n p);
        few = rw e (mod-lt n (some_symbols s.rate g.known));
        total = total;
        after = after;
        bits =
            subst (λ (l : List ℕ). BestRead (run_cost (costs_of l) s.rate s.memory) (run_bits s.rate whole) s.memory output after total count exit) taken_is
            (subst (λ (j : ℕ). BestRead (run_cost (costs_of (take end s.held)) s.rate s.memory) (run_bits s.rate j) s.memory output after total count exit) taken_length o);
      }
