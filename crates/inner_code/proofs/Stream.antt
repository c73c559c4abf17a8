-- The coder as a value codes the whole stream, in any mode that is well formed: its memory, place and held bit say all that the symbols to come need
-- of the bits so far.
-- Assumes nothing.
use mathlib.Core.Path.{◌≡◌, refl, ap, ap₂, sym, ◌∙◌}
use mathlib.Core.Bool.{Bool}
use mathlib.Core.Logic.{⊎_elim}
use mathlib.Core.List.{List, [], ◌∷◌, ◌++◌, map, flatten}
use Prim.Native.Nat.{ℕ, suc, ◌+◌, ◌-◌, ◌*◌, ◌/◌, ◌%◌, ◌≤◌, ◌<◌}
use native.Mathlib.Nat.{mod-lt, mod-eq_of_lt, mod-add-mod, zero-mod, eq-or-lt_of_le}
use native.Mathlib.Numerals.{add-one}
use native.Mathlib.Omega.{arith}
use borrow.Author.Tests.{eq-eqb, ne_eqb}
use lib.Dec.{eqb}
use lib.ListN.{length, get_or, drop}
use Rattle.common.specs.Choice.{pick}
use Rattle.common.specs.Lists.{All, Length}
use Rattle.convolutional_code.specs.Bits.{bits_of, Bits, none, more}
use Rattle.convolutional_code.specs.Code.{taps_x, taps_y, convolved, recent, next_memory, coded}
use Rattle.convolutional_code.proofs.Bits.{bits_at}
use Rattle.puncturing.specs.Mode.{CodedBit, X, Y, Mode, mode_of, completed, begun, binary, qpsk_count}
use Rattle.puncturing.specs.WellFormed.{AtHand, newest, held, First, WellFormed}
use Rattle.puncturing.specs.Step.{next_by, value_at, symbol_list, punctured_by, first_of, held_by}
use Rattle.puncturing.proofs.Places.{up}
use Rattle.puncturing.proofs.WellFormed.{well_formed_lem, punctured_list, next_begun}
use Rattle.inner_code.specs.Converter.{uncoded_numbers, sequenced}
use Rattle.inner_code.specs.Stream.{coded_bit, symbol_number, sent_at, symbols_after, symbols, stream_symbols}
use Rattle.inner_code.specs.Step.{InRangeBy, step_by, symbol_by, symbols_by, symbols_of}
use Rattle.inner_code.specs.Encode.{fresh_coder, block_symbols_by, block_coder_by, calls_by}
use Rattle.inner_code.specs.declared.InnerCoder.{InnerCoder}
use Rattle.inner_code.proofs.Converter.{encoded_bits_lem, encoded_empty, uncoded_empty, encoded_qpsk, uncoded_qpsk}
use Rattle.inner_code.proofs.Coder.{fresh_in_range_by, coder_in_range_by, block_symbols_append}

-- ---- the memory

-- the last six bits as a number, the newest counting 32; past is every bit so far, the newest first
abbrev pub memory_of : List ℕ → ℕ
memory_of past = binary (get_or past 0 0 ∷ get_or past 1 0 ∷ get_or past 2 0 ∷ get_or past 3 0 ∷ get_or past 4 0 ∷ get_or past 5 0 ∷ [])

half : (a b : ℕ) → b < 2 → (2 * a + b) / 2 ≡ a
half a b h = omega arith

odd : (a b : ℕ) → b < 2 → (2 * a + b) % 2 ≡ b
odd a b h = omega arith

small : (b : ℕ) → b < 2 → b % 2 ≡ b
small b h = omega arith

-- each division by two takes a digit off
quotients : (m : ℕ) → (m / 4 ≡ m / 2 / 2) × (m / 8 ≡ m / 4 / 2) × (m / 16 ≡ m / 8 / 2) × (m / 32 ≡ m / 16 / 2)
quotients m = (omega arith, omega arith, omega arith, omega arith)

module _ (past : List ℕ) (t : Bits past) where
  m1 : memory_of past / 2 ≡ binary (get_or past 0 0 ∷ get_or past 1 0 ∷ get_or past 2 0 ∷ get_or past 3 0 ∷ get_or past 4 0 ∷ [])
  m1 = half _ (get_or past 5 0) (bits_at t 5)

  m2 : memory_of past / 4 ≡ binary (get_or past 0 0 ∷ get_or past 1 0 ∷ get_or past 2 0 ∷ get_or past 3 0 ∷ [])
  m2 = (quotients (memory_of past)).0 ∙ ap (λ (n : ℕ). n / 2) m1 ∙ half _ (get_or past 4 0) (bits_at t 4)

  m3 : memory_of past / 8 ≡ binary (get_or past 0 0 ∷ get_or past 1 0 ∷ get_or past 2 0 ∷ [])
  m3 = (quotients (memory_of past)).1 ∙ ap (λ (n : ℕ). n / 2) m2 ∙ half _ (get_or past 3 0) (bits_at t 3)

  m4 : memory_of past / 16 ≡ binary (get_or past 0 0 ∷ get_or past 1 0 ∷ [])
  m4 = (quotients (memory_of past)).2 ∙ ap (λ (n : ℕ). n / 2) m3 ∙ half _ (get_or past 2 0) (bits_at t 2)

  m5 : memory_of past / 32 ≡ get_or past 0 0
  m5 = (quotients (memory_of past)).3 ∙ ap (λ (n : ℕ). n / 2) m4 ∙ half _ (get_or past 1 0) (bits_at t 1)

  -- the memory holds the last six bits
  recent_is : recent (memory_of past) ≡ get_or past 0 0 ∷ get_or past 1 0 ∷ get_or past 2 0 ∷ get_or past 3 0 ∷ get_or past 4 0 ∷ get_or past 5 0 ∷ []
  recent_is =
      let e0 = ap (λ (n : ℕ). n % 2) m5 ∙ small (get_or past 0 0) (bits_at t 0) in
      let e1 = ap (λ (n : ℕ). n % 2) m4 ∙ odd _ (get_or past 1 0) (bits_at t 1) in
      let e2 = ap (λ (n : ℕ). n % 2) m3 ∙ odd _ (get_or past 2 0) (bits_at t 2) in
      let e3 = ap (λ (n : ℕ). n % 2) m2 ∙ odd _ (get_or past 3 0) (bits_at t 3) in
      let e4 = ap (λ (n : ℕ). n % 2) m1 ∙ odd _ (get_or past 4 0) (bits_at t 4) in
      let e5 = odd _ (get_or past 5 0) (bits_at t 5) in
      λ i. e0 i ∷ e1 i ∷ e2 i ∷ e3 i ∷ e4 i ∷ e5 i ∷ []

  -- X and Y depend on the last six bits alone
  x_is : (b : ℕ) → coded taps_x (memory_of past) b ≡ convolved taps_x (b ∷ past)
  x_is b = ap (λ (l : List ℕ). convolved taps_x (b ∷ l)) recent_is

  y_is : (b : ℕ) → coded taps_y (memory_of past) b ≡ convolved taps_y (b ∷ past)
  y_is b = ap (λ (l : List ℕ). convolved taps_y (b ∷ l)) recent_is

  memory_next : (b : ℕ) → next_memory (memory_of past) b ≡ memory_of (b ∷ past)
  memory_next b =
      ap (λ (n : ℕ). b * 32 + n) m1
      ∙ put_on_top b (get_or past 0 0) (get_or past 1 0) (get_or past 2 0) (get_or past 3 0) (get_or past 4 0)
    where
      put_on_top : (b u0 u1 u2 u3 u4 : ℕ) → b * 32 + binary (u0 ∷ u1 ∷ u2 ∷ u3 ∷ u4 ∷ []) ≡ binary (b ∷ u0 ∷ u1 ∷ u2 ∷ u3 ∷ u4 ∷ [])
      put_on_top b u0 u1 u2 u3 u4 = omega arith

-- ---- the coded bits at hand

-- the first coded bit of a symbol
abbrev first_bit : ℕ → List ℕ → List CodedBit → ℕ
first_bit p past s = get_or (map (coded_bit p past) s) 0 0

-- the held bit: that of the symbol which has begun
held_bit : Mode → ℕ → List ℕ → ℕ
held_bit m p past = get_or (map (first_bit p past) (begun m p)) 0 0

-- X or Y of the newest bit
newest_is : (taps : List ℕ) (j i : ℕ) (past : List ℕ) (h : ℕ) → j ≡ i → pick (eqb j i) (convolved taps past) h ≡ convolved taps (drop (i - j) past)
newest_is taps j i past h e =
    let z : i - j ≡ 0 = omega arith in
    ap (λ (t : Bool). pick t (convolved taps past) h) (eq-eqb j i e) ∙ ap (λ (n : ℕ). convolved taps (drop n past)) (sym z)

-- that of an earlier bit, where it is held
earlier_is : (taps : List ℕ) (j p b : ℕ) (past : List ℕ) (x h : ℕ) → j ≤ p → h ≡ convolved taps (drop (p - j) past)
    → pick (eqb j (p + 1)) x h ≡ convolved taps (drop (p + 1 - j) (b ∷ past))
earlier_is taps j p b past x h l e =
    let n : p + 1 - j ≡ suc (p - j) = omega arith in
    ap (λ (t : Bool). pick t x h) (ne_eqb j (p + 1) (λ k. omega arith)) ∙ e ∙ ap (λ (n : ℕ). convolved taps (drop n (b ∷ past))) (sym n)

module _ (m : Mode) (p : ℕ) (past : List ℕ) (b : ℕ) where
  x : ℕ
  x = convolved taps_x (b ∷ past)

  y : ℕ
  y = convolved taps_y (b ∷ past)

  h : ℕ
  h = held_bit m p past

  held_first : (c : CodedBit) (r : List CodedBit) (ss : List (List CodedBit)) → begun m p ≡ (c ∷ r) ∷ ss → held_bit m p past ≡ coded_bit p past c
  unfolding held_bit
  held_first c r ss e = ap (λ (l : List (List CodedBit)). get_or (map (first_bit p past) l) 0 0) e

  value_known : (c : CodedBit) → AtHand m p c → value_at (p + 1) x y h c ≡ coded_bit (p + 1) (b ∷ past) c
  unfolding x y h
  value_known (X j) (newest e) = newest_is taps_x j (p + 1) (b ∷ past) (held_bit m p past) e
  value_known (Y j) (newest e) = newest_is taps_y j (p + 1) (b ∷ past) (held_bit m p past) e
  value_known (X j) (held r ss e l) = earlier_is taps_x j p b past (convolved taps_x (b ∷ past)) (held_bit m p past) l (held_first (X j) r ss e)
  value_known (Y j) (held r ss e l) = earlier_is taps_y j p b past (convolved taps_y (b ∷ past)) (held_bit m p past) l (held_first (Y j) r ss e)

  values_known : (s : List CodedBit) → All (AtHand m p) s → map (value_at (p + 1) x y h) s ≡ map (coded_bit (p + 1) (b ∷ past)) s
  values_known [] g = refl
  values_known (c ∷ s) g = ap₂ (λ (v : ℕ) (l : List ℕ). v ∷ l) (value_known c g.0) (values_known s g.1)

  symbols_known : (ss : List (List CodedBit)) → All (All (AtHand m p)) ss
      → map (λ (s : List CodedBit). binary (map (value_at (p + 1) x y h) s)) ss ≡ map (symbol_number (p + 1) (b ∷ past)) ss
  symbols_known [] g = refl
  symbols_known (s ∷ ss) g = ap₂ (λ (v : ℕ) (l : List ℕ). v ∷ l) (ap binary (values_known s g.0)) (symbols_known ss g.1)

  first_known : (ss : List (List CodedBit)) → All (First (AtHand m p)) ss
      → get_or (map (first_of (p + 1) x y h) ss) 0 0 ≡ get_or (map (first_bit (p + 1) (b ∷ past)) ss) 0 0
  first_known [] g = refl
  first_known ([] ∷ ss) g = refl
  first_known ((c ∷ r) ∷ ss) g = value_known c g.0

-- one bit: the symbol that it completes, and the held bit after it, are those of the stream
record Streamed (m : Mode) (p : ℕ) (past : List ℕ) (b : ℕ) : Type 0 where
  sent : symbol_list (punctured_by m p (convolved taps_x (b ∷ past)) (convolved taps_y (b ∷ past)) (held_bit m p past)) ≡ sent_at m (p + 1) (b ∷ past)
  holds : held_by m p (convolved taps_x (b ∷ past)) (convolved taps_y (b ∷ past)) (held_bit m p past) ≡ held_bit m (next_by m p) (b ∷ past)

held_on : {m : Mode} (w : WellFormed m) (p : ℕ) → p < m.bits → (past : List ℕ)
    → get_or (map (first_bit (p + 1) past) (begun m (p + 1))) 0 0 ≡ held_bit m (next_by m p) past
unfolding held_bit
held_on {m} w p k past =
    ⊎_elim
    (λ e.
    ap (λ (l : List (List CodedBit)). get_or (map (first_bit (p + 1) past) l) 0 0) (ap (begun m) e ∙ w.none_at_end)
    ∙ sym (ap (λ (l : List (List CodedBit)). get_or (map (first_bit (next_by m p) past) l) 0 0) (next_begun w p k ∙ ap (begun m) e ∙ w.none_at_end)))
    (λ l. ap (λ (n : ℕ). get_or (map (first_bit n past) (begun m n)) 0 0) (sym (mod-eq_of_lt l)))
    (eq-or-lt_of_le next_le)
  where
    next_le : p + 1 ≤ m.bits
    next_le = omega arith

streamed_by : {m : Mode} (w : WellFormed m) (p : ℕ) → p < m.bits → (past : List ℕ) (b : ℕ) → Streamed m p past b
unfolding held_by x y h
streamed_by {m} w p k past b = record {
  sent = punctured_list w p k _ _ _ ∙ symbols_known m p past b (completed m (p + 1)) (w.complete p k);
  holds = first_known m p past b (begun m (p + 1)) (w.begins p k) ∙ held_on w p k (b ∷ past);
}

-- ---- the stream

-- the coder after the bits of past
record Stands (m : Mode) (c : InnerCoder) (past : List ℕ) : Type 0 where
  memory : c.memory ≡ memory_of past
  place : c.place ≡ length past % m.bits
  held : c.held ≡ held_bit m c.place past
  bits : Bits past

module _ {m : Mode} (w : WellFormed m) where
  stands_fresh : (r : ℕ) → Stands m (fresh_coder r) []
  unfolding held_bit
  stands_fresh r = record {
    memory = refl;
    place = sym (zero-mod m.bits);
    held = sym (ap (λ (l : List (List CodedBit)). get_or (map (first_bit 0 []) l) 0 0) w.none_at_start);
    bits = none;
  }

  module _ (c : InnerCoder) (past : List ℕ) (s : Stands m c past) (b : ℕ) (h : b < 2) where
    in_pattern : c.place < m.bits
    in_pattern = rw s.place (mod-lt (length past) w.some_bits)

    streamed : Streamed m c.place past b
    streamed = streamed_by w c.place in_pattern past b

    x_stream : coded taps_x c.memory b ≡ convolved taps_x (b ∷ past)
    x_stream = ap (λ (k : ℕ). coded taps_x k b) s.memory ∙ x_is past s.bits b

    y_stream : coded taps_y c.memory b ≡ convolved taps_y (b ∷ past)
    y_stream = ap (λ (k : ℕ). coded taps_y k b) s.memory ∙ y_is past s.bits b

    symbol_stream : symbol_list (symbol_by m c b) ≡ sent_at m (length past % m.bits + 1) (b ∷ past)
    symbol_stream =
        (λ i. symbol_list (punctured_by m c.place (x_stream i) (y_stream i) (s.held i)))
        ∙ streamed.sent
        ∙ ap (λ (p : ℕ). sent_at m (p + 1) (b ∷ past)) s.place

    stands_next : Stands m (step_by m c b) (b ∷ past)
    stands_next = record {
      memory = ap (λ (k : ℕ). next_memory k b) s.memory ∙ memory_next past s.bits b;
      place =
          ap (next_by m) s.place
          ∙ mod-add-mod (length past) m.bits 1
          ∙ ap (λ (n : ℕ). n % m.bits) (add-one (length past));
      held = (λ i. held_by m c.place (x_stream i) (y_stream i) (s.held i)) ∙ streamed.holds;
      bits = more h s.bits;
    }

  -- the symbols of a coder are those of the stream
  symbols_stream : (c : InnerCoder) (past : List ℕ) {bits : List ℕ} → Stands m c past → Bits bits → symbols_by m c bits ≡ symbols_after m past bits
  unfolding symbols_by symbols_after
  symbols_stream c past s none = refl
  symbols_stream c past s (more {b} h t) =
      ap₂ (λ (x y : List ℕ). x ++ y) (symbol_stream c past s b h) (symbols_stream (step_by m c b) (b ∷ past) (stands_next c past s b h) t)

  -- a fresh coder codes the whole stream
  pub symbols_fresh_by : (r : ℕ) {bits : List ℕ} → Bits bits → symbols_by m (fresh_coder r) bits ≡ symbols m bits
  unfolding symbols
  symbols_fresh_by r t = symbols_stream (fresh_coder r) [] (stands_fresh r) t

  -- and a whole stream of bytes
  pub bytes_fresh : (r : ℕ) (bytes : List ℕ) → block_symbols_by m (fresh_coder r) bytes ≡ stream_symbols m bytes
  unfolding stream_symbols
  bytes_fresh r bytes = ap (sequenced (uncoded_numbers m bytes)) (symbols_fresh_by r (encoded_bits_lem m bytes))

  -- blocks coded by one call after another are coded as one list of bytes
  calls_flatten : (bs : List (List ℕ)) (c : InnerCoder) → InRangeBy m c → All (Length 204) bs → calls_by m c bs ≡ block_symbols_by m c (flatten bs)
  unfolding calls_by flatten symbols_by sequenced
  calls_flatten [] c g l = sym (ap₂ (λ (u e : List ℕ). sequenced u (symbols_by m c e)) (uncoded_empty m) (encoded_empty m))
  calls_flatten (b ∷ bs) c g l =
      ap (λ (t : List ℕ). block_symbols_by m c b ++ t) (calls_flatten bs (block_coder_by m c b) (coder_in_range_by w c g (encoded_bits_lem m b)) l.1)
      ∙ sym (block_symbols_append w c g b (flatten bs) (ap (λ (n : ℕ). n % m.group) l.0 ∙ w.whole_groups))

-- In any mode that is well formed: blocks coded by one call after another, from a fresh coder, give the symbols of the whole stream. The number
-- that stands for the mode plays no part.
pub calls_stream : (m : Mode) → WellFormed m → (rate : ℕ) (bs : List (List ℕ)) → All (Length 204) bs
    → calls_by m (fresh_coder rate) bs ≡ stream_symbols m (flatten bs)
calls_stream m w rate bs l = calls_flatten w bs (fresh_coder rate) (fresh_in_range_by w rate) l ∙ bytes_fresh w rate (flatten bs)

-- ---- the QPSK rates

pub symbols_fresh : (r : ℕ) {bits : List ℕ} → r < qpsk_count → Bits bits → symbols_of (fresh_coder r) bits ≡ symbols (mode_of r) bits
symbols_fresh r h t = symbols_fresh_by (well_formed_lem r (up r h)) r t

-- every bit of the bytes is coded, and there is nothing beside
pub stream_qpsk : (r : ℕ) → r < qpsk_count → (bytes : List ℕ) → stream_symbols (mode_of r) bytes ≡ symbols (mode_of r) (bits_of bytes)
unfolding stream_symbols sequenced
stream_qpsk r h bytes = ap₂ (λ (u e : List ℕ). sequenced u (symbols (mode_of r) e)) (uncoded_qpsk r h bytes) (encoded_qpsk r h bytes)
