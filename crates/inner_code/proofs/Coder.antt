-- Laws of the coder as a value: its range, how many symbols it gives, and that coding is the mother code followed by the puncturing.
-- Assumes nothing.
use mathlib.Core.Path.{◌≡◌, refl, ap, ap₂, sym, subst, ◌∙◌}
use mathlib.Core.Bool.{Bool, true, false}
use mathlib.Core.List.{List, [], ◌∷◌, ◌++◌, append_assoc}
use Prim.Native.Nat.{ℕ, zero, suc, suc-le-suc, ◌+◌, ◌*◌, ◌/◌, ◌%◌, ◌<◌}
use native.Mathlib.Nat.{add-zero, zero-add, add_comm, zero-mul, suc-mul, mul_assoc, mod-lt, div-add-mod'}
use native.Mathlib.Omega.{arith}
use borrow.Author.Tests.{ltb-true, leb-true, lt-ltb, le-leb}
use lib.Dec.{ltb}
use lib.ListN.{length, get_or, length-append, get_or-append}
use lib.Seq.{get_or-append-add}
use Rattle.common.specs.Choice.{pick}
use Rattle.common.proofs.Choice.{both_true}
use Rattle.convolutional_code.specs.Bits.{bits_of, Bits, none, more}
use Rattle.convolutional_code.specs.Code.{taps_x, taps_y, next_memory, coded, mother_of, memory_after, block_mother}
use Rattle.convolutional_code.proofs.Bits.{length_mother}
use Rattle.puncturing.specs.Mode.{Mode, mode_of, block_bits, block_bits_by, completed, mode_count, qpsk_count}
use Rattle.puncturing.specs.WellFormed.{Beside, alone, paired, WellFormed}
use Rattle.puncturing.specs.Step.{next_by, symbol_list, count_by, place_next, punctured, held_after, symbols_in}
use Rattle.puncturing.specs.Run.{punctured_symbols, pattern_place_after, held_behind}
use Rattle.puncturing.proofs.Places.{known}
use Rattle.puncturing.proofs.WellFormed.{well_formed_lem, next_by_lt, symbol_count_by_lem, held_by_range}
use Rattle.inner_code.specs.Converter.{encoded_bits, uncoded_numbers, sequenced}
use Rattle.inner_code.specs.Step.{in_range_by, InRangeBy, step_by, symbol_by, symbols_by, coder_by, coder_in_range, CoderInRange, symbols_of, coder_after}
use Rattle.inner_code.specs.Encode.{fresh_coder, block_symbols_by, block_coder_by, block_symbols, block_coder}
use Rattle.inner_code.specs.declared.InnerCoder.{InnerCoder}
use Rattle.inner_code.proofs.Converter.{encoded_bits_lem, length_encoded, length_uncoded, length_block_encoded, uncoded_none, encoded_append, uncoded_append, sequenced_append, length_sequenced, encoded_qpsk, uncoded_qpsk}

-- ---- the range

module _ (m : Mode) (c : InnerCoder) where
  pub in_range_by_lem : in_range_by m c ≡ true → InRangeBy m c
  unfolding in_range_by
  in_range_by_lem e =
      let a = both_true _ _ e in
      let b = both_true _ _ a.1 in
      record { memory = ltb-true _ _ a.0; place = ltb-true _ _ b.0; held = leb-true _ _ b.1 }

  pub range_test_by : InRangeBy m c → in_range_by m c ≡ true
  unfolding in_range_by
  range_test_by g = simp (lt-ltb _ _ g.memory, lt-ltb _ _ g.place, le-leb _ _ g.held)

-- the rate is that of a mode, which is well formed
pub rate_known : (c : InnerCoder) → CoderInRange c → c.rate < mode_count
rate_known c g = known c.rate c.place g.place

-- the test of the rate follows from that of the place
pub range_by_mode : (c : InnerCoder) → coder_in_range c ≡ in_range_by (mode_of c.rate) c
range_by_mode c = by (in_range_by (mode_of c.rate) c) refl
  where
    either : (t : Bool) → pick t false false ≡ false
    either true = refl
    either false = refl

    by : (t : Bool) → in_range_by (mode_of c.rate) c ≡ t → coder_in_range c ≡ in_range_by (mode_of c.rate) c
    by true e = simp (lt-ltb _ _ (rate_known c (in_range_by_lem (mode_of c.rate) c e)))
    by false e = simp e (either (ltb c.rate mode_count))

pub in_range_lem : (c : InnerCoder) → coder_in_range c ≡ true → CoderInRange c
in_range_lem c e = in_range_by_lem (mode_of c.rate) c (sym (range_by_mode c) ∙ e)

pub range_test : (c : InnerCoder) → CoderInRange c → coder_in_range c ≡ true
range_test c g = range_by_mode c ∙ range_test_by (mode_of c.rate) c g

pub formed : (c : InnerCoder) → CoderInRange c → WellFormed (mode_of c.rate)
formed c g = well_formed_lem c.rate (rate_known c g)

parity_small : (n : ℕ) → n % 2 < 2
parity_small n = omega arith

module _ {m : Mode} (w : WellFormed m) where
  pub fresh_in_range_by : (r : ℕ) → InRangeBy m (fresh_coder r)
  fresh_in_range_by r = record { memory = omega arith; place = w.some_bits; held = omega arith }

  step_in_range_by : (c : InnerCoder) (b : ℕ) → InRangeBy m c → b < 2 → InRangeBy m (step_by m c b)
  step_in_range_by c b g h = record {
    memory = omega (arith, g.memory);
    place = next_by_lt m w.some_bits c.place;
    held =
        held_by_range w c.place g.place (coded taps_x c.memory b) (coded taps_y c.memory b) c.held
        (parity_small _) (parity_small _) g.held;
  }

  pub coder_in_range_by : (c : InnerCoder) {bits : List ℕ} → InRangeBy m c → Bits bits → InRangeBy m (coder_by m c bits)
  unfolding coder_by
  coder_in_range_by c g none = g
  coder_in_range_by c g (more {b} h t) = coder_in_range_by (step_by m c b) (step_in_range_by c b g h) t

  -- ---- how many symbols

  length_symbols_by : (c : InnerCoder) {bits : List ℕ} → InRangeBy m c → Bits bits → length (symbols_by m c bits) ≡ count_by m c.place (length bits)
  unfolding symbols_by count_by
  length_symbols_by c g none = refl
  length_symbols_by c g (more {b} {l} h t) =
      length-append (symbol_list (symbol_by m c b)) (symbols_by m (step_by m c b) l)
      ∙ ap₂ (λ (i j : ℕ). i + j)
      (symbol_count_by_lem w c.place g.place (coded taps_x c.memory b) (coded taps_y c.memory b) c.held)
      (length_symbols_by (step_by m c b) (step_in_range_by c b g h) t)

pub fresh_in_range : (r : ℕ) → r < mode_count → CoderInRange (fresh_coder r)
fresh_in_range r h = fresh_in_range_by (well_formed_lem r h) r

pub step_in_range : (c : InnerCoder) (b : ℕ) → CoderInRange c → b < 2 → CoderInRange (step_by (mode_of c.rate) c b)
step_in_range c b g h = step_in_range_by (formed c g) c b g h

pub length_symbols : (c : InnerCoder) {bits : List ℕ} → CoderInRange c → Bits bits → length (symbols_of c bits) ≡ symbols_in c.rate c.place (length bits)
length_symbols c g t = length_symbols_by (formed c g) c g t

-- ---- where the coder stands

pub coder_rate_by : (m : Mode) (c : InnerCoder) (bits : List ℕ) → (coder_by m c bits).rate ≡ c.rate
unfolding coder_by
coder_rate_by m c [] = refl
coder_rate_by m c (b ∷ bs) = coder_rate_by m (step_by m c b) bs

pub coder_rate : (c : InnerCoder) (bits : List ℕ) → (coder_after c bits).rate ≡ c.rate
coder_rate c bits = coder_rate_by (mode_of c.rate) c bits

pub coder_in_range_lem : (c : InnerCoder) {bits : List ℕ} → CoderInRange c → Bits bits → CoderInRange (coder_after c bits)
coder_in_range_lem c {bits} g t =
    subst (λ (r : ℕ). InRangeBy (mode_of r) (coder_after c bits)) (sym (coder_rate c bits)) (coder_in_range_by (formed c g) c g t)

pub coder_place : (c : InnerCoder) (bits : List ℕ) → (coder_after c bits).place ≡ pattern_place_after c.rate c.place (length bits)
unfolding coder_by pattern_place_after
coder_place c [] = refl
coder_place c (b ∷ bs) = coder_place (step_by (mode_of c.rate) c b) bs

pub coder_memory : (c : InnerCoder) (bits : List ℕ) → (coder_after c bits).memory ≡ memory_after c.memory bits
unfolding coder_by memory_after
coder_memory c [] = refl
coder_memory c (b ∷ bs) = coder_memory (step_by (mode_of c.rate) c b) bs

-- ---- the two branches

-- a pattern of one bit
single_pattern : (m : Mode) (p n : ℕ) → m.bits ≡ 1 → p < 1 → count_by m p n ≡ n * length (completed m 1)
unfolding count_by
single_pattern m p zero e h = sym (zero-mul (length (completed m 1)))
single_pattern m p (suc n) e h =
    let q : p + 1 ≡ 1 = omega arith in
    let s = length (completed m 1) in
    let next : next_by m p < 1 = rw e (mod-lt (p + 1) (omega arith)) in
    ap₂ (λ (i k : ℕ). length (completed m i) + k) q (single_pattern m (next_by m p) n e next)
    ∙ add_comm s (n * s)
    ∙ sym (suc-mul n s)

module _ {m : Mode} (w : WellFormed m) where
  -- as many numbers beside as there are symbols
  beside_all : (c : InnerCoder) → InRangeBy m c → m.bits ≡ 1 → length m.uncoded ≡ length (completed m 1)
      → (bytes : List ℕ) → length (uncoded_numbers m bytes) ≡ length (symbols_by m c (encoded_bits m bytes))
  beside_all c g e f bytes =
      let n = length bytes / m.group in
      let k = length m.columns in
      let first : c.place < 1 = rw (← e) g.place in
      length_uncoded m bytes
      ∙ ap (λ (u : ℕ). n * (k * u)) f
      ∙ sym (mul_assoc n k (length (completed m 1)))
      ∙ ap (λ (j : ℕ). j * length (completed m 1)) (sym (length_encoded m bytes))
      ∙ sym (length_symbols_by w c g (encoded_bits_lem m bytes) ∙ single_pattern m c.place (length (encoded_bits m bytes)) e first)

  -- how many symbols a list of bytes gives
  pub length_coded : (c : InnerCoder) → InRangeBy m c → (bytes : List ℕ)
      → length (block_symbols_by m c bytes) ≡ count_by m c.place (length (encoded_bits m bytes))
  unfolding sequenced
  length_coded c g bytes = by w.beside ∙ length_symbols_by w c g (encoded_bits_lem m bytes)
    where
      by : Beside m → length (block_symbols_by m c bytes) ≡ length (symbols_by m c (encoded_bits m bytes))
      by (alone e) = ap (λ (u : List ℕ). length (sequenced u (symbols_by m c (encoded_bits m bytes)))) (uncoded_none m e bytes)
      by (paired e f p) =
          length_sequenced (uncoded_numbers m bytes) (symbols_by m c (encoded_bits m bytes)) (beside_all c g e f bytes)

  -- each block of 204 bytes gives as many
  pub length_block_by : (c : InnerCoder) (block : List ℕ) → InRangeBy m c → length block ≡ 204
      → length (block_symbols_by m c block) ≡ count_by m c.place (block_bits_by m)
  length_block_by c block g h = length_coded c g block ∙ ap (count_by m c.place) (length_block_encoded m block h)

pub length_block : (c : InnerCoder) (block : List ℕ) → CoderInRange c → length block ≡ 204
    → length (block_symbols c block) ≡ symbols_in c.rate c.place (block_bits c.rate)
length_block c block g h = length_block_by (formed c g) c block g h

-- ---- one list after another

symbols_append_by : (m : Mode) (a b : List ℕ) (c : InnerCoder) → symbols_by m c (a ++ b) ≡ symbols_by m c a ++ symbols_by m (coder_by m c a) b
unfolding symbols_by coder_by
symbols_append_by m [] b c = refl
symbols_append_by m (x ∷ a) b c =
    let next = step_by m c x in
    ap (λ (l : List ℕ). symbol_list (symbol_by m c x) ++ l) (symbols_append_by m a b next)
    ∙ sym (append_assoc (symbol_list (symbol_by m c x)) (symbols_by m next a) (symbols_by m (coder_by m next a) b))

pub symbols_append : (a b : List ℕ) (c : InnerCoder) → symbols_of c (a ++ b) ≡ symbols_of c a ++ symbols_of (coder_after c a) b
symbols_append a b c =
    symbols_append_by (mode_of c.rate) a b c
    ∙ ap (λ (r : ℕ). symbols_of c a ++ symbols_by (mode_of r) (coder_after c a) b) (sym (coder_rate c a))

coder_append_by : (m : Mode) (a b : List ℕ) (c : InnerCoder) → coder_by m c (a ++ b) ≡ coder_by m (coder_by m c a) b
unfolding coder_by
coder_append_by m [] b c = refl
coder_append_by m (x ∷ a) b c = coder_append_by m a b (step_by m c x)

-- the same for bytes: coding whole groups and then the rest, with the coder carried over, is coding all
module _ {m : Mode} (w : WellFormed m) (c : InnerCoder) (g : InRangeBy m c) (a b : List ℕ) (h : length a % m.group ≡ 0) where
  groups_are : length a ≡ length a / m.group * m.group
  groups_are = sym (div-add-mod' (length a) m.group) ∙ ap (λ (n : ℕ). length a / m.group * m.group + n) h ∙ add-zero _

  coded_parts : symbols_by m c (encoded_bits m (a ++ b)) ≡ symbols_by m c (encoded_bits m a) ++ symbols_by m (block_coder_by m c a) (encoded_bits m b)
  coded_parts =
      ap (symbols_by m c) (encoded_append m (length a / m.group) a b w.some_group groups_are)
      ∙ symbols_append_by m (encoded_bits m a) (encoded_bits m b) c

  pub block_symbols_append : block_symbols_by m c (a ++ b) ≡ block_symbols_by m c a ++ block_symbols_by m (block_coder_by m c a) b
  unfolding sequenced
  block_symbols_append = by w.beside
    where
      by : Beside m → block_symbols_by m c (a ++ b) ≡ block_symbols_by m c a ++ block_symbols_by m (block_coder_by m c a) b
      by (alone e) =
          let no = uncoded_none m e in
          (λ i. sequenced (no (a ++ b) i) (coded_parts i))
          ∙ (λ i. sequenced (sym (no a) i) (symbols_by m c (encoded_bits m a)) ++ sequenced (sym (no b) i) (symbols_by m (block_coder_by m c a) (encoded_bits m b)))
      by (paired e f p) =
          ap₂ sequenced (uncoded_append m (length a / m.group) a b w.some_group groups_are) coded_parts
          ∙ sequenced_append (uncoded_numbers m a) (uncoded_numbers m b) (symbols_by m c (encoded_bits m a)) (symbols_by m (block_coder_by m c a) (encoded_bits m b))
          (beside_all w c g e f a)

  pub block_coder_append : block_coder_by m c (a ++ b) ≡ block_coder_by m (block_coder_by m c a) b
  block_coder_append =
      ap (coder_by m c) (encoded_append m (length a / m.group) a b w.some_group groups_are) ∙ coder_append_by m (encoded_bits m a) (encoded_bits m b) c

-- ---- the mother code, and then the puncturing

-- the list has X and Y of each bit, from n and from 1632 + n on
data Holds (l : List ℕ) : ℕ → ℕ → List ℕ → Type 0 where
  nothing : {n m : ℕ} → Holds l n m []
  also : {n m b : ℕ} {bs : List ℕ} → get_or l n 0 ≡ coded taps_x m b → get_or l (1632 + n) 0 ≡ coded taps_y m b → Holds l (suc n) (next_memory m b) bs
      → Holds l n m (b ∷ bs)

holds : (l : List ℕ) (n m : ℕ) (bits : List ℕ) → ((i : ℕ) → i < length bits → get_or l (n + i) 0 ≡ get_or (mother_of taps_x m bits) i 0)
    → ((i : ℕ) → i < length bits → get_or l (1632 + n + i) 0 ≡ get_or (mother_of taps_y m bits) i 0) → Holds l n m bits
unfolding mother_of
holds l n m [] x y = nothing
holds l n m (b ∷ bs) x y =
    also (ap (λ (k : ℕ). get_or l k 0) (sym (add-zero n)) ∙ x 0 (omega arith))
    (ap (λ (k : ℕ). get_or l k 0) (sym (add-zero (1632 + n))) ∙ y 0 (omega arith))
    (holds l (suc n) (next_memory m b) bs (λ i h. ap (λ (k : ℕ). get_or l k 0) (one n i) ∙ x (suc i) (suc-le-suc h))
    (λ i h. ap (λ (k : ℕ). get_or l k 0) (two n i) ∙ y (suc i) (suc-le-suc h)))
  where
    one : (n i : ℕ) → suc n + i ≡ n + suc i
    one n i = omega arith

    two : (n i : ℕ) → 1632 + suc n + i ≡ 1632 + n + suc i
    two n i = omega arith

holds_block : (m : ℕ) (bits : List ℕ) → length bits ≡ 1632 → Holds (block_mother m bits) 0 m bits
holds_block m bits n =
    let x = mother_of taps_x m bits in
    let y = mother_of taps_y m bits in
    let size : length x ≡ 1632 = length_mother taps_x m bits ∙ n in
    holds (x ++ y) 0 m bits
    (λ i h. ap (λ (k : ℕ). get_or (x ++ y) k 0) (zero-add i) ∙ get_or-append x y 0 i (rw (length_mother taps_x m bits) h))
    (λ i h. ap (λ (k : ℕ). get_or (x ++ y) (k + i) 0) (sym size) ∙ get_or-append-add x y i 0)

symbols_held : (l : List ℕ) (c : InnerCoder) {n : ℕ} {bits : List ℕ} → Holds l n c.memory bits
    → symbols_of c bits ≡ punctured_symbols c.rate c.place c.held l n (length bits)
unfolding symbols_by punctured_symbols
symbols_held l c nothing = refl
symbols_held l c (also {n} {b = b} {bs} ex ey t) =
    ap (λ (s : List ℕ). symbol_list (symbol_by (mode_of c.rate) c b) ++ s) (symbols_held l (step_by (mode_of c.rate) c b) t)
    ∙ (λ i.
    symbol_list (punctured c.rate c.place (sym ex i) (sym ey i) c.held)
    ++ punctured_symbols c.rate (place_next c.rate c.place) (held_after c.rate c.place (sym ex i) (sym ey i) c.held) l (suc n) (length bs))

coder_held : (l : List ℕ) (c : InnerCoder) {n : ℕ} {bits : List ℕ} → Holds l n c.memory bits
    → coder_after c bits
    ≡ record {
      rate = c.rate;
      memory = memory_after c.memory bits;
      place = pattern_place_after c.rate c.place (length bits);
      held = held_behind c.rate c.place c.held l n (length bits);
    }
unfolding coder_by memory_after pattern_place_after held_behind
coder_held l c nothing = refl
coder_held l c (also {n} {b = b} {bs} ex ey t) =
    coder_held l (step_by (mode_of c.rate) c b) t
    ∙ (λ i. record {
      rate = c.rate;
      memory = memory_after (next_memory c.memory b) bs;
      place = pattern_place_after c.rate (place_next c.rate c.place) (length bs);
      held = held_behind c.rate (place_next c.rate c.place) (held_after c.rate c.place (sym ex i) (sym ey i) c.held) l (suc n) (length bs);
    })

-- at the QPSK rates every bit is coded, and nothing goes beside
module _ (c : InnerCoder) (h : c.rate < qpsk_count) (block : List ℕ) where
  pub qpsk_symbols : block_symbols c block ≡ symbols_of c (bits_of block)
  unfolding sequenced
  qpsk_symbols = ap₂ (λ (u e : List ℕ). sequenced u (symbols_of c e)) (uncoded_qpsk c.rate h block) (encoded_qpsk c.rate h block)

  pub qpsk_coder : block_coder c block ≡ coder_after c (bits_of block)
  qpsk_coder = ap (coder_after c) (encoded_qpsk c.rate h block)

-- a block of 1,632 bits
module _ (c : InnerCoder) (bits : List ℕ) (n : length bits ≡ 1632) where
  pub symbols_serial : symbols_of c bits ≡ punctured_symbols c.rate c.place c.held (block_mother c.memory bits) 0 1632
  symbols_serial =
      symbols_held (block_mother c.memory bits) c (holds_block c.memory bits n)
      ∙ ap (punctured_symbols c.rate c.place c.held (block_mother c.memory bits) 0) n

  pub coder_serial : coder_after c bits
      ≡ record {
        rate = c.rate;
        memory = memory_after c.memory bits;
        place = pattern_place_after c.rate c.place 1632;
        held = held_behind c.rate c.place c.held (block_mother c.memory bits) 0 1632;
      }
  coder_serial =
      coder_held (block_mother c.memory bits) c (holds_block c.memory bits n)
      ∙ ap
      (λ (k : ℕ). record {
        rate = c.rate;
        memory = memory_after c.memory bits;
        place = pattern_place_after c.rate c.place k;
        held = held_behind c.rate c.place c.held (block_mother c.memory bits) 0 k;
      })
      n
