-- A block in a mode with uncoded bits: what the code goes through is what the tables say.
-- Assumes nothing.
use mathlib.Core.Path.{◌≡◌, refl, ap, ap₂, sym, subst, ◌∙◌}
use mathlib.Core.List.{List, [], ◌∷◌, ◌++◌, map, flatten, append_assoc, append-nil}
use Prim.Native.Nat.{ℕ, zero, suc, ◌+◌, ◌*◌, ◌/◌, ◌%◌, ◌≤◌, ◌<◌}
use native.Mathlib.Nat.{add-zero, add_comm, mul-zero, mul-suc, not-suc-le-zero, le_of_suc-le-suc, mul-le-mul_left, mod-lt}
use native.Mathlib.Numerals.{add-one}
use native.Mathlib.Omega.{arith}
use borrow.Rule.Slice.PartMut.{put_mid, mid_of, post_of}
use lib.Dec.{ltb}
use lib.ListN.{length, get_or, take, drop, set, length-append, length-set, length-drop, get_or-append}
use lib.Seq.{take_at, length-take-le, get_or-take, get_or-drop, drop-drop, drop-cons, drop-set-lt, get_or-set_same, get_or-append-add, ext_get_or}
use Rattle.common.specs.Lists.{chunks, chunks_of, list_of, Entries}
use Rattle.common.proofs.Lists.{length_list_of, get_d_list_of}
use Rattle.common.proofs.Entries.{entries_append}
use Rattle.code_tables.specs.declared.Grouping.{Grouping}
use Rattle.convolutional_code.specs.Bits.{bits_of}
use Rattle.convolutional_code.specs.Code.{taps_x, taps_y, next_memory, coded, mother_of, memory_after, block_mother}
use Rattle.convolutional_code.proofs.Bits.{bits_bits, bits_split, length_bits, length_mother}
use Rattle.puncturing.specs.Mode.{Mode, mode_of, begun}
use Rattle.puncturing.specs.Step.{symbol_list, punctured_by, held_by, held_count_by}
use Rattle.puncturing.specs.WellFormed.{WellFormed}
use Rattle.puncturing.proofs.WellFormed.{well_formed_lem, pick_small}
use Rattle.inner_code.specs.Converter.{encoded_group, encoded_bits, uncoded_group, uncoded_numbers, sequenced}
use Rattle.inner_code.specs.Step.{InRangeBy, step_by, symbols_of, symbols_by, coder_by}
use Rattle.inner_code.specs.Encode.{coder_at, block_symbols_by, block_coder_by}
use Rattle.inner_code.specs.Groups.{firsts, joined, digit_list, byte_digits, group_digits, coded_as, numbered, Fitting, Grouped, coded_bits}
use Rattle.inner_code.specs.Stream.{symbols, stream_symbols}
use Rattle.inner_code.specs.declared.InnerCoder.{InnerCoder}
use Rattle.inner_code.proofs.Converter.{length_sequenced}
use Rattle.inner_code.proofs.Stream.{symbols_fresh_by, symbols_fresh, stream_qpsk}

-- ---- lists one after another

joined_front : (n : ℕ) (f : ℕ → List ℕ) → joined (suc n) f ≡ f 0 ++ joined n (λ i. f (suc i))
unfolding joined
joined_front zero f = sym (append-nil (f 0))
joined_front (suc n) f = ap (λ (l : List ℕ). l ++ f (suc n)) (joined_front n f) ∙ append_assoc (f 0) (joined n (λ i. f (suc i))) (f (suc n))

pub joined_same : (n : ℕ) (f g : ℕ → List ℕ) → ((i : ℕ) → i < n → f i ≡ g i) → joined n f ≡ joined n g
unfolding joined
joined_same zero f g e = refl
joined_same (suc n) f g e = ap₂ (λ (a b : List ℕ). a ++ b) (joined_same n f g (λ i h. e i (omega arith))) (e n (omega arith))

pub length_joined : (n k : ℕ) (f : ℕ → List ℕ) → ((i : ℕ) → length (f i) ≡ k) → length (joined n f) ≡ k * n
unfolding joined
length_joined zero k f e = sym (mul-zero k)
length_joined (suc n) k f e = length-append (joined n f) (f n) ∙ ap₂ (λ (a b : ℕ). a + b) (length_joined n k f e) (e n) ∙ sym (mul-suc k n)

entries_joined : (P : ℕ → Type 0) → P 0 → (n : ℕ) (f : ℕ → List ℕ) → ((i : ℕ) → Entries P (f i)) → Entries P (joined n f)
unfolding joined
entries_joined P z zero f e = λ i. z
entries_joined P z (suc n) f e = entries_append P z (joined n f) (f n) (entries_joined P z n f e) (e n)

-- the groups of a list
of_chunks : (f : List ℕ → List ℕ) (size n : ℕ) (l : List ℕ) → flatten (map f (chunks size n l)) ≡ joined n (λ i. f (take size (drop (size * i) l)))
unfolding flatten chunks joined
of_chunks f size zero l = refl
of_chunks f size (suc n) l =
    let part : ℕ → List ℕ = λ i. f (take size (drop (size * i) l)) in
    let first : f (take size l) ≡ part 0 = ap (λ (k : ℕ). f (take size (drop k l))) (sym (mul-zero size)) in
    let next : (i : ℕ) → f (take size (drop (size * i) (drop size l))) ≡ part (suc i)
    = λ i. ap (λ (x : List ℕ). f (take size x)) (drop-drop (size * i) size l ∙ ap (λ (k : ℕ). drop k l) (add_comm size (size * i) ∙ sym (mul-suc size i))) in
    ap₂ (λ (a b : List ℕ). a ++ b) first
    (of_chunks f size n (drop size l) ∙ joined_same n (λ i. f (take size (drop (size * i) (drop size l)))) (λ i. part (suc i)) (λ i h. next i))
    ∙ sym (joined_front n part)

-- ---- digits

pub length_digits : (base n b : ℕ) → length (digit_list base n b) ≡ n
unfolding digit_list
length_digits base zero b = refl
length_digits base (suc n) b = length-append (digit_list base n (b / base)) _ ∙ ap (λ (k : ℕ). k + 1) (length_digits base n (b / base)) ∙ add-one n

digits_below : (base n b : ℕ) → 0 < base → Entries (λ x. x < base) (digit_list base n b)
unfolding digit_list
digits_below base zero b h = λ i. h
digits_below base (suc n) b h = entries_append (λ x. x < base) h (digit_list base n (b / base)) (b % base ∷ []) (digits_below base n (b / base) h) last
  where
    last : Entries (λ x. x < base) (b % base ∷ [])
    last zero = mod-lt b h
    last (suc i) = h

-- Digits as a loop cuts them off, the last one first: k are left in rest.
pub record Cutting (base b n : ℕ) (output : List ℕ) (rest k : ℕ) : Type 0 where
  pub cut : digit_list base n b ≡ digit_list base k rest ++ drop k output
  pub size : length output ≡ n
  pub within : k ≤ n

pub cutting_more : {base b n : ℕ} {output : List ℕ} {rest k : ℕ} → Cutting base b n output rest k → (j : ℕ) → k ≡ suc j
    → Cutting base b n (set output j (rest % base)) (rest / base) j
unfolding digit_list
cutting_more {base} {b} {n} {output} {rest} {k} c j e =
    let v : ℕ = rest % base in
    let now : List ℕ = set output j v in
    let h : j < length output = omega (arith, c.size, c.within, e) in
    let h' : j < length now = rw (length-set output j v) h in
    let tail : drop j now ≡ v ∷ drop (suc j) output
    = drop-cons now j 0 h' ∙ ap₂ (λ (x : ℕ) (l : List ℕ). x ∷ l) (get_or-set_same output j v 0 h) (drop-set-lt (suc j) output j v (omega arith)) in
    record {
      cut =
          c.cut
          ∙ ap (λ (i : ℕ). digit_list base i rest ++ drop i output) e
          ∙ append_assoc (digit_list base j (rest / base)) (v ∷ []) (drop (suc j) output)
          ∙ ap (λ (l : List ℕ). digit_list base j (rest / base) ++ l) (sym tail);
      size = length-set output j v ∙ c.size;
      within = omega (arith, c.within, e);
    }

pub cutting_all : {base b n : ℕ} {output : List ℕ} {rest k : ℕ} → Cutting base b n output rest k → k ≡ 0 → output ≡ digit_list base n b
unfolding digit_list
cutting_all {base} {b} {n} {output} {rest} {k} c e = sym (c.cut ∙ ap (λ (i : ℕ). digit_list base i rest ++ drop i output) e)

-- Parts of k numbers, as a loop writes them one after another: i are there.
pub record Filled (k : ℕ) (f : ℕ → List ℕ) (output : List ℕ) (i : ℕ) : Type 0 where
  pub front : take (k * i) output ≡ joined i f

pub filled_none : (k : ℕ) (f : ℕ → List ℕ) (output : List ℕ) → Filled k f output 0
unfolding joined
filled_none k f output = record { front = ap (λ (n : ℕ). take n output) (mul-zero k) }

pub filled_more : {k : ℕ} {f : ℕ → List ℕ} {output : List ℕ} {i : ℕ} → Filled k f output i → (part : List ℕ) (len : ℕ) → part ≡ f i → length (f i) ≡ k
    → k * i + k ≤ length output → Filled k f (put_mid (k * i) len output part) (i + 1)
unfolding joined
filled_more {k} {f} {output} {i} u part len p n r =
    let a : ℕ = k * i in
    let done : List ℕ = take a output ++ f i in
    let rest : List ℕ = post_of a len output in
    let all : put_mid a len output part ≡ done ++ rest
    = ap (λ (x : List ℕ). take a output ++ (x ++ rest)) p ∙ sym (append_assoc (take a output) (f i) rest) in
    let next : a + k ≡ k * (i + 1) = sym (mul-suc k i) ∙ ap (λ (x : ℕ). k * x) (sym (add-one i)) in
    let count : length done ≡ k * (i + 1)
    = length-append (take a output) (f i) ∙ ap₂ (λ (x y : ℕ). x + y) (length-take-le a output (omega arith)) n ∙ next in
    record {
      front =
          ap (take (k * (i + 1))) all
          ∙ take_at done rest (k * (i + 1)) count
          ∙ ap (λ (x : List ℕ). x ++ f i) u.front
          ∙ ap (λ (x : ℕ). joined x f) (sym (add-one i));
    }

-- places of parts within a whole
pub part_fits : (k i n l : ℕ) → i < n → k * n ≡ l → k * i + k ≤ l
part_fits k i n l h e = let m = mul-le-mul_left k h in let s = mul-suc k i in omega arith

-- the digits of a part of a block
pub part_digits : (base per at others : ℕ) (block : List ℕ) (k : ℕ) → at + others ≤ length block → k ≡ others
    → byte_digits base per (mid_of at k block) ≡ joined others (λ j. digit_list base per (get_or block (at + j) 0))
part_digits base per at others block k h e =
    let l : length (mid_of at k block) ≡ others = length-take-le k (drop at block) (omega (arith, length-drop at block)) ∙ e in
    ap (λ (n : ℕ). joined n (λ j. digit_list base per (get_or (mid_of at k block) j 0))) l
    ∙ joined_same others (λ j. digit_list base per (get_or (mid_of at k block) j 0)) (λ j. digit_list base per (get_or block (at + j) 0))
    (λ j i. ap (digit_list base per) (get_or-take k (drop at block) j 0 (omega arith) ∙ get_or-drop at block j 0))

-- ---- the two branches

pub length_firsts : (size n : ℕ) (bytes : List ℕ) → length (firsts size n bytes) ≡ n
length_firsts size n bytes = length_list_of n (λ i. get_or bytes (size * i) 0)

pub firsts_at : (size n : ℕ) (bytes : List ℕ) (i : ℕ) → i < n → get_or (firsts size n bytes) i 0 ≡ get_or bytes (size * i) 0
firsts_at size n bytes i h = get_d_list_of n (λ i. get_or bytes (size * i) 0) 0 i h

bits_joined : (n : ℕ) (f : ℕ → ℕ) → joined n (λ i. bits_of (f i ∷ [])) ≡ bits_of (list_of n f)
unfolding joined list_of bits_of
bits_joined zero f = refl
bits_joined (suc n) f = ap (λ (l : List ℕ). l ++ bits_of (f n ∷ [])) (bits_joined n f) ∙ sym (bits_split (list_of n f) (f n ∷ []))

-- a byte of a group
of_group : (size i : ℕ) (bytes : List ℕ) (j : ℕ) → j < size → get_or (take size (drop (size * i) bytes)) j 0 ≡ get_or bytes (size * i + j) 0
of_group size i bytes j h = get_or-take size (drop (size * i) bytes) j 0 h ∙ get_or-drop (size * i) bytes j 0

module _ {m : Mode} {g : Grouping} (d : Grouped m g) where
  size : ℕ
  size = g.others + 1

  pub encoded_grouped : (bytes : List ℕ) → encoded_bits m bytes ≡ bits_of (firsts ((g.others + 1)) (length bytes / (g.others + 1)) bytes)
  unfolding encoded_bits chunks_of size
  encoded_grouped bytes =
      let n = length bytes / size in
      ap (λ (s : ℕ). flatten (map (encoded_group m) (chunks s (length bytes / s) bytes))) d.size
      ∙ of_chunks (encoded_group m) size n bytes
      ∙ joined_same n (λ i. encoded_group m (take size (drop (size * i) bytes))) (λ i. bits_of (get_or bytes (size * i) 0 ∷ []))
      (λ i h. d.encoded (take size (drop (size * i) bytes))
      ∙ ap (λ (b : ℕ). bits_of (b ∷ [])) (of_group size i bytes 0 (omega arith) ∙ ap (λ (k : ℕ). get_or bytes k 0) (add-zero (size * i))))
      ∙ bits_joined n (λ i. get_or bytes (size * i) 0)

  pub uncoded_grouped : (bytes : List ℕ)
      → uncoded_numbers m bytes ≡ group_digits g.others g.base (8 / g.others) (length bytes / (g.others + 1)) bytes
  unfolding uncoded_numbers chunks_of size
  uncoded_grouped bytes =
      let n = length bytes / size in
      let digits : ℕ → List ℕ = digit_list g.base (8 / g.others) in
      ap (λ (s : ℕ). flatten (map (uncoded_group m) (chunks s (length bytes / s) bytes))) d.size
      ∙ of_chunks (uncoded_group m) size n bytes
      ∙ joined_same n (λ i. uncoded_group m (take size (drop (size * i) bytes))) (λ i. joined g.others (λ j. digits (get_or bytes (size * i + suc j) 0)))
      (λ i h. d.uncoded (take size (drop (size * i) bytes))
      ∙ joined_same g.others (λ j. digits (get_or (take size (drop (size * i) bytes)) (suc j) 0)) (λ j. digits (get_or bytes (size * i + suc j) 0))
      (λ j l. ap digits (of_group size i bytes (suc j) (omega arith))))

-- ---- the coder

-- the two coded bits of each bit as a number
unfoldable coded_pairs : ℕ → ℕ → ℕ → List ℕ → List ℕ
coded_pairs c2 c1 m [] = []
coded_pairs c2 c1 m (b ∷ bs) =
    (2 * coded_as c2 (coded taps_x m b) (coded taps_y m b) + coded_as c1 (coded taps_x m b) (coded taps_y m b)) ∷ coded_pairs c2 c1 (next_memory m b) bs

length_pairs : (c2 c1 m : ℕ) (bits : List ℕ) → length (coded_pairs c2 c1 m bits) ≡ length bits
unfolding coded_pairs
length_pairs c2 c1 m [] = refl
length_pairs c2 c1 m (b ∷ bs) = ap suc (length_pairs c2 c1 (next_memory m b) bs)

pairs_at : (c2 c1 m : ℕ) (bits : List ℕ) (i : ℕ) → i < length bits
    → get_or (coded_pairs c2 c1 m bits) i 0
    ≡ 2 * coded_as c2 (get_or (mother_of taps_x m bits) i 0) (get_or (mother_of taps_y m bits) i 0) + coded_as c1 (get_or (mother_of taps_x m bits) i 0) (get_or (mother_of taps_y m bits) i 0)
unfolding coded_pairs mother_of
pairs_at c2 c1 m [] i h = absurd (not-suc-le-zero h)
pairs_at c2 c1 m (b ∷ bs) zero h = refl
pairs_at c2 c1 m (b ∷ bs) (suc i) h = pairs_at c2 c1 (next_memory m b) bs i (le_of_suc-le-suc h)

module _ {m : Mode} {g : Grouping} (d : Grouped m g) (w : WellFormed m) where
  none_begun : begun m 1 ≡ []
  none_begun = ap (begun m) (sym d.single) ∙ w.none_at_end

  none_held : held_count_by m 0 ≡ 0
  unfolding held_count_by
  none_held = ap length w.none_at_start

  -- nothing but the memory matters
  at_start : (c : InnerCoder) → InRangeBy m c → c ≡ coder_at c.rate c.memory
  at_start c r =
      let p : c.place ≡ 0 = (let h : c.place < 1 = rw (← d.single) r.place in omega arith) in
      let h : c.held ≤ held_count_by m 0 = subst (λ (n : ℕ). c.held ≤ held_count_by m n) p r.held in
      let z : c.held ≡ 0 = omega (arith, none_held) in
      λ i. record { rate = c.rate; memory = c.memory; place = p i; held = z i }

  step_start : (rate memory b : ℕ) → step_by m (coder_at rate memory) b ≡ coder_at rate (next_memory memory b)
  unfolding held_by
  step_start rate memory b =
      let p : 1 % m.bits ≡ 0 = ap (λ (n : ℕ). 1 % n) d.single in
      let z : held_by m 0 (coded taps_x memory b) (coded taps_y memory b) 0 ≡ 0 = simp none_begun in
      λ i. record { rate = rate; memory = next_memory memory b; place = p i; held = z i }

  symbols_grouped : (rate memory : ℕ) (bits : List ℕ) → symbols_by m (coder_at rate memory) bits ≡ coded_pairs g.c2 g.c1 memory bits
  unfolding symbols_by coded_pairs
  symbols_grouped rate memory [] = refl
  symbols_grouped rate memory (b ∷ bs) =
      ap₂ (λ (s : List ℕ) (c : InnerCoder). s ++ symbols_by m c bs) (ap symbol_list (d.symbol (coded taps_x memory b) (coded taps_y memory b) 0)) (step_start rate memory b)
      ∙ ap (λ (l : List ℕ). (2 * coded_as g.c2 (coded taps_x memory b) (coded taps_y memory b) + coded_as g.c1 (coded taps_x memory b) (coded taps_y memory b)) ∷ l)
      (symbols_grouped rate (next_memory memory b) bs)

  coder_grouped : (rate memory : ℕ) (bits : List ℕ) → coder_by m (coder_at rate memory) bits ≡ coder_at rate (memory_after memory bits)
  unfolding coder_by memory_after
  coder_grouped rate memory [] = refl
  coder_grouped rate memory (b ∷ bs) = ap (λ (c : InnerCoder). coder_by m c bs) (step_start rate memory b) ∙ coder_grouped rate (next_memory memory b) bs

-- ---- the numbers

sequenced_at : (us cs : List ℕ) (i : ℕ) → length us ≡ length cs → i < length us → get_or (sequenced us cs) i 0 ≡ 4 * get_or us i 0 + get_or cs i 0
unfolding sequenced
sequenced_at [] cs i e h = absurd (not-suc-le-zero h)
sequenced_at (u ∷ us) [] i e h = absurd (omega arith)
sequenced_at (u ∷ us) (c ∷ cs) zero e h = refl
sequenced_at (u ∷ us) (c ∷ cs) (suc i) e h = sequenced_at us cs i (omega arith) (le_of_suc-le-suc h)

pub coded_small : (bit x y : ℕ) → x < 2 → y < 2 → coded_as bit x y < 2
coded_small bit x y h k = pick_small (ltb bit 1632) x y h k

pub length_numbered : (c2 c1 : ℕ) (us l : List ℕ) (n : ℕ) → length (numbered c2 c1 us l n) ≡ n
length_numbered c2 c1 us l n = length_list_of n _

pub numbered_at : (c2 c1 : ℕ) (us l : List ℕ) (n k : ℕ) → k < n
    → get_or (numbered c2 c1 us l n) k 0 ≡ 4 * get_or us k 0 + (2 * coded_as c2 (get_or l k 0) (get_or l (n + k) 0) + coded_as c1 (get_or l k 0) (get_or l (n + k) 0))
numbered_at c2 c1 us l n k h =
    get_d_list_of n (λ k. 4 * get_or us k 0 + (2 * coded_as c2 (get_or l k 0) (get_or l (n + k) 0) + coded_as c1 (get_or l k 0) (get_or l (n + k) 0))) 0 k h

module _ {g : Grouping} {per groups : ℕ} (f : Fitting g per groups) (bytes : List ℕ) where
  -- eight digits a group, each small
  pub length_group_digits : length (group_digits g.others g.base per groups bytes) ≡ 8 * groups
  length_group_digits =
      length_joined groups 8 _ (λ i. length_joined g.others per _ (λ j. length_digits g.base per (get_or bytes ((g.others + 1) * i + suc j) 0)) ∙ f.eight)

  pub group_digits_small : (i : ℕ) → get_or (group_digits g.others g.base per groups bytes) i 0 < 64
  group_digits_small i =
      let h : get_or (group_digits g.others g.base per groups bytes) i 0 < g.base
      = entries_joined (λ x. x < g.base) f.base_some groups _
      (λ i. entries_joined (λ x. x < g.base) f.base_some g.others _
      (λ j. digits_below g.base per (get_or bytes ((g.others + 1) * i + suc j) 0) f.base_some)) i in
      omega (arith, f.base_few)

-- ---- a block

module _ {m : Mode} {g : Grouping} (d : Grouped m g) (w : WellFormed m) (c : InnerCoder) (r : InRangeBy m c) (block : List ℕ) (h : length block ≡ 204) where
  groups : ℕ
  groups = 204 / (g.others + 1)

  bits : List ℕ
  bits = bits_of (firsts ((g.others + 1)) (204 / (g.others + 1)) block)

  us : List ℕ
  us = group_digits g.others g.base (8 / g.others) (204 / (g.others + 1)) block

  bits_count : length bits ≡ 8 * groups
  unfolding bits groups
  bits_count = length_bits _ ∙ ap (λ (n : ℕ). 8 * n) (length_firsts (g.others + 1) (204 / (g.others + 1)) block)

  us_count : length us ≡ 8 * groups
  unfolding us groups
  us_count = length_group_digits d.fits block

  encoded_block : encoded_bits m block ≡ bits
  unfolding bits
  encoded_block = encoded_grouped d block ∙ ap (λ (n : ℕ). bits_of (firsts ((g.others + 1)) (n / (g.others + 1)) block)) h

  uncoded_block : uncoded_numbers m block ≡ us
  unfolding us
  uncoded_block = uncoded_grouped d block ∙ ap (λ (n : ℕ). group_digits g.others g.base (8 / g.others) (n / (g.others + 1)) block) h

  pairs : List ℕ
  pairs = coded_pairs g.c2 g.c1 c.memory bits

  pairs_count : length pairs ≡ 8 * groups
  unfolding pairs
  pairs_count = length_pairs g.c2 g.c1 c.memory bits ∙ bits_count

  all : block_symbols_by m c block ≡ sequenced us pairs
  unfolding pairs
  all =
      ap₂ sequenced uncoded_block
      (ap₂ (symbols_by m) (at_start d w c r) encoded_block ∙ symbols_grouped d w c.rate c.memory bits)

  same : length us ≡ length pairs
  same = us_count ∙ sym pairs_count

  pub grouped_count : length (block_symbols_by m c block) ≡ 8 * (204 / (g.others + 1))
  unfolding groups
  grouped_count = ap length all ∙ length_sequenced us pairs same ∙ pairs_count

  mother : List ℕ
  mother = block_mother c.memory bits

  x_at : (i : ℕ) → i < 8 * groups → get_or mother i 0 ≡ get_or (mother_of taps_x c.memory bits) i 0
  unfolding mother
  x_at i k =
      get_or-append (mother_of taps_x c.memory bits) (mother_of taps_y c.memory bits) 0 i
      (rw (length_mother taps_x c.memory bits, bits_count) k)

  y_at : (i : ℕ) → get_or mother (8 * groups + i) 0 ≡ get_or (mother_of taps_y c.memory bits) i 0
  unfolding mother
  y_at i =
      ap (λ (k : ℕ). get_or mother (k + i) 0) (sym (length_mother taps_x c.memory bits ∙ bits_count))
      ∙ get_or-append-add (mother_of taps_x c.memory bits) (mother_of taps_y c.memory bits) i 0

  numbers : List ℕ
  numbers = numbered g.c2 g.c1 us mother (8 * groups)

  numbers_count : length numbers ≡ 8 * groups
  unfolding numbers
  numbers_count = length_numbered g.c2 g.c1 us mother (8 * groups)

  each : (i : ℕ) → i < length numbers → get_or numbers i 0 ≡ get_or (sequenced us pairs) i 0
  unfolding numbers pairs
  each i k =
      let k' : i < 8 * groups = rw numbers_count at k in
      let n : i < length us = rw us_count k' in
      let l : i < length bits = rw bits_count k' in
      numbered_at g.c2 g.c1 us mother (8 * groups) i k'
      ∙ ap₂ (λ (x y : ℕ). 4 * get_or us i 0 + (2 * coded_as g.c2 x y + coded_as g.c1 x y)) (x_at i k') (y_at i)
      ∙ sym (sequenced_at us pairs i same n ∙ ap (λ (v : ℕ). 4 * get_or us i 0 + v) (pairs_at g.c2 g.c1 c.memory bits i l))

  -- the block's symbols are the numbers that the code writes
  pub grouped_symbols : numbered g.c2 g.c1 (group_digits g.others g.base (8 / g.others) (204 / (g.others + 1)) block)
      (block_mother c.memory (bits_of (firsts ((g.others + 1)) (204 / (g.others + 1)) block))) (8 * (204 / (g.others + 1)))
      ≡ block_symbols_by m c block
  unfolding groups bits us mother numbers
  grouped_symbols = ext_get_or 0 numbers (sequenced us pairs) (numbers_count ∙ sym (length_sequenced us pairs same ∙ pairs_count)) each ∙ sym all

  -- and the coder after it
  pub grouped_after : coder_at c.rate (memory_after c.memory (bits_of (firsts ((g.others + 1)) (204 / (g.others + 1)) block))) ≡ block_coder_by m c block
  unfolding bits
  grouped_after = sym (ap₂ (coder_by m) (at_start d w c r) encoded_block ∙ coder_grouped d w c.rate c.memory bits)

-- ---- 16QAM 3/4

digit_64 : (b : ℕ) → 2 * (b / 128 % 2) + b / 64 % 2 ≡ b / 4 / 4 / 4 % 4
digit_64 b = omega arith

digit_16 : (b : ℕ) → 2 * (b / 32 % 2) + b / 16 % 2 ≡ b / 4 / 4 % 4
digit_16 b = omega arith

digit_4 : (b : ℕ) → 2 * (b / 8 % 2) + b / 4 % 2 ≡ b / 4 % 4
digit_4 b = omega arith

digit_1 : (b : ℕ) → 2 * (b / 2 % 2) + b % 2 ≡ b % 4
digit_1 b = omega arith

abbrev pub qam : Grouping
qam = record { others = 2; base = 4; c2 = 1632; c1 = 0 }

pub grouped_qam : Grouped (mode_of 5) qam
unfolding mode_of punctured_by joined digit_list bits_of flatten
grouped_qam = record {
  fits = record { others_some = omega arith; others_few = omega arith; base_some = omega arith; base_few = omega arith; eight = refl; block = refl; few = omega arith };
  size = refl;
  single = refl;
  encoded = λ bytes. refl;
  uncoded = λ bytes. digits_of (get_or bytes 1 0) (get_or bytes 2 0);
  symbol = λ x y held. refl;
}
  where
    digits_of : (b e : ℕ)
        → (2 * (b / 128 % 2) + b / 64 % 2) ∷ (2 * (b / 32 % 2) + b / 16 % 2) ∷ (2 * (b / 8 % 2) + b / 4 % 2) ∷ (2 * (b / 2 % 2) + b % 2)
        ∷ (2 * (e / 128 % 2) + e / 64 % 2) ∷ (2 * (e / 32 % 2) + e / 16 % 2) ∷ (2 * (e / 8 % 2) + e / 4 % 2) ∷ (2 * (e / 2 % 2) + e % 2) ∷ []
        ≡ digit_list 4 4 b ++ digit_list 4 4 e
    digits_of b e = λ i. digit_64 b i ∷ digit_16 b i ∷ digit_4 b i ∷ digit_1 b i ∷ digit_64 e i ∷ digit_16 e i ∷ digit_4 e i ∷ digit_1 e i ∷ []

-- at rate 1/2, X counts 2 and Y counts 1
half_pairs : (m : ℕ) (us bits : List ℕ) → length us ≡ length (coded_pairs 1632 0 m bits)
    → map coded_bits (sequenced us (coded_pairs 1632 0 m bits)) ≡ symbols_of (coder_at 0 m) bits
unfolding coded_pairs sequenced symbols_by punctured_by held_by mode_of
half_pairs m [] [] e = refl
half_pairs m [] (b ∷ bs) e = absurd (omega arith)
half_pairs m (u ∷ us) [] e = absurd (omega arith)
half_pairs m (u ∷ us) (b ∷ bs) e =
    ap₂ (λ (v : ℕ) (l : List ℕ). v ∷ l) (read u (coded taps_x m b) (coded taps_y m b) (small _) (small _))
    (half_pairs (next_memory m b) us bs (omega arith))
  where
    small : (n : ℕ) → n % 2 < 2
    small n = omega arith

    read : (u x y : ℕ) → x < 2 → y < 2 → 2 * ((4 * u + (2 * y + x)) % 2) + (4 * u + (2 * y + x)) / 2 % 2 ≡ 2 * x + y
    read u x y h k = omega arith

-- The coded bits of a stream at 16QAM 3/4, X and Y of each symbol, are what rate 1/2 sends for the bytes A alone.
pub as_half : (bytes : List ℕ) → map coded_bits (stream_symbols (mode_of 5) bytes) ≡ stream_symbols (mode_of 0) (firsts 3 (length bytes / 3) bytes)
unfolding stream_symbols
as_half bytes =
    let n = length bytes / 3 in
    let first = firsts 3 n bytes in
    let w = bits_bits first in
    let us = group_digits 2 4 4 n bytes in
    let f = well_formed_lem 5 (omega arith) in
    let coded-symbols : symbols (mode_of 5) (encoded_bits (mode_of 5) bytes) ≡ coded_pairs 1632 0 0 (bits_of first)
    = ap (symbols (mode_of 5)) (encoded_grouped grouped_qam bytes) ∙ sym (symbols_fresh_by f 5 w) ∙ symbols_grouped grouped_qam f 5 0 (bits_of first) in
    let eight : length us ≡ 8 * n = length_joined n 8 _ (λ i. length_joined 2 4 _ (λ j. length_digits 4 4 (get_or bytes (3 * i + suc j) 0))) in
    let size : length us ≡ length (coded_pairs 1632 0 0 (bits_of first))
    = eight ∙ sym (length_pairs 1632 0 0 (bits_of first) ∙ length_bits first ∙ ap (λ (k : ℕ). 8 * k) (length_firsts 3 n bytes)) in
    ap₂ (λ (u c : List ℕ). map coded_bits (sequenced u c)) (uncoded_grouped grouped_qam bytes) coded-symbols
    ∙ half_pairs 0 us (bits_of first) size
    ∙ symbols_fresh 0 (omega arith) w
    ∙ sym (stream_qpsk 0 (omega arith) first)
