-- Rain on symbols: where harmed symbols lie close together wherever they are not far apart, the wrong bytes of what is read lie within 96, so that every block
-- that is whole is corrected to what was sent.
-- Assumes nothing.
use mathlib.Core.Path.{◌≡◌, sym, ap, ◌∙◌, subst}
use mathlib.Core.Bool.{Bool}
use mathlib.Core.List.{List, [], ◌∷◌, flatten}
use mathlib.Core.Logic.{◌⊎◌, inl, inr}
use Prim.{tt}
use Prim.Native.Nat.{ℕ, zero, suc, ◌+◌, ◌-◌, ◌*◌, ◌/◌, ◌%◌, ◌≤◌, ◌<◌}
use native.Mathlib.Decide.{dec_le, dec_lt}
use native.Mathlib.Nat.{div-add-mod, mod-lt, mul-le-mul_left}
use native.Mathlib.Omega.{arith}
use lib.ListN.{length, get_or, take, drop}
use lib.Seq.{get_or-take, get_or-drop, drop-drop, take_all, take-length, length-take-le}
use Rattle.common.specs.Lists.{All, Bytes, Length, chunks, chunks_of}
use Rattle.common.proofs.Lists.{get_d_map_in}
use Rattle.common.proofs.Chunks.{length-chunks, chunks_whole}
use Rattle.convolutional_code.specs.Bits.{bits_of}
use Rattle.convolutional_code.proofs.Bits.{length_bits}
use Rattle.bit_packing.specs.Packing.{byte_of, packed_bytes}
use Rattle.bit_packing.proofs.Bytes.{bytes_back, length_bytes}
use Rattle.puncturing.specs.Step.{pattern_length}
use Rattle.interleaver.proofs.BlockLists.{flatten_at, length-flatten}
use Rattle.reader.specs.Read.{symbols_per_pattern}
use Rattle.link.specs.Burst.{Wrong, Burst, Bursts}
use Rattle.noise_tolerance.proofs.FirstDifference.{First, first_or}
use Rattle.noise_tolerance.specs.Harm.{HarmedAt, Gathered, Spoils, harm_distance, NearHarm}

-- ---- bytes by their bits

chunk_at : (size n : ℕ) (l : List ℕ) (i : ℕ) → i < n → get_or (chunks size n l) i [] ≡ take size (drop (size * i) l)
unfolding chunks
chunk_at size zero l i h = absurd (omega arith)
chunk_at size (suc n) l zero h = let z : size * 0 ≡ 0 = omega arith in ap (λ (k : ℕ). take size (drop k l)) (sym z)
chunk_at size (suc n) l (suc i) h =
    let z : size + size * i ≡ size * suc i = omega arith in
    chunk_at size n (drop size l) i (omega arith) ∙ ap (take size) (drop-drop (size * i) size l ∙ ap (λ (k : ℕ). drop k l) z)

chunk_of : (size : ℕ) (l : List ℕ) (i : ℕ) → i < length l / size → get_or (chunks_of size l) i [] ≡ take size (drop (size * i) l)
unfolding chunks_of
chunk_of size l i h = chunk_at size (length l / size) l i h

-- byte i of those that bits make
abbrev byte_at : List ℕ → ℕ → ℕ
byte_at bits i = byte_of (take 8 (drop (8 * i) bits))

packed_at : (bits : List ℕ) (i : ℕ) → i < length bits / 8 → get_or (packed_bytes bits) i 0 ≡ byte_at bits i
unfolding packed_bytes
packed_at bits i h =
    get_d_map_in byte_of (chunks_of 8 bits) [] 0 i (omega (arith, length-chunks 8 bits)) ∙ ap byte_of (chunk_of 8 bits i h)

bit_of_lem : (bits : List ℕ) (i j : ℕ) → j < 8 → get_or (take 8 (drop (8 * i) bits)) j 0 ≡ get_or bits (8 * i + j) 0
bit_of_lem bits i j h = get_or-take 8 (drop (8 * i) bits) j 0 h ∙ get_or-drop (8 * i) bits j 0

-- bytes whose bits agree are one
same_byte : (xs ys : List ℕ) (i : ℕ) → ((j : ℕ) → j < 8 → get_or xs (8 * i + j) 0 ≡ get_or ys (8 * i + j) 0) → byte_at xs i ≡ byte_at ys i
same_byte xs ys i h =
    λ t. 128 * bit 0 (omega arith) t + 64 * bit 1 (omega arith) t + 32 * bit 2 (omega arith) t + 16 * bit 3 (omega arith) t + 8 * bit 4 (omega arith) t + 4 * bit 5 (omega arith) t
    + 2 * bit 6 (omega arith) t + bit 7 (omega arith) t
  where
    bit : (j : ℕ) → j < 8 → get_or (take 8 (drop (8 * i) xs)) j 0 ≡ get_or (take 8 (drop (8 * i) ys)) j 0
    bit j l = bit_of_lem xs i j l ∙ h j l ∙ sym (bit_of_lem ys i j l)

-- ---- wrong bits near harm are near each other

-- so many bits hold the harm and what it spoils: no more than 96 bytes have wherever they begin
pub record Close (rate : ℕ) (l : Spoils) : Type 0 where
  pub span : ℕ
  pub spans : l.longest + symbols_per_pattern rate ≤ symbols_per_pattern rate * span + 1
  pub close : pattern_length rate * span + (l.ahead + l.behind) ≤ 761
  pub some_symbols : 0 < symbols_per_pattern rate
  pub some_bits : 0 < pattern_length rate
  pub few_bits : pattern_length rate ≤ 7

module _ {R : Type 0} (harmed : R → Bool) (rate : ℕ) (l : Spoils) (c : Close rate l) (points : List R) (gathered : Gathered harmed (harm_distance rate) l.longest points) where
  abbrev P : ℕ
  P = pattern_length rate

  abbrev S : ℕ
  S = symbols_per_pattern rate

  -- two harmed symbols whose patterns are not far apart: the later one's ends within the span from where the earlier one's begins
  module _ (e f : ℕ) (he : HarmedAt harmed points e) (hf : HarmedAt harmed points f) (near : P * (f / S) ≤ P * (e / S) + 21200) where
    de : S * (e / S) + e % S ≡ e
    de = div-add-mod e S

    df : S * (f / S) + f % S ≡ f
    df = div-add-mod f S

    me : e % S < S
    me = mod-lt e c.some_symbols

    mf : f % S < S
    mf = mod-lt f c.some_symbols

    apart : f / S < e / S + 21216 / P
    apart = at (dec_lt (f / S) (e / S + 21216 / P))
      where
        at : Dec (f / S < e / S + 21216 / P) → f / S < e / S + 21216 / P
        at (yes d) = d
        at (no d) =
            absurd (omega (arith, mul-le-mul_left P (over d), near, div-add-mod 21216 P, mod-lt 21216 c.some_bits, c.few_bits))
          where
            over : ¬ (f / S < e / S + 21216 / P) → e / S + 21216 / P ≤ f / S
            over d = omega arith

    one : f < e + l.longest
    one = at (dec_le e f)
      where
        at : Dec (e ≤ f) → f < e + l.longest
        at (yes h) = gathered e f h (omega (arith, mul-le-mul_left S apart, de, df, mf)) he hf
        at (no h) = omega arith

    spanned : suc (f / S) ≤ e / S + c.span
    spanned = at (dec_le (suc (f / S)) (e / S + c.span))
      where
        at : Dec (suc (f / S) ≤ e / S + c.span) → suc (f / S) ≤ e / S + c.span
        at (yes d) = d
        at (no d) = absurd (omega (arith, mul-le-mul_left S (over d), de, df, me, one, c.spans))
          where
            over : ¬ (suc (f / S) ≤ e / S + c.span) → e / S + c.span ≤ f / S
            over d = omega arith

    linked : P * suc (f / S) ≤ P * (e / S) + P * c.span
    linked = omega (arith, mul-le-mul_left P spanned)

  -- two wrong bits within 2,448 bytes and some
  bits_close : (x y : ℕ) → y ≤ x + 19592 → NearHarm harmed rate l points x → NearHarm harmed rate l points y → y < x + 761
  bits_close x y near a b =
      let d = a.beside in
      let e = b.beside in
      let u = linked d.earliest d.latest d.earliest_harmed d.latest_harmed (omega (arith, a.not_beyond, a.not_far)) in
      let v = linked e.earliest e.latest e.earliest_harmed e.latest_harmed (omega (arith, b.not_beyond, b.not_far)) in
      let z = linked d.earliest e.latest d.earliest_harmed e.latest_harmed
      (omega (arith, u, v, d.not_early, e.not_late, near, c.close)) in
      omega (arith, z, e.not_early, d.not_late, c.close)

  -- ---- wrong bytes lie within 96

  module _ (sent read : List ℕ) (bytes : Bytes sent) (unsure n : ℕ) (fits : length read ≤ length (bits_of sent)) (whole : 1632 * n + unsure ≤ length read)
      (wrong : (i : ℕ) → i < length read → (get_or (bits_of sent) i 0 ≡ get_or read i 0 → ⊥) → (NearHarm harmed rate l points i) ⊎ (length read ≤ i + unsure)) where
    abbrev blocks : List (List ℕ)
    blocks = take n (chunks_of 204 (packed_bytes read))

    many : n ≤ length (chunks_of 204 (packed_bytes read))
    many = omega (arith, length-chunks 204 (packed_bytes read), length_bytes read)

    pub blocks_whole : All (Length 204) (take n (chunks_of 204 (packed_bytes read)))
    blocks_whole = All-take n (chunks_of 204 (packed_bytes read)) (chunks_whole 204 (packed_bytes read))
      where
        All-take : (k : ℕ) (xs : List (List ℕ)) → All (Length 204) xs → All (Length 204) (take k xs)
        All-take zero xs g = tt
        All-take (suc k) [] g = tt
        All-take (suc k) (x ∷ xs) g = (g.0, All-take k xs g.1)

    pub blocks_count : length (take n (chunks_of 204 (packed_bytes read))) ≡ n
    blocks_count = length-take-le n (chunks_of 204 (packed_bytes read)) many

    received_at : (i : ℕ) → i < 204 * n → get_or (flatten blocks) i 0 ≡ byte_at read i
    received_at i h =
        let b = i / 204 in
        let r = i % 204 in
        let d : 204 * b + r ≡ i = div-add-mod i 204 in
        let hb : b < n = omega arith in
        ap (λ (k : ℕ). get_or (flatten blocks) k 0) (sym d)
        ∙ (flatten_at blocks blocks_whole b r (omega (arith, blocks_count)) (mod-lt i (omega arith))
        ∙ (ap (λ (x : List ℕ). get_or x r 0)
        (get_or-take n (chunks_of 204 (packed_bytes read)) b [] hb ∙ chunk_of 204 (packed_bytes read) b (omega (arith, length_bytes read)))
        ∙ (get_or-take 204 (drop (204 * b) (packed_bytes read)) r 0 (mod-lt i (omega arith)) ∙ get_or-drop (204 * b) (packed_bytes read) r 0)))
        ∙ ap (λ (k : ℕ). get_or (packed_bytes read) k 0) d
        ∙ packed_at read i (omega (arith, length_bytes read))

    sent_at_lem : (i : ℕ) → i < 204 * n → get_or sent i 0 ≡ byte_at (bits_of sent) i
    sent_at_lem i h =
        let len = length_bits sent in
        let e : packed_bytes (take (length (bits_of sent)) (bits_of sent)) ≡ take (length (bits_of sent) / 8) sent = bytes_back sent bytes (length (bits_of sent)) (omega arith) in
        let t : packed_bytes (bits_of sent) ≡ sent =
        ap packed_bytes (sym (take-length (bits_of sent))) ∙ e ∙ take_all (length (bits_of sent) / 8) sent (omega (arith, len)) in
        ap (λ (x : List ℕ). get_or x i 0) (sym t) ∙ packed_at (bits_of sent) i (omega arith)

    -- a wrong byte has a wrong bit, near harm
    wrong_byte : (i : ℕ) → i < 204 * n → Wrong sent (flatten blocks) i → First (λ j. get_or (bits_of sent) (8 * i + j) 0) (λ j. get_or read (8 * i + j) 0) 8
    wrong_byte i h d = by (first_or (λ j. get_or (bits_of sent) (8 * i + j) 0) (λ j. get_or read (8 * i + j) 0) 8)
      where
        by : ((j : ℕ) → j < 8 → get_or (bits_of sent) (8 * i + j) 0 ≡ get_or read (8 * i + j) 0) ⊎ (First (λ j. get_or (bits_of sent) (8 * i + j) 0) (λ j. get_or read (8 * i + j) 0) 8)
            → First (λ j. get_or (bits_of sent) (8 * i + j) 0) (λ j. get_or read (8 * i + j) 0) 8
        by (inr x) = x
        by (inl x) = absurd (d (sent_at_lem i h ∙ (same_byte (bits_of sent) read i x ∙ sym (received_at i h))))

    near_bit : (i j : ℕ) → i < 204 * n → j < 8 → (get_or (bits_of sent) (8 * i + j) 0 ≡ get_or read (8 * i + j) 0 → ⊥) → NearHarm harmed rate l points (8 * i + j)
    near_bit i j h m d = by (wrong (8 * i + j) (omega arith) d)
      where
        by : (NearHarm harmed rate l points (8 * i + j)) ⊎ (length read ≤ 8 * i + j + unsure) → NearHarm harmed rate l points (8 * i + j)
        by (inl x) = x
        by (inr x) = absurd (omega arith)

    bytes_close : (i k : ℕ) → i < 204 * n → k < 204 * n → k < i + 2448 → Wrong sent (flatten blocks) i → Wrong sent (flatten blocks) k → k < i + 96
    bytes_close i k hi hk near di dk =
        let a = wrong_byte i hi di in
        let b = wrong_byte k hk dk in
        let z = bits_close (8 * i + a.place) (8 * k + b.place) (omega (arith, b.below)) (near_bit i a.place hi a.below a.unlike_there)
        (near_bit k b.place hk b.below b.unlike_there) in
        omega (arith, z, a.below)

    pub within_bursts : Bursts sent (flatten (take n (chunks_of 204 (packed_bytes read))))
    within_bursts a m h e = by (first_or (λ i. get_or sent (a + i) 0) (λ i. get_or (flatten blocks) (a + i) 0) m)
      where
        long : length (flatten blocks) ≡ 204 * n
        long = length-flatten 204 blocks blocks_whole ∙ ap (λ (k : ℕ). 204 * k) blocks_count

        back : (i : ℕ) → a ≤ i → a + (i - a) ≡ i
        back i h = omega arith

        by : ((i : ℕ) → i < m → get_or sent (a + i) 0 ≡ get_or (flatten blocks) (a + i) 0) ⊎ (First (λ i. get_or sent (a + i) 0) (λ i. get_or (flatten blocks) (a + i) 0) m) → Burst sent (flatten blocks) a m
        by (inl x) = record {
          start = a;
          covers = λ i o p d. absurd (d (subst (λ (k : ℕ). get_or sent k 0 ≡ get_or (flatten blocks) k 0) (back i o) (x (i - a) (omega arith))));
        }
        by (inr x) = record { start = a + x.place; covers = λ i o p d. (least i o d, bytes_close (a + x.place) i (omega (arith, x.below, long)) (omega (arith, long)) (omega (arith, h)) x.unlike_there d) }
          where
            least : (i : ℕ) → a ≤ i → Wrong sent (flatten blocks) i → a + x.place ≤ i
            least i o d = at (dec_le (a + x.place) i)
              where
                at : Dec (a + x.place ≤ i) → a + x.place ≤ i
                at (yes q) = q
                at (no q) = absurd (d (subst (λ (k : ℕ). get_or sent k 0 ≡ get_or (flatten blocks) k 0) (back i o) (x.alike_before (i - a) (omega arith))))
