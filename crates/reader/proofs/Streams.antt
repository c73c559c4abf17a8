-- The symbols that a coder sends, cut into runs of whole patterns in any way and read one after the other, give the bits back.
-- Assumes nothing.
use mathlib.Core.Path.{◌≡◌, refl, sym, ◌∙◌, ap, ap₂, subst}
use mathlib.Core.List.{List, [], ◌∷◌, ◌++◌, flatten, append_assoc}
use Prim.Native.Nat.{ℕ, ◌+◌, ◌*◌, ◌/◌, ◌%◌, ◌<◌, ◌≤◌}
use native.Mathlib.Decide.{dec_lt}
use native.Mathlib.Nat.{zero-add, mul-zero, zero-div, mul-add, mul-add-div, mul-mod_right, mul-le-mul_left, mod-lt, div-add-mod, mul-suc, div-eq_of_lt}
use native.Mathlib.Omega.{arith}
use lib.ListN.{length, take, drop, length-append, take-append-drop}
use lib.Seq.{take_at, drop_at, take-add, length-take-le}
use Rattle.common.specs.Lists.{All}
use Rattle.convolutional_code.specs.Bits.{Bits}
use Rattle.convolutional_code.specs.Code.{memory_after, next_memory}
use Rattle.convolutional_code.proofs.Bits.{bits_take, bits_drop}
use Rattle.puncturing.specs.Mode.{qpsk_count}
use Rattle.puncturing.specs.Step.{pattern_length, symbols_in}
use Rattle.puncturing.proofs.Steps.{some_bits}
use Rattle.puncturing.proofs.Parts.{symbols_in_append, place_after, whole_count_lem, part_count}
use Rattle.inner_code.specs.Step.{symbols_of}
use Rattle.inner_code.specs.declared.InnerCoder.{InnerCoder}
use Rattle.inner_code.proofs.Coder.{length_symbols, symbols_append, coder_memory}
use Rattle.inner_code.specs.Encode.{coder_at}
use Rattle.reader.specs.Read.{symbols_per_pattern, length_of_run, ReadsHard}
use Rattle.reader.specs.Runs as runs
use Rattle.reader.specs.Runs.{Run, Readings}
use Rattle.reader.proofs.Patterns.{at_start, some_symbols, coder_whole, memory_in_range, run_whole}
use Rattle.reader.proofs.Laws.{unharmed}

-- ---- parts of a list of bits

pub memory_append : (m : ℕ) (a b : List ℕ) → memory_after m (a ++ b) ≡ memory_after (memory_after m a) b
unfolding memory_after
memory_append m [] b = refl
memory_append m (x ∷ a) b = memory_append (next_memory m x) a b

-- ---- how many symbols bits give

module _ (rate : ℕ) (hr : rate < qpsk_count) where
  abbrev p : ℕ
  p = pattern_length rate

  abbrev s : ℕ
  s = symbols_per_pattern rate

  -- those of the whole patterns, and fewer than a pattern's of the rest
  pub symbols_divided : (k : ℕ) → symbols_in rate 0 k ≡ s * (k / p) + symbols_in rate 0 (k % p)
  unfolding symbols_per_pattern
  symbols_divided k =
      ap (symbols_in rate 0) (sym (div-add-mod k p))
      ∙ (symbols_in_append rate 0 (p * (k / p)) (k % p)
      ∙ ap₂ (λ (a b : ℕ). a + b) (whole_count_lem rate (k / p) hr)
      (ap (λ (q : ℕ). symbols_in rate q (k % p)) (place_after rate 0 (p * (k / p)) (some_bits rate hr) ∙ (ap (λ (n : ℕ). n % p) (zero-add (p * (k / p))) ∙ mul-mod_right p (k / p)))))

  pub rest_few : (k : ℕ) → symbols_in rate 0 (k % p) < s
  unfolding symbols_per_pattern
  rest_few k = part_count rate (k % p) hr (mod-lt k (some_bits rate hr))

  -- bits that give the symbols of q patterns have q patterns
  enough : (k q : ℕ) → s * q ≤ symbols_in rate 0 k → p * q ≤ k
  enough k q h = by (dec_lt (k / p) q)
    where
      by : Dec (k / p < q) → p * q ≤ k
      by (yes l) =
          absurd (omega (arith, symbols_divided k, rest_few k, mul-le-mul_left s l, mul-suc s (k / p)))
      by (no l) = omega (arith, mul-le-mul_left p (le_of l), div-add-mod k p)
        where
          le_of : ¬ (k / p < q) → q ≤ k / p
          le_of n = omega arith

  -- ---- one run

  module _ (m : ℕ) (hm : m < 64) (bits : List ℕ) (w : Bits bits) (ss more' : List ℕ) (whole : length ss % s ≡ 0) (e : ss ++ more' ≡ symbols_of (coder_at rate m) bits) where
    abbrev n : ℕ
    n = length_of_run rate ss

    size : length ss ≡ s * (length ss / s)
    size = omega (arith, div-add-mod (length ss) s)

    pub fits : n ≤ length bits
    fits =
        enough (length bits) (length ss / s)
        (omega (arith, size, length-append ss more', ap length e, length_symbols (coder_at rate m) (at_start rate m hr hm) w))

    front_length : length (take n bits) ≡ n
    front_length = length-take-le n bits fits

    front_whole : length (take n bits) % p ≡ 0
    front_whole = ap (λ (k : ℕ). k % p) front_length ∙ run_whole rate hr (length ss)

    cut : symbols_of (coder_at rate m) (take n bits) ++ symbols_of (coder_at rate (memory_after m (take n bits))) (drop n bits) ≡ ss ++ more'
    cut =
        sym (
        e
        ∙ (ap (symbols_of (coder_at rate m)) (sym (take-append-drop n bits))
        ∙ (symbols_append (take n bits) (drop n bits) (coder_at rate m)
        ∙ ap (λ (c : InnerCoder). symbols_of (coder_at rate m) (take n bits) ++ symbols_of c (drop n bits)) (coder_whole rate m hr hm (bits_take n w) front_whole)))
        )

    front_symbols : length (symbols_of (coder_at rate m) (take n bits)) ≡ length ss
    unfolding symbols_per_pattern
    front_symbols =
        length_symbols (coder_at rate m) (at_start rate m hr hm) (bits_take n w)
        ∙ (ap (symbols_in rate 0) front_length ∙ (whole_count_lem rate (length ss / s) hr ∙ sym size))

    -- the run is the coding of the first bits, and what is behind it that of the others
    pub front_is : ss ≡ symbols_of (coder_at rate m) (take n bits)
    front_is =
        sym (take_at ss more' (length ss) refl)
        ∙ (ap (take (length ss)) (sym cut) ∙ take_at (symbols_of (coder_at rate m) (take n bits)) _ (length ss) front_symbols)

    pub back_is : more' ≡ symbols_of (coder_at rate (memory_after m (take n bits))) (drop n bits)
    back_is =
        sym (drop_at ss more' (length ss) refl)
        ∙ (ap (drop (length ss)) (sym cut) ∙ drop_at (symbols_of (coder_at rate m) (take n bits)) _ (length ss) front_symbols)

    -- what reading it gives
    pub read_front : n ≤ 1632 → (output : List ℕ) → n ≤ length output → {number after cost count : ℕ} {left : List ℕ} → ReadsHard rate m ss output number after cost count left
        → (take count left ≡ take n bits) × (cost ≡ 0) × (after ≡ memory_after m (take n bits))
    read_front most output long {count = count} {left = left} r =
        let b = unharmed rate m hr hm (take n bits) (bits_take n w) front_whole (omega (arith, front_length)) ss front_is output (omega (arith, front_length)) r in (
          ap₂ take b.counted b.written ∙ take_at (take n bits) _ (length (take n bits)) refl,
          b.nothing,
          b.memory ∙ coder_memory (coder_at rate m) (take n bits),
        )

  -- the bits of two lists of symbols, where the first is whole patterns
  run_append : (a b : List ℕ) → length a % s ≡ 0 → length_of_run rate (a ++ b) ≡ length_of_run rate a + length_of_run rate b
  run_append a b e =
      let q : length a ≡ s * (length a / s) = omega (arith, div-add-mod (length a) s) in
      ap (λ (k : ℕ). p * (k / s)) (length-append a b ∙ ap (λ (k : ℕ). k + length b) q)
      ∙ (ap (λ (k : ℕ). p * k) (mul-add-div (some_symbols rate hr) (length a / s) (length b)) ∙ mul-add p (length a / s) (length b / s))

  -- Over a stream: the symbols of bits, cut into runs of whole patterns in any way, with anything left behind the last of them, each run read with
  -- the memory that the one before gave, give those bits as far as the runs go, at no cost; and the memory is the coder's there.
  pub stream_read : (m : ℕ) → m < 64 → (bits : List ℕ) → Bits bits → (rs : List (List ℕ)) → All (Run rate) rs → (rest : List ℕ)
      → flatten rs ++ rest ≡ symbols_of (coder_at rate m) bits → {out : List ℕ} {cost last : ℕ} → Readings rate m rs out cost last
      → (out ≡ take (length_of_run rate (flatten rs)) bits) × (cost ≡ 0) × (last ≡ memory_after m (take (length_of_run rate (flatten rs)) bits))
  unfolding flatten memory_after
  stream_read m hm bits w [] g rest e runs.none =
      let z : length_of_run rate [] ≡ 0 = ap (λ (k : ℕ). p * k) (zero-div s) ∙ mul-zero p in
      (rw z refl, refl, rw z refl)
  stream_read m hm bits w (ss ∷ rs) g rest e (runs.run {last = end} {bits = out} {rest = later} output left number cost count long r t) =
      let e' : ss ++ (flatten rs ++ rest) ≡ symbols_of (coder_at rate m) bits = sym (append_assoc ss (flatten rs) rest) ∙ e in
      let n = length_of_run rate ss in
      let k = length_of_run rate (flatten rs) in
      let a = read_front m hm bits w ss (flatten rs ++ rest) g.0.whole e' g.0.most output long r in
      let m' = memory_after m (take n bits) in
      let hm' = memory_in_range rate m hr hm (bits_take n w) in
      let b = stream_read m' hm' (drop n bits) (bits_drop n w) rs g.1 rest (back_is m hm bits w ss (flatten rs ++ rest) g.0.whole e')
      (subst (λ (x : ℕ). Readings rate x rs out later end) a.2 t) in
      let j : take (length_of_run rate (ss ++ flatten rs)) bits ≡ take n bits ++ take k (drop n bits) =
      ap (λ (x : ℕ). take x bits) (run_append ss (flatten rs) g.0.whole) ∙ take-add n k bits in (
        ap₂ (λ (x y : List ℕ). x ++ y) a.0 b.0 ∙ sym j,
        omega (arith, a.1, b.1),
        b.2 ∙ (sym (memory_append m (take n bits) (take k (drop n bits))) ∙ ap (memory_after m) (sym j)),
      )

  -- where less than a pattern is left behind the runs, they go as far as the last whole pattern of the bits
  pub up_to_last : (m : ℕ) → m < 64 → (bits : List ℕ) → Bits bits → (ss rest : List ℕ) → length ss % s ≡ 0 → length rest < s
      → ss ++ rest ≡ symbols_of (coder_at rate m) bits → length_of_run rate ss ≡ p * (length bits / p)
  up_to_last m hm bits w ss rest whole few e =
      ap (λ (k : ℕ). p * k) (same (length ss / s) (length bits / p) (length rest) (symbols_in rate 0 (length bits % p)) few (rest_few (length bits))
      (omega (arith, div-add-mod (length ss) s, length-append ss rest, ap length e, length_symbols (coder_at rate m) (at_start rate m hr hm) w, symbols_divided (length bits))))
    where
      same : (x y a b : ℕ) → a < s → b < s → s * x + a ≡ s * y + b → x ≡ y
      same x y a b ha hb q =
          let l : (s * x + a) / s ≡ x = mul-add-div (some_symbols rate hr) x a ∙ small a x ha in
          let r : (s * y + b) / s ≡ y = mul-add-div (some_symbols rate hr) y b ∙ small b y hb in
          sym l ∙ (ap (λ (k : ℕ). k / s) q ∙ r)
        where
          small : (a x : ℕ) → a < s → x + a / s ≡ x
          small a x h = let z : a / s ≡ 0 = div-eq_of_lt h in omega arith
