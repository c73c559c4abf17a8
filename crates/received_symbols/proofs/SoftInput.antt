-- The f32 of a pattern, the points of some bytes, their numbers as two lists, and their pairs.
-- Assumes nothing.
use mathlib.Core.Bool.{Bool, true, false, not, ◌&&◌, true≢false}
use mathlib.Core.Path.{◌≡◌, refl, sym, ◌∙◌, ap, subst, ap₂}
use mathlib.Core.List.{List, [], ◌++◌, map, map-append, append_assoc}
use Prim.Native.Nat.{ℕ, zero, suc, ◌+◌, ◌-◌, ◌*◌, ◌/◌, ◌%◌, ◌≤◌, ◌<◌}
use native.Mathlib.Decide.{ℕ_discrete, dec_lt}
use native.Mathlib.Omega.{arith}
use borrow.Author.Tests.{eqb-true, eq-eqb, ne_eqb, lt-ltb, le-ltb}
use lib.Dec.{T, eqb, ltb}
use lib.Ieee.{nan, of_bits, of_fields, binary32, nan_bits, Float, is_nan}
use lib.ListN.{length, get_or, take, drop, length-append, length-drop, length-map, set, replicate, length-set, get_or-replicate}
use lib.Seq.{ext_get_or, get_or-take, get_or-drop, length-take-le, take_at, take-length, drop-drop, get_or-set_same, get_or-set_other}
use borrow.Rule.Slice.PartMut.{put_mid, mid_of}
use Rattle.std.specs.Prelude.{None}
use Rattle.common.specs.Choice.{pick}
use Rattle.common.specs.Lists.{All, chunks, chunks_of, rest_of}
use Rattle.common.proofs.Choice.{false_true}
use Rattle.common.proofs.Lists.{get_d_map_in}
use Rattle.common.proofs.Chunks.{length-chunks, chunks-append}
use Rattle.reader.proofs.Outcome.{not_true}
use Rattle.reader.proofs.SoftDecisions.{along_costed}
use Rattle.branch_metrics.specs.SoftPairs.{number_decision, symbol_pair, symbol_at}
use Rattle.branch_metrics.proofs.Runs.{along_small}
use Rattle.branch_metrics.specs.Cost.{softly, received}
use Rattle.reader.specs.Cost.{Costed}
use Rattle.reader_stream.specs.Stream.{FeedsReader}
use Rattle.reader_stream.specs.declared.ReaderStream.{ReaderStream}
use Rattle.received_symbols.specs.Pass.{Held, TakesAll, TakesBytes}
use Rattle.received_symbols.specs.declared.SymbolPass.{SymbolPass}
use Rattle.received_symbols.specs.Received.{point_of, point_at, points_of, pairs_of, number, point}

-- ---- the patterns of NaNs

-- by the fields of the exponent and of the digits
fields_nan : (s : Bool) (x t : ℕ) → x ≡ 255 → eqb t 0 ≡ false → of_fields binary32 s x t ≡ nan
unfolding of_fields
fields_nan s zero t e h = absurd (omega arith)
fields_nan s (suc x) t e h = rw (eq-eqb (suc x) 255 e, h) refl

both_of : (a b : Bool) → (a && b) ≡ true → (a ≡ true) × (b ≡ true)
both_of true b e = (refl, e)
both_of false b e = false_true e

-- every pattern of a NaN is one
pub nan_pattern : (b : ℕ) → nan_bits binary32 b ≡ true → of_bits binary32 b ≡ nan
unfolding of_bits nan_bits
nan_pattern b e =
    let p = both_of _ _ e in
    fields_nan _ (b % 2147483648 / 8388608) (b % 8388608) (eqb-true _ _ p.0) (not_true (eqb (b % 8388608) 0) p.1)

-- without the sign, they are the patterns above that of the infinity
pub above_infinity : (b : ℕ) → ltb 2139095040 (b % 2147483648) ≡ nan_bits binary32 b
unfolding nan_bits
above_infinity b = by (dec_lt 2139095040 (b % 2147483648))
  where
    low : b % 2147483648 ≤ 2139095040 → Dec (b % 2147483648 / 8388608 ≡ 255) → (eqb (b % 2147483648 / 8388608) 255 && not (eqb (b % 8388608) 0)) ≡ false
    low h (yes x) =
        let t : b % 8388608 ≡ 0 = omega arith in
        simp (eq-eqb (b % 2147483648 / 8388608) 255 x, eq-eqb (b % 8388608) 0 t)
    low h (no x) = simp (ne_eqb (b % 2147483648 / 8388608) 255 x)

    by : Dec (2139095040 < b % 2147483648) → ltb 2139095040 (b % 2147483648) ≡ (eqb (b % 2147483648 / 8388608) 255 && not (eqb (b % 8388608) 0))
    by (yes h) =
        let x : b % 2147483648 / 8388608 ≡ 255 = omega arith in
        let t : b % 8388608 ≡ 0 → ⊥ = λ z. absurd (omega arith) in
        lt-ltb 2139095040 (b % 2147483648) h ∙ sym (simp (eq-eqb (b % 2147483648 / 8388608) 255 x, ne_eqb (b % 8388608) 0 t))
    by (no h) = let l : b % 2147483648 ≤ 2139095040 = omega arith in le-ltb 2139095040 (b % 2147483648) l ∙ sym (low l (ℕ_discrete (b % 2147483648 / 8388608) 255))

-- every other pattern is that of one number
pub no_nan : (t : Bool) → t ≡ false → T (not t)
no_nan true e = false_true (sym e)
no_nan false e = tt

-- ---- the whole points of some bytes, by their places

chunk_at : (n k : ℕ) (l : List ℕ) → k < n → get_or (chunks 8 n l) k [] ≡ take 8 (drop (8 * k) l)
unfolding chunks
chunk_at zero k l h = absurd (omega arith)
chunk_at (suc n) zero l h = refl
chunk_at (suc n) (suc k) l h =
    let e : 8 + 8 * k ≡ 8 * suc k = omega arith in
    chunk_at n k (drop 8 l) (omega arith) ∙ ap (take 8) (drop-drop (8 * k) 8 l ∙ ap (λ (j : ℕ). drop j l) e)

chunk_point : (bytes : List ℕ) (k : ℕ) → point_of (take 8 (drop (8 * k) bytes)) ≡ point_at bytes k
chunk_point bytes k =
    let at : (j : ℕ) → j < 8 → get_or (take 8 (drop (8 * k) bytes)) j 0 ≡ get_or bytes (8 * k + j) 0
    = λ j h. get_or-take 8 (drop (8 * k) bytes) j 0 h ∙ get_or-drop (8 * k) bytes j 0 in
    let e0 : 8 * k + 0 ≡ 8 * k = omega arith in
    let e5 : 8 * k + 4 + 1 ≡ 8 * k + 5 = omega arith in
    let e6 : 8 * k + 4 + 2 ≡ 8 * k + 6 = omega arith in
    let e7 : 8 * k + 4 + 3 ≡ 8 * k + 7 = omega arith in
    rw (
      at 0 (omega arith),
      at 1 (omega arith),
      at 2 (omega arith),
      at 3 (omega arith),
      at 4 (omega arith),
      at 5 (omega arith),
      at 6 (omega arith),
      at 7 (omega arith),
      e0,
      e5,
      e6,
      e7,
    )

points_length : (bytes : List ℕ) → length (points_of bytes) ≡ length bytes / 8
points_length bytes = length-map (chunks_of 8 bytes) point_of ∙ length-chunks 8 bytes

points_at : (bytes : List ℕ) (i : ℕ) → i < length bytes / 8 → get_or (points_of bytes) i None ≡ point_at bytes i
unfolding chunks_of
points_at bytes i h =
    get_d_map_in point_of (chunks_of 8 bytes) [] None i (omega (arith, length-chunks 8 bytes))
    ∙ ap point_of (chunk_at (length bytes / 8) i bytes h) ∙ chunk_point bytes i

-- the decisions on points behind whole points
pub pairs_append : (a b : List ℕ) → length a % 8 ≡ 0 → pairs_of (a ++ b) ≡ pairs_of a ++ pairs_of b
pairs_append a b e =
    ap (λ (l : List (List ℕ)). map symbol_pair (map point_of l)) (chunks-append 8 (omega arith) a b e)
    ∙ ap (map symbol_pair) (map-append point_of (chunks_of 8 a) (chunks_of 8 b)) ∙ map-append symbol_pair (points_of a) (points_of b)

pub pairs_length : (bytes : List ℕ) → length (pairs_of bytes) ≡ length bytes / 8
pairs_length bytes = length-map (points_of bytes) symbol_pair ∙ points_length bytes

-- ---- their numbers as two lists

-- so many points' numbers are read, one of each
pub record NumbersRead (bytes : List ℕ) (at size : ℕ) (numbers : List Float) (n : ℕ) : Type 0 where
  pub len : length numbers ≡ size
  pub each : (t : ℕ) → t < n → get_or numbers t nan ≡ number bytes (at + 8 * t)

pub number_more : (bytes : List ℕ) (at : ℕ) {size : ℕ} {numbers : List Float} {n : ℕ} (x : Float) → n < size → x ≡ number bytes (at + 8 * n)
    → NumbersRead bytes at size numbers n → NumbersRead bytes at size (set numbers n x) (n + 1)
number_more bytes at {size} {numbers} {n} x h p r = record { len = length-set numbers n x ∙ r.len; each = λ t l. by t l (ℕ_discrete t n) }
  where
    by : (t : ℕ) → t < n + 1 → Dec (t ≡ n) → get_or (set numbers n x) t nan ≡ number bytes (at + 8 * t)
    by t l (yes e) =
        subst (λ (j : ℕ). get_or (set numbers n x) j nan ≡ number bytes (at + 8 * j)) (sym e) (get_or-set_same numbers n x nan (omega (arith, r.len)) ∙ p)
    by t l (no e) = get_or-set_other numbers n t x nan e ∙ r.each t (omega arith)

-- two NaNs have the decisions of a lost symbol
point_pair : (i q : Float) → symbol_pair (received i q 0) ≡ symbol_pair (point i q)
unfolding symbol_pair number_decision
point_pair i q = by (is_nan i) (is_nan q) refl refl
  where
    by : (a b : Bool) → is_nan i ≡ a → is_nan q ≡ b → symbol_pair (received i q 0) ≡ symbol_pair (pick a (pick b None (received i q 0)) (received i q 0))
    by true true e f = rw (e, f) refl
    by true false e f = refl
    by false true e f = refl
    by false false e f = refl

-- no symbol of the lists is marked
abbrev unmarked : List ℕ
unmarked = replicate 256 0

pub marks_length : (count : ℕ) → count ≤ 256 → length (take count unmarked) ≡ count
marks_length count h = length-take-le count unmarked h

-- their pairs are those of the points
pub lists_pair : (bytes : List ℕ) (first count : ℕ) (is qs : List Float) → count ≤ 256
    → ((t : ℕ) → t < count → get_or is t nan ≡ number bytes (8 * first + 8 * t)) → ((t : ℕ) → t < count → get_or qs t nan ≡ number bytes (8 * first + 4 + 8 * t))
    → (t : ℕ) → t < count → symbol_pair (symbol_at (take count is) (take count qs) (take count unmarked) t) ≡ symbol_pair (point_at bytes (first + t))
lists_pair bytes first count is qs most wi wq t h =
    let ei : 8 * first + 8 * t ≡ 8 * (first + t) = omega arith in
    let eq : 8 * first + 4 + 8 * t ≡ 8 * (first + t) + 4 = omega arith in
    let i : get_or (take count is) t nan ≡ number bytes (8 * (first + t)) = get_or-take count is t nan h ∙ (wi t h ∙ ap (number bytes) ei) in
    let q : get_or (take count qs) t nan ≡ number bytes (8 * (first + t) + 4) = get_or-take count qs t nan h ∙ (wq t h ∙ ap (number bytes) eq) in
    let within : t < 256 = omega arith in
    let m : get_or (take count unmarked) t 0 ≡ 0 = get_or-take count unmarked t 0 h ∙ get_or-replicate {A = ℕ} 256 t 0 0 within in
    ap₂ (λ (x y : Float). symbol_pair (received x y (get_or (take count unmarked) t 0))) i q
    ∙ ap (λ (k : ℕ). symbol_pair (received (number bytes (8 * (first + t))) (number bytes (8 * (first + t) + 4)) k)) m
    ∙ point_pair (number bytes (8 * (first + t))) (number bytes (8 * (first + t) + 4))

-- ---- their pairs

-- a part of the output, and some pairs that are written there
module _ (k n : ℕ) (output : List ℕ) where
  pub part_length : k + n ≤ length output → length (mid_of k (k + n - k) output) ≡ n
  part_length h = length-take-le (k + n - k) (drop k output) (omega (arith, length-drop k output)) ∙ omega arith

  pub part_put : (pairs : List ℕ) → length pairs ≡ n → put_mid k (k + n - k) output pairs ≡ take k output ++ pairs ++ drop (k + length pairs) output
  part_put pairs l =
      let e : k + (k + n - k) ≡ k + length pairs = omega (arith, l) in
      ap (λ (rest : List ℕ). take k output ++ (pairs ++ rest)) (drop-drop (k + n - k) k output ∙ ap (λ (j : ℕ). drop j output) e)
      ∙ sym (append_assoc (take k output) pairs (drop (k + length pairs) output))

module _ (bytes pairs : List ℕ) (w : (t : ℕ) → t < length bytes / 8 → get_or pairs t 0 ≡ symbol_pair (point_at bytes t)) (long : length bytes / 8 ≤ length pairs) where
  abbrev n : ℕ
  n = length bytes / 8

  pub points_small : All (λ p. p < 81) (take n pairs)
  points_small = along_small (point_at bytes) n pairs long w

  pub pairs_are : take n pairs ≡ pairs_of bytes
  pairs_are =
      let k : length (take n pairs) ≡ n = length-take-le n pairs long in
      ext_get_or 0 (take n pairs) (pairs_of bytes) (k ∙ sym (pairs_length bytes))
      (λ i h.
      get_or-take n pairs i 0 (omega (arith, k)) ∙ w i (omega (arith, k))
      ∙ sym (get_d_map_in symbol_pair (points_of bytes) None 0 i (omega (arith, k, points_length bytes)) ∙ ap symbol_pair (points_at bytes i (omega (arith, k)))))

  pub points_costed : Costed softly (points_of bytes) (take n pairs)
  points_costed = along_costed (point_at bytes) (points_of bytes) n (points_length bytes) (points_at bytes) pairs long w

-- ---- the bytes that make no whole point

module _ (bytes tail next : List ℕ) (size : length tail ≡ 8) where
  abbrev whole : ℕ
  whole = 8 * (length bytes / 8)

  abbrev rest : List ℕ
  rest = take (length bytes - whole) (drop whole bytes)

  rest-length : length rest ≡ length bytes % 8
  rest-length = length-take-le (length bytes - whole) (drop whole bytes) (omega (arith, length-drop whole bytes)) ∙ omega arith

  module _ (e : next ≡ rest ++ drop (0 + length rest) tail) where
    pub tail_length : length next ≡ 8
    tail_length = ap length e ∙ omega (arith, length-append rest (drop (0 + length rest) tail), length-drop (0 + length rest) tail, rest-length)

    pub tail_is : take (length bytes % 8) next ≡ rest_of 8 bytes
    unfolding rest_of
    tail_is =
        let k : whole ≡ length bytes - length bytes % 8 = omega arith in
        let n : length bytes - whole ≡ length (drop whole bytes) = sym (length-drop whole bytes) in
        ap (take (length bytes % 8)) e
        ∙ (take_at rest (drop (0 + length rest) tail) (length bytes % 8) rest-length ∙ (ap (λ (k : ℕ). take k (drop whole bytes)) n ∙ take-length (drop whole bytes)))
        ∙ ap (λ (j : ℕ). drop j bytes) k

-- ---- what is taken

-- all of the bytes
pub points_taken : (s : ReaderStream) (bytes output : List ℕ) (next : SymbolPass) (count : ℕ) {pairs exit : List ℕ} → Costed softly (points_of bytes) pairs
    → FeedsReader s pairs output next.stream count exit → Held true next bytes
    → TakesBytes true s bytes output (record { pass = next; taken = length bytes; stopped = false; count = count }) exit
points_taken s bytes output next count {pairs} {exit} c f h = record {
  most = omega arith;
  takes =
      subst (λ (l : List ℕ). TakesAll true s l output next count exit) (sym (take-length bytes))
      (record { valid = tt; pairs = pairs; costed = c; fed = f; holds = h });
  all = λ e. refl;
  stops = λ e. absurd (true≢false (sym e));
}
