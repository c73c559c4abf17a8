-- Bits that fill bytes: eight of them are a byte by two products, and a byte more is written behind those before it.
-- Assumes nothing.
use mathlib.Core.Path.{◌≡◌, sym, ap, ap₂, ◌∙◌}
use mathlib.Core.List.{List, [], ◌∷◌, ◌++◌, map, map-append}
use Prim.Native.Nat.{ℕ, suc, ◌+◌, ◌*◌, ◌%◌, ◌≤◌, ◌<◌}
use native.Mathlib.Numerals.{add-one}
use native.Mathlib.Omega.{arith}
use lib.ListN.{length, get_or, take, drop, set, length-drop}
use lib.Seq.{take-add, take_all, length-take-le, get_or-take, get_or-drop, drop-cons, append_snoc, set_at}
use Rattle.common.specs.Lists.{chunks_of}
use Rattle.common.proofs.Chunks.{chunks_few, chunks_more, chunks-append}
use Rattle.bit_packing.specs.Packing.{byte_of, packed_bytes}
use Rattle.bit_packing.proofs.Bytes.{length_bytes}

-- ---- four bits

-- ---- eight bits

-- a list of eight bits is one byte
packed_eight : (l : List ℕ) → length l ≡ 8 → packed_bytes l ≡ byte_of l ∷ []
unfolding packed_bytes
packed_eight l n =
    ap (map byte_of) (chunks_more 8 (omega arith) l (omega arith))
    ∙ ap (λ (cs : List (List ℕ)). byte_of (take 8 l) ∷ map byte_of cs) (chunks_few 8 (omega arith) (drop 8 l) (omega (arith, length-drop 8 l)))
    ∙ ap (λ (x : List ℕ). byte_of x ∷ []) (take_all 8 l (omega arith))

-- that of eight bits from a place on, by its upper four and its lower four
eight_at : (bits : List ℕ) (n : ℕ)
    → byte_of (take 8 (drop n bits))
    ≡ 16 * (8 * get_or bits n 0 + 4 * get_or bits (n + 1) 0 + 2 * get_or bits (n + 2) 0 + get_or bits (n + 3) 0)
    + (8 * get_or bits (n + 4) 0 + 4 * get_or bits (n + 4 + 1) 0 + 2 * get_or bits (n + 4 + 2) 0 + get_or bits (n + 4 + 3) 0)
eight_at bits n =
    let e : (j : ℕ) → j < 8 → get_or (take 8 (drop n bits)) j 0 ≡ get_or bits (n + j) 0 = λ j h. get_or-take 8 (drop n bits) j 0 h ∙ get_or-drop n bits j 0 in
    let same : (j k : ℕ) → j ≡ k → get_or bits j 0 ≡ get_or bits k 0 = λ j k p. ap (λ (i : ℕ). get_or bits i 0) p in
    let e0 = e 0 (omega arith) ∙ same (n + 0) n (omega arith) in
    let e5 = e 5 (omega arith) ∙ same (n + 5) (n + 4 + 1) (omega arith) in
    let e6 = e 6 (omega arith) ∙ same (n + 6) (n + 4 + 2) (omega arith) in
    let e7 = e 7 (omega arith) ∙ same (n + 7) (n + 4 + 3) (omega arith) in
    omega (arith, e0, e 1 (omega arith), e 2 (omega arith), e 3 (omega arith), e 4 (omega arith), e5, e6, e7)

-- ---- byte after byte

-- behind whole bytes
packed_behind : (a e : List ℕ) → length a % 8 ≡ 0 → packed_bytes (a ++ e) ≡ packed_bytes a ++ packed_bytes e
unfolding packed_bytes
packed_behind a e h = ap (map byte_of) (chunks-append 8 (omega arith) a e h) ∙ map-append byte_of (chunks_of 8 a) (chunks_of 8 e)

-- So many bytes are written, of so many bits. Then one more is.
pub whole_more : (bits output₀ : List ℕ) {output : List ℕ} (k : ℕ) {upper lower : ℕ} → output ≡ packed_bytes (take (8 * k) bits) ++ drop k output₀ → 8 * k + 8 ≤ length bits → k < length output₀
    → upper ≡ 8 * get_or bits (8 * k) 0 + 4 * get_or bits (8 * k + 1) 0 + 2 * get_or bits (8 * k + 2) 0 + get_or bits (8 * k + 3) 0
    → lower ≡ 8 * get_or bits (8 * k + 4) 0 + 4 * get_or bits (8 * k + 4 + 1) 0 + 2 * get_or bits (8 * k + 4 + 2) 0 + get_or bits (8 * k + 4 + 3) 0
    → set output k (16 * upper + lower) ≡ packed_bytes (take (8 * (k + 1)) bits) ++ drop (k + 1) output₀
whole_more bits output₀ {output} k {upper} {lower} w h fits u l =
    let a : List ℕ = take (8 * k) bits in
    let e : List ℕ = take 8 (drop (8 * k) bits) in
    let v : ℕ = 16 * upper + lower in
    let n : length a ≡ 8 * k = length-take-le (8 * k) bits (omega arith) in
    let m : length e ≡ 8 = length-take-le 8 (drop (8 * k) bits) (omega (arith, length-drop (8 * k) bits)) in
    let size : length (packed_bytes a) ≡ k = omega (arith, length_bytes a, n) in
    let next : 8 * (k + 1) ≡ 8 * k + 8 = omega arith in
    let parts : take (8 * (k + 1)) bits ≡ a ++ e = ap (λ (j : ℕ). take j bits) next ∙ take-add (8 * k) 8 bits in
    let one : packed_bytes e ≡ v ∷ [] = packed_eight e m ∙ ap (λ (x : ℕ). x ∷ []) (eight_at bits (8 * k) ∙ omega (arith, u, l)) in
    ap (λ (x : List ℕ). set x k v) (w ∙ ap (λ (x : List ℕ). packed_bytes a ++ x) (drop-cons output₀ k 0 fits))
    ∙ set_at (packed_bytes a) (get_or output₀ k 0) (drop (suc k) output₀) v k size
    ∙ sym (append_snoc (packed_bytes a) v (drop (suc k) output₀))
    ∙ ap₂ (λ (x : List ℕ) (j : ℕ). x ++ drop j output₀) (sym (ap packed_bytes parts ∙ packed_behind a e (omega (arith, n)) ∙ ap (λ (x : List ℕ). packed_bytes a ++ x) one)) (sym (add-one k))
