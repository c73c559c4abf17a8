-- A run that begins with whole patterns of which nothing is known, six bits or more, and then has symbols that were sent from any memory on: it costs no more
-- than they do. Where they were received clearly, it is read behind these patterns as what was sent, with the coder's own memory, whatever it was.
-- Assumes nothing.
use mathlib.Core.Path.{◌≡◌, refl, sym, ◌∙◌, ap, ap₂}
use mathlib.Core.List.{List, [], ◌∷◌, ◌++◌, map}
use Prim.Native.Nat.{ℕ, zero, suc, ◌+◌, ◌-◌, ◌*◌, ◌/◌, ◌%◌, ◌≤◌, ◌<◌}
use native.Mathlib.Nat.{mul-mod_right, mul-div_right, mul-add-div, mul-add}
use native.Mathlib.Omega.{arith}
use lib.ListN.{length, take, drop, replicate, length-append, length-replicate, length-drop, length-map, take-append-drop}
use lib.Seq.{length-take-le}
use Rattle.common.specs.Lists.{All}
use Rattle.convolutional_code.specs.Bits.{Bits, none, more}
use Rattle.convolutional_code.specs.Code.{memory_after}
use Rattle.convolutional_code.proofs.Bits.{bits_append, bits_take, bits_drop}
use Rattle.puncturing.specs.Step.{pattern_length}
use Rattle.inner_code.specs.Step.{symbols_of}
use Rattle.inner_code.specs.Encode.{coder_at}
use Rattle.inner_code.specs.declared.InnerCoder.{InnerCoder}
use Rattle.inner_code.proofs.Coder.{symbols_append}
use Rattle.viterbi_decoder.specs.Best.{Decoded}
use Rattle.viterbi_decoder.proofs.Paths.{six_lead}
use Rattle.reader.specs.Clear.{AllClear}
use Rattle.reader.specs.Cost.{total_cost, run_cost}
use Rattle.reader.specs.Read.{symbols_per_pattern, run_bits}
use Rattle.reader.proofs.Costs.{sent_bits_lem, sent_small}
use Rattle.reader.proofs.Patterns.{some_symbols, coder_whole, memory_in_range, run_symbols_lem, sent_whole}
use Rattle.reader.proofs.Streams.{memory_append}
use Rattle.reader.proofs.Unharmed.{clear_free, clear_only}
use Rattle.free_start.specs.Lead.{Unknown}
use Rattle.free_start.proofs.Pinned.{same_coding}

-- ---- bits that lead to a memory

abbrev six_bits : ℕ → List ℕ
six_bits m = m % 2 ∷ m / 2 % 2 ∷ m / 4 % 2 ∷ m / 8 % 2 ∷ m / 16 % 2 ∷ m / 32 % 2 ∷ []

zeros_stay : (r : ℕ) → memory_after 0 (replicate r 0) ≡ 0
unfolding memory_after
zeros_stay zero = refl
zeros_stay (suc r) = zeros_stay r

zero_bits : (r : ℕ) (l : List ℕ) → Bits l → Bits (replicate r 0 ++ l)
zero_bits zero l w = w
zero_bits (suc r) l w = more {b = 0} (omega arith) (zero_bits r l w)

-- so many bits, from memory 0 to m
record Leading (far m : ℕ) : Type 0 where
  bits : List ℕ
  binary : Bits bits
  size : length bits ≡ far
  to : memory_after 0 bits ≡ m

leading : (far m : ℕ) → 6 ≤ far → m < 64 → Leading far m
unfolding memory_after
leading far m h hm = record {
  bits = replicate (far - 6) 0 ++ six_bits m;
  binary = zero_bits (far - 6) (six_bits m) (more {b = m % 2} (omega arith) (more {b = m / 2 % 2} (omega arith) (more {b = m / 4 % 2} (omega arith) (more {b = m / 8 % 2} (omega arith) (more {b = m / 16 % 2} (omega arith) (more {b = m / 32 % 2} (omega arith) none))))));
  size = omega (arith, length-append (replicate (far - 6) 0) (six_bits m), length-replicate {A = ℕ} (far - 6) 0);
  to = memory_append 0 (replicate (far - 6) 0) (six_bits m) ∙ (ap (λ (x : ℕ). memory_after x (six_bits m)) (zeros_stay (far - 6)) ∙ six_lead 0 m (omega arith) hm);
}

-- ---- costs of two parts

total_append : (fs gs : List (ℕ → ℕ)) (xs ys : List ℕ) → length fs ≡ length xs → total_cost (fs ++ gs) (xs ++ ys) ≡ total_cost fs xs + total_cost gs ys
unfolding total_cost
total_append [] gs [] ys l = omega arith
total_append [] gs (x ∷ xs) ys l = absurd (omega arith)
total_append (f ∷ fs) gs [] ys l = absurd (omega arith)
total_append (f ∷ fs) gs (x ∷ xs) ys l = omega (arith, total_append fs gs xs ys (omega arith))

unknown_free : {R : Type 0} (cost : R → ℕ → ℕ) (rs : List R) → All (Unknown cost) rs → (xs : List ℕ) → All (λ s. s < 4) xs → total_cost (map cost rs) xs ≡ 0
unfolding total_cost
unknown_free cost [] u xs w = refl
unknown_free cost (r ∷ rs) u [] w = refl
unknown_free cost (r ∷ rs) u (x ∷ xs) w = omega (arith, u.0 x w.0, unknown_free cost rs u.1 xs w.1)

map-append : {R : Type 0} (f : R → ℕ → ℕ) (xs ys : List R) → map f (xs ++ ys) ≡ map f xs ++ map f ys
map-append f [] ys = refl
map-append f (x ∷ xs) ys = ap (λ (l : List (ℕ → ℕ)). f x ∷ l) (map-append f xs ys)

-- k patterns of which nothing is known, of six bits or more, and then symbols that were received
module _ {R : Type 0} (cost : R → ℕ → ℕ) (rate : ℕ) (hr : rate < 5) (k : ℕ) (six : 6 ≤ pattern_length rate * k) (unknown : List R) (u : All (Unknown cost) unknown)
    (size : length unknown ≡ symbols_per_pattern rate * k) where
  abbrev p : ℕ
  p = pattern_length rate

  abbrev s : ℕ
  s = symbols_per_pattern rate

  lead_bits : run_bits rate (s * k) ≡ p * k
  lead_bits = ap (λ (j : ℕ). p * j) (mul-div_right k (some_symbols rate hr))

  -- what a sequence costs is what it costs behind them
  behind_cost : (rs : List R) (front back : List ℕ) → Bits front → length front ≡ p * k
      → run_cost (map cost (unknown ++ rs)) rate 0 (front ++ back) ≡ run_cost (map cost rs) rate (memory_after 0 front) back
  behind_cost rs front back w l =
      let cut : symbols_of (coder_at rate 0) (front ++ back) ≡ symbols_of (coder_at rate 0) front ++ symbols_of (coder_at rate (memory_after 0 front)) back =
      symbols_append front back (coder_at rate 0)
      ∙ ap (λ (c : InnerCoder). symbols_of (coder_at rate 0) front ++ symbols_of c back) (coder_whole rate 0 hr (omega arith) w (ap (λ (j : ℕ). j % p) l ∙ mul-mod_right p k)) in
      let n : length (symbols_of (coder_at rate 0) front) ≡ s * k = run_symbols_lem rate hr (s * k) (mul-mod_right s k) 0 (omega arith) front w (l ∙ sym lead_bits) in
      ap₂ total_cost (map-append cost unknown rs) cut
      ∙ (total_append (map cost unknown) (map cost rs) (symbols_of (coder_at rate 0) front) (symbols_of (coder_at rate (memory_after 0 front)) back) (length-map unknown cost ∙ (size ∙ sym n))
      ∙ omega (arith, unknown_free cost unknown u (symbols_of (coder_at rate 0) front) (sent_small rate 0 hr (omega arith) w)))

  -- symbols of whole patterns of bits, from any memory on
  module _ (m : ℕ) (hm : m < 64) (bits : List ℕ) (w : Bits bits) (whole : length bits % p ≡ 0) (rs : List R) (ss : List ℕ) (es : ss ≡ symbols_of (coder_at rate m) bits)
      (as_long : length rs ≡ length ss) {best : List ℕ} {total after : ℕ}
      (d : Decoded (run_cost (map cost (unknown ++ rs)) rate 0) (run_bits rate (length (unknown ++ rs))) 0 best total after) where
    far : run_bits rate (length (unknown ++ rs)) ≡ p * k + length bits
    far =
        let q = sent_whole rate m hr hm bits w whole ss es in
        let n : length (unknown ++ rs) ≡ s * k + length ss = omega (arith, length-append unknown rs, size, as_long) in
        ap (λ (j : ℕ). p * (j / s)) n
        ∙ (ap (λ (j : ℕ). p * j) (mul-add-div (some_symbols rate hr) k (length ss)) ∙ (mul-add p k (length ss / s) ∙ ap (λ (j : ℕ). p * k + j) (sym q.1)))

    -- what is read costs no more than what was sent: the bits that were sent, behind some that lead to their memory, cost as much
    pub free_least : total ≤ total_cost (map cost rs) ss
    free_least =
        let l = leading (p * k) m six hm in
        let z : run_cost (map cost (unknown ++ rs)) rate 0 (l.bits ++ bits) ≡ total_cost (map cost rs) ss =
        behind_cost rs l.bits bits l.binary l.size
        ∙ (ap (λ (x : ℕ). run_cost (map cost rs) rate x bits) l.to ∙ ap (total_cost (map cost rs)) (sym es)) in
        omega (arith, z, d.costs, d.best.least (l.bits ++ bits) (bits_append l.binary w) (omega (arith, length-append l.bits bits, l.size, far)))

    -- where they were received clearly it costs nothing, and over six patterns or more it is what was sent, with its memory
    pub free_start : AllClear cost rs ss → 6 * p ≤ length bits → (drop (p * k) best ≡ bits) × (memory_after 0 (take (p * k) best) ≡ m)
    free_start g long =
        let front : List ℕ = take (p * k) best in
        let back : List ℕ = drop (p * k) best in
        let v : Bits front = bits_take (p * k) d.best.binary in
        let v' : Bits back = bits_drop (p * k) d.best.binary in
        let lb : length best ≡ p * k + length bits = d.best.size ∙ far in
        let n : ℕ = memory_after 0 front in
        let hn : n < 64 = memory_in_range rate 0 hr (omega arith) v in
        let ld : length back ≡ length bits = omega (arith, length-drop (p * k) best, lb) in
        let nothing : run_cost (map cost (unknown ++ rs)) rate 0 best ≡ 0 = omega (arith, d.costs, free_least, clear_free g) in
        let z : run_cost (map cost rs) rate n back ≡ 0 =
        sym (behind_cost rs front back v (length-take-le (p * k) best (omega arith)))
        ∙ (ap (run_cost (map cost (unknown ++ rs)) rate 0) (take-append-drop (p * k) best) ∙ nothing) in
        let q = sent_whole rate m hr hm bits w whole ss es in
        let c : symbols_of (coder_at rate n) back ≡ ss =
        clear_only g (symbols_of (coder_at rate n) back) (run_symbols_lem rate hr (length ss) q.0 n hn back v' (ld ∙ q.1)) (sent_bits_lem rate n hr hn v') z in
        let o = same_coding rate hr m n hm hn bits back w v' whole long (sym ld) (sym es ∙ sym c) in
        (sym o.1, sym o.0)
