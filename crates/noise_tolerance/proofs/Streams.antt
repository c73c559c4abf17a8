-- A stream of symbols in overlapping runs: where the doubt about what was sent is sparse, what is decided of it is what was sent, whatever the pieces.
-- Assumes nothing.
use mathlib.Core.Path.{◌≡◌, refl, sym, ◌∙◌, ap, ap₂, subst}
use mathlib.Core.List.{List, [], ◌∷◌, ◌++◌, map, append_assoc}
use Prim.Native.Nat.{ℕ, zero, suc, ◌+◌, ◌-◌, ◌*◌, ◌%◌, ◌<◌, ◌≤◌}
use native.Mathlib.Nat.{mul-add}
use native.Mathlib.Omega.{arith}
use lib.ListN.{length, take, drop, length-append, length-drop, take-append-drop}
use lib.Seq.{take-take, take-add, length-take-le, drop-drop}
use Rattle.convolutional_code.specs.Bits.{Bits}
use Rattle.convolutional_code.specs.Code.{memory_after}
use Rattle.convolutional_code.proofs.Bits.{bits_take, bits_drop}
use Rattle.puncturing.specs.Step.{pattern_length}
use Rattle.inner_code.specs.Step.{symbols_of}
use Rattle.inner_code.specs.Encode.{coder_at}
use Rattle.viterbi_decoder.specs.Best.{Best}
use Rattle.puncturing.specs.Mode.{qpsk_count}
use Rattle.reader.specs.Cost.{total_cost, run_cost}
use Rattle.reader.specs.Read.{symbols_per_pattern, run_bits, length_of_run}
use Rattle.reader.proofs.Patterns.{memory_in_range, run_whole}
use Rattle.reader.proofs.Streams.{fits, front_is, back_is, memory_append}
use Rattle.reader_stream.specs.Runs.{kept_patterns, full_symbols, kept_symbols, kept_bits, Decided, few, run}
use Rattle.reader_stream.proofs.Costs.{map-take, map-drop}
use Rattle.reader_stream.proofs.Runs.{numbers}
use Rattle.reader_stream.proofs.Unharmed.{kept_mod, kept_length, kept_symbols_lem, kept_bits_lem}
use Rattle.noise_tolerance.specs.Noise.{SparseSymbols}
use Rattle.noise_tolerance.proofs.Runs.{Tolerable}
use Rattle.noise_tolerance.proofs.Received.{Kind, kind_agrees}
use Rattle.noise_tolerance.proofs.Windows.{total_part}

-- ---- parts of sparse symbols

total_front : (n k : ℕ) (cs : List (ℕ → ℕ)) (ss : List ℕ) → total_cost (take n (take k cs)) (take n (take k ss)) ≤ total_cost (take n cs) (take n ss)
unfolding total_cost
total_front zero k cs ss = omega arith
total_front (suc n) zero cs ss = omega arith
total_front (suc n) (suc k) [] ss = omega arith
total_front (suc n) (suc k) (c ∷ cs) [] = omega arith
total_front (suc n) (suc k) (c ∷ cs) (s ∷ ss) = omega (arith, total_front n k cs ss)

take_none : {A : Type 0} (i : ℕ) → take {A = A} i [] ≡ []
take_none zero = refl
take_none (suc i) = refl

total_nil : (ss : List ℕ) → total_cost [] ss ≡ 0
unfolding total_cost
total_nil ss = refl

total_nil_right : (cs : List (ℕ → ℕ)) → total_cost cs [] ≡ 0
unfolding total_cost
total_nil_right [] = refl
total_nil_right (c ∷ cs) = refl

total_within : (n k i : ℕ) (cs : List (ℕ → ℕ)) (ss : List ℕ)
    → total_cost (take n (drop i (take k cs))) (take n (drop i (take k ss))) ≤ total_cost (take n (drop i cs)) (take n (drop i ss))
total_within n k zero cs ss = total_front n k cs ss
total_within n zero (suc i) cs ss = rw (take_none {A = ℕ → ℕ} n, take_none {A = ℕ} n) (omega (arith, total_nil []))
total_within n (suc k) (suc i) [] ss = rw (take_none {A = ℕ → ℕ} n) (omega (arith, total_nil (take n (drop (suc i) (take (suc k) ss)))))
total_within n (suc k) (suc i) (c ∷ cs) [] = rw (take_none {A = ℕ} n) (omega (arith, total_nil_right (take n (drop i (take k cs)))))
total_within n (suc k) (suc i) (c ∷ cs) (s ∷ ss) = total_within n k i cs ss

-- of what is cut off behind
pub total_cut : (i k : ℕ) (cs : List (ℕ → ℕ)) (ss : List ℕ) → total_cost (drop i (take k cs)) (drop i (take k ss)) ≤ total_cost (drop i cs) (drop i ss)
unfolding total_cost
total_cut zero k cs ss = total_part k cs ss
total_cut (suc i) zero cs ss = omega arith
total_cut (suc i) (suc k) [] ss = omega arith
total_cut (suc i) (suc k) (c ∷ cs) [] = omega (arith, total_nil_right (drop i (take k cs)))
total_cut (suc i) (suc k) (c ∷ cs) (s ∷ ss) = total_cut i k cs ss

module _ {R : Type 0} (doubt : R → ℕ → ℕ) (n t : ℕ) where
  pub sparse_front : (k : ℕ) (rs : List R) (ss : List ℕ) → SparseSymbols n t (map doubt rs) ss → SparseSymbols n t (map doubt (take k rs)) (take k ss)
  unfolding SparseSymbols
  sparse_front k rs ss h i = rw (map-take doubt k rs) (omega (arith, h i, total_within n k i (map doubt rs) ss))

  pub sparse_back : (k : ℕ) (rs : List R) (ss : List ℕ) → SparseSymbols n t (map doubt rs) ss → SparseSymbols n t (map doubt (drop k rs)) (drop k ss)
  unfolding SparseSymbols
  sparse_back k rs ss h i = rw (map-drop doubt k rs, drop-drop i k (map doubt rs), drop-drop i k ss) (h (k + i))

-- ---- what is decided

-- What is decided of symbols about which there is little doubt, however many more are to come, is the bits that were sent; the memory is the coder's, and
-- there is as little doubt about the coding of the other bits in what is left. So many patterns are decided.
pub record Kept {R : Type 0} (doubt : R → ℕ → ℕ) (n t : ℕ) (rate m : ℕ) (bits ss rest : List ℕ) (rs : List R) (out : List ℕ) (last : ℕ) (left : List R) : Type 0 where
  pub given : out ≡ take (length out) bits
  pub memory : last ≡ memory_after m (take (length out) bits)
  pub behind : List ℕ
  pub others : behind ++ rest ≡ symbols_of (coder_at rate last) (drop (length out) bits)
  pub as_long : length left ≡ length behind
  pub sparse : SparseSymbols n t (map doubt left) behind
  pub patterns : ℕ
  pub out_length : length out ≡ pattern_length rate * patterns
  pub came : length rs ≡ symbols_per_pattern rate * patterns + length left
  pub left_is : left ≡ drop (symbols_per_pattern rate * patterns) rs
  pub behind_is : behind ≡ drop (symbols_per_pattern rate * patterns) ss

module _ {R : Type 0} {cost doubt : R → ℕ → ℕ} {u : ℕ} (kind : Kind cost doubt u) (rate : ℕ) (hr : rate < qpsk_count) {window most depth : ℕ} (t : Tolerable rate window most depth)
    (ps : ℕ) (covers : window + pattern_length rate ≤ pattern_length rate * ps + 1) (overlap : kept_bits rate + depth ≤ run_bits rate (full_symbols rate)) where
  abbrev span : ℕ
  span = symbols_per_pattern rate * ps

  -- one run of a stream, and what is kept of it
  module _ (m : ℕ) (hm : m < 64) (bits : List ℕ) (w : Bits bits) (rs : List R) (ss rest : List ℕ) (size : length rs ≡ length ss)
      (g : SparseSymbols span (u * most) (map doubt rs) ss) (e : ss ++ rest ≡ symbols_of (coder_at rate m) bits) (full : full_symbols rate ≤ length rs)
      (best : List ℕ) (d : Best (run_cost (map cost (take (full_symbols rate) rs)) rate m) (run_bits rate (full_symbols rate)) best) where
    abbrev F : ℕ
    F = full_symbols rate

    abbrev K : ℕ
    K = kept_symbols rate

    abbrev B : ℕ
    B = kept_bits rate

    -- the run is clear enough about the coding of its bits
    abbrev fs : List ℕ
    fs = take F ss

    lf : length fs ≡ F
    lf = length-take-le F ss (omega arith)

    wf : length fs % symbols_per_pattern rate ≡ 0
    wf = ap (λ (k : ℕ). k % symbols_per_pattern rate) lf ∙ (numbers rate hr).full_whole

    ef : fs ++ (drop F ss ++ rest) ≡ symbols_of (coder_at rate m) bits
    ef = sym (append_assoc fs (drop F ss) rest) ∙ (ap (λ (x : List ℕ). x ++ rest) (take-append-drop F ss) ∙ e)

    abbrev N : ℕ
    N = length_of_run rate fs

    deep_fits : B + depth ≤ N
    deep_fits = rw (ap (run_bits rate) lf) overlap

    nf : N ≤ length bits
    nf = fits rate hr m hm bits w fs (drop F ss ++ rest) wf ef

    ln : length (take N bits) ≡ N
    ln = length-take-le N bits nf

    ob : take (N - depth) best ≡ take (N - depth) (take N bits)
    ob =
        rw ln at
        (kind_agrees kind rate hr t ps covers m hm (take F rs) (take N bits) (bits_take N w) (ap (λ (k : ℕ). k % pattern_length rate) ln ∙ run_whole rate hr (length fs)) fs
        (front_is rate hr m hm bits w fs (drop F ss ++ rest) wf ef) (length-take-le F rs full ∙ sym lf) (sparse_front doubt span (u * most) F rs ss g)
        (subst (λ (k : ℕ). Best (run_cost (map cost (take F rs)) rate m) (run_bits rate k) best) (sym lf) d))

    kept : take B best ≡ take B bits
    kept =
        sym (take-take B (N - depth) best (omega (arith, deep_fits)))
        ∙ (ap (take B) ob ∙ (take-take B (N - depth) (take N bits) (omega (arith, deep_fits)) ∙ take-take B N bits (omega (arith, deep_fits))))

    -- what is behind the kept symbols
    abbrev ks : List ℕ
    ks = take K ss

    lk : length ks ≡ K
    lk = length-take-le K ss (omega (arith, (numbers rate hr).kept_fewer))

    wk : length ks % symbols_per_pattern rate ≡ 0
    wk = ap (λ (k : ℕ). k % symbols_per_pattern rate) lk ∙ kept_mod rate

    ek : ks ++ (drop K ss ++ rest) ≡ symbols_of (coder_at rate m) bits
    ek = sym (append_assoc ks (drop K ss) rest) ∙ (ap (λ (x : List ℕ). x ++ rest) (take-append-drop K ss) ∙ e)

    rk : length_of_run rate ks ≡ B
    rk = kept_length rate hr ks lk

    abbrev next : ℕ
    next = memory_after m (take B best)

    next_is : next ≡ memory_after m (take B bits)
    next_is = ap (memory_after m) kept

    next_small : next < 64
    next_small = rw next_is (memory_in_range rate m hr hm (bits_take B w))

    back : drop K ss ++ rest ≡ symbols_of (coder_at rate next) (drop B bits)
    back =
        back_is rate hr m hm bits w ks (drop K ss ++ rest) wk ek
        ∙ ((λ i. symbols_of (coder_at rate (memory_after m (take (rk i) bits))) (drop (rk i) bits)) ∙ ap (λ (x : ℕ). symbols_of (coder_at rate x) (drop B bits)) (sym next_is))

    back_size : length (drop K rs) ≡ length (drop K ss)
    back_size = omega (arith, size, length-drop K rs, length-drop K ss)

    lb : length (take B best) ≡ B
    lb = ap length kept ∙ length-take-le B bits (omega (arith, nf, deep_fits))

    further : (q : ℕ) → K + symbols_per_pattern rate * q ≡ symbols_per_pattern rate * (kept_patterns rate + q)
    further q = omega (arith, kept_symbols_lem rate, mul-add (symbols_per_pattern rate) (kept_patterns rate) q)

    -- and then the others
    module _ {left : List R} {out : List ℕ} {last : ℕ} (ih : Kept doubt span (u * most) rate next (drop B bits) (drop K ss) rest (drop K rs) out last left) where
      lo : length (take B best ++ out) ≡ B + length out
      lo = length-append (take B best) out ∙ ap (λ (k : ℕ). k + length out) lb

      j : take (length (take B best ++ out)) bits ≡ take B bits ++ take (length out) (drop B bits)
      j = ap (λ (k : ℕ). take k bits) lo ∙ take-add B (length out) bits

      run_kept : Kept doubt span (u * most) rate m bits ss rest rs (take B best ++ out) last left
      run_kept = record {
        given = ap₂ (λ (x y : List ℕ). x ++ y) kept ih.given ∙ sym j;
        memory =
            ih.memory
            ∙ (ap (λ (x : ℕ). memory_after x (take (length out) (drop B bits))) next_is
            ∙ (sym (memory_append m (take B bits) (take (length out) (drop B bits))) ∙ ap (memory_after m) (sym j)));
        behind = ih.behind;
        others = ih.others ∙ ap (symbols_of (coder_at rate last)) (drop-drop (length out) B bits ∙ ap (λ (k : ℕ). drop k bits) (sym lo));
        as_long = ih.as_long;
        sparse = ih.sparse;
        patterns = kept_patterns rate + ih.patterns;
        out_length = lo ∙ omega (arith, kept_bits_lem rate, ih.out_length, mul-add (pattern_length rate) (kept_patterns rate) ih.patterns);
        came =
            omega (
              arith,
              kept_symbols_lem rate,
              ih.came,
              mul-add (symbols_per_pattern rate) (kept_patterns rate) ih.patterns,
              length-drop K rs,
              (numbers rate hr).kept_fewer,
            );
        left_is = ih.left_is ∙ (drop-drop (symbols_per_pattern rate * ih.patterns) K rs ∙ ap (λ (k : ℕ). drop k rs) (further ih.patterns));
        behind_is = ih.behind_is ∙ (drop-drop (symbols_per_pattern rate * ih.patterns) K ss ∙ ap (λ (k : ℕ). drop k ss) (further ih.patterns));
      }

  none_kept : (m : ℕ) (bits : List ℕ) (rs : List R) (ss rest : List ℕ) → length rs ≡ length ss → SparseSymbols span (u * most) (map doubt rs) ss
      → ss ++ rest ≡ symbols_of (coder_at rate m) bits → Kept doubt span (u * most) rate m bits ss rest rs [] m rs
  unfolding memory_after
  none_kept m bits rs ss rest size g e =
      let z : symbols_per_pattern rate * 0 ≡ 0 = omega arith in
      record {
        given = refl;
        memory = refl;
        behind = ss;
        others = e;
        as_long = size;
        sparse = g;
        patterns = 0;
        out_length = omega arith;
        came = omega arith;
        left_is = ap (λ (k : ℕ). drop k rs) (sym z);
        behind_is = ap (λ (k : ℕ). drop k ss) (sym z);
      }

  pub stream_kept : (m : ℕ) → m < 64 → (bits : List ℕ) → Bits bits → {rs left : List R} {out : List ℕ} {last : ℕ} (ss rest : List ℕ) → length rs ≡ length ss
      → SparseSymbols span (u * most) (map doubt rs) ss → ss ++ rest ≡ symbols_of (coder_at rate m) bits
      → Decided cost rate m rs out last left → Kept doubt span (u * most) rate m bits ss rest rs out last left
  stream_kept m hm bits w {rs} ss rest size g e (few l) = none_kept m bits rs ss rest size g e
  stream_kept m hm bits w ss rest size g e (run {rs = rs} best total after full d r) =
      run_kept m hm bits w rs ss rest size g e full best d.best
      (stream_kept (memory_after m (take (kept_bits rate) best)) (next_small m hm bits w rs ss rest size g e full best d.best) (drop (kept_bits rate) bits)
      (bits_drop (kept_bits rate) w) (drop (kept_symbols rate) ss) rest (back_size m hm bits w rs ss rest size g e full best d.best)
      (sparse_back doubt span (u * most) (kept_symbols rate) rs ss g) (back m hm bits w rs ss rest size g e full best d.best) r)
