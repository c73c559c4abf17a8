-- The end of a stream in overlapping runs: what it gives in all, where the doubt about what was sent is sparse.
-- Assumes nothing.
use mathlib.Core.Path.{◌≡◌, refl, sym, ◌∙◌, ap, ap₂, subst}
use mathlib.Core.List.{List, ◌++◌, map, append_assoc}
use Prim.Native.Nat.{ℕ, suc, ◌+◌, ◌-◌, ◌*◌, ◌/◌, ◌%◌, ◌<◌, ◌≤◌}
use native.Mathlib.Decide.{dec_le}
use native.Mathlib.Nat.{mul-suc, mul-add, mul-mod_right, mul-div_right, mul-add-div, mul-add-mod_self_left, mod-eq_of_lt}
use native.Mathlib.Omega.{arith}
use lib.ListN.{length, take, drop, length-append, length-take, length-drop, take-append-drop}
use lib.Seq.{take-take, take-add, take_at, drop_at, length-take-le, drop-drop}
use Rattle.convolutional_code.specs.Bits.{Bits}
use Rattle.convolutional_code.proofs.Bits.{bits_take, bits_drop}
use Rattle.puncturing.specs.Step.{pattern_length}
use Rattle.inner_code.specs.Step.{symbols_of}
use Rattle.inner_code.specs.Encode.{coder_at}
use Rattle.viterbi_decoder.specs.Best.{Best}
use Rattle.puncturing.specs.Mode.{qpsk_count}
use Rattle.reader.specs.Cost.{total_cost, run_cost}
use Rattle.reader.specs.Read.{symbols_per_pattern, run_bits, length_of_run}
use Rattle.reader.proofs.Patterns.{some_symbols, memory_in_range, run_whole}
use Rattle.reader.proofs.Streams.{fits, front_is}
use Rattle.reader_stream.specs.Runs.{full_symbols, kept_bits, Decided, EndDecided, ReadToEnd}
use Rattle.reader_stream.proofs.Costs.{map-take, map-drop}
use Rattle.reader_stream.proofs.Unharmed.{WholeStream, no_more}
use Rattle.noise_tolerance.specs.Noise.{SparseSymbols, QuietEnd, StreamBack}
use Rattle.noise_tolerance.proofs.Runs.{Tolerable}
use Rattle.noise_tolerance.proofs.Received.{Kind, kind_agrees, kind_agrees_whole}
use Rattle.noise_tolerance.proofs.Windows.{total_later}
use Rattle.noise_tolerance.proofs.Streams.{total_cut, sparse_front, Kept, stream_kept}

-- two lists that agree in the front, and behind it up to the last d
join_agree : (a b x : List ℕ) (n d : ℕ) → length b ≡ n → a ≡ take (length a) x → take (n - d) b ≡ take (n - d) (drop (length a) x)
    → take (length a + n - d) (a ++ b) ≡ take (length a + n - d) x
join_agree a b x n d l e f = by (dec_le d n)
  where
    by : Dec (d ≤ n) → take (length a + n - d) (a ++ b) ≡ take (length a + n - d) x
    by (yes h) =
        let k : length a + n - d ≡ length a + (n - d) = omega arith in
        ap (λ (i : ℕ). take i (a ++ b)) k
        ∙ (take-add (length a) (n - d) (a ++ b)
        ∙ (ap₂ (λ (p q : List ℕ). p ++ take (n - d) q) (take_at a b (length a) refl) (drop_at a b (length a) refl)
        ∙ (ap₂ (λ (p q : List ℕ). p ++ q) e f ∙ (sym (take-add (length a) (n - d) x) ∙ ap (λ (i : ℕ). take i x) (sym k)))))
    by (no h) =
        let k = length a + n - d in
        let le : k ≤ length a = omega arith in
        sym (take-take k (length a) (a ++ b) le)
        ∙ (ap (take k) (take_at a b (length a) refl ∙ e) ∙ take-take k (length a) x le)

module _ {R : Type 0} {cost doubt : R → ℕ → ℕ} {u : ℕ} (kind : Kind cost doubt u) (rate : ℕ) (hr : rate < qpsk_count) {window most depth : ℕ} (tolerable : Tolerable rate window most depth)
    (ps : ℕ) (covers : window + pattern_length rate ≤ pattern_length rate * ps + 1) (overlap : kept_bits rate + depth ≤ run_bits rate (full_symbols rate)) where
  module _ (bits : List ℕ) (w : Bits bits) (rs left : List R) (ss unread : List ℕ) (size : length rs ≡ length ss)
      (g : SparseSymbols (symbols_per_pattern rate * ps) (u * most) (map doubt rs) ss) (e : ss ++ unread ≡ symbols_of (coder_at rate 0) bits)
      {out : List ℕ} {last : ℕ} (d : Decided cost rate 0 rs out last left) {output exit : List ℕ} {count rest : ℕ} (end : EndDecided cost rate last left output count rest exit) where
    abbrev p : ℕ
    p = pattern_length rate

    abbrev s : ℕ
    s = symbols_per_pattern rate

    b : Kept doubt (s * ps) (u * most) rate 0 bits ss unread rs out last left
    b = stream_kept kind rate hr tolerable ps covers overlap 0 (omega arith) bits w ss unread size g e d

    hl : last < 64
    hl = rw b.memory (memory_in_range rate 0 hr (omega arith) (bits_take (length out) w))

    abbrev others : List ℕ
    others = drop (length out) bits

    -- the whole patterns that are left
    abbrev k : ℕ
    k = s * end.whole

    ks : List ℕ
    ks = take k b.behind

    lk : length ks ≡ k
    unfolding ks
    lk = length-take-le k b.behind (omega (arith, end.split, b.as_long))

    wk : length ks % s ≡ 0
    wk = ap (λ (j : ℕ). j % s) lk ∙ mul-mod_right s end.whole

    ek : ks ++ (drop k b.behind ++ unread) ≡ symbols_of (coder_at rate last) others
    unfolding ks
    ek =
        sym (append_assoc (take k b.behind) (drop k b.behind) unread) ∙ (ap (λ (x : List ℕ). x ++ unread) (take-append-drop k b.behind) ∙ b.others)

    abbrev N : ℕ
    N = length_of_run rate ks

    v : Bits others
    v = bits_drop (length out) w

    nf : N ≤ length others
    nf = fits rate hr last hl others v ks (drop k b.behind ++ unread) wk ek

    ln : length (take N others) ≡ N
    ln = length-take-le N others nf

    lt : length (take k left) ≡ length ks
    lt = length-take-le k left (omega (arith, end.split)) ∙ sym lk

    whole_bits : length (take N others) % p ≡ 0
    whole_bits = ap (λ (j : ℕ). j % p) ln ∙ run_whole rate hr (length ks)

    front : ks ≡ symbols_of (coder_at rate last) (take N others)
    front = front_is rate hr last hl others v ks (drop k b.behind ++ unread) wk ek

    sparse_left : SparseSymbols (s * ps) (u * most) (map doubt (take k left)) ks
    unfolding ks
    sparse_left = sparse_front doubt (s * ps) (u * most) k left b.behind b.sparse

    best : Best (run_cost (map cost (take k left)) rate last) (run_bits rate (length ks)) end.bits.bits
    best = subst (λ (j : ℕ). Best (run_cost (map cost (take k left)) rate last) (run_bits rate j) end.bits.bits) lt end.bits.decoded.best

    lo : length end.bits.bits ≡ N
    lo = end.bits.decoded.best.size ∙ ap (run_bits rate) lt

    t : take count exit ≡ end.bits.bits
    t = ap₂ take (end.bits.counted ∙ ap (run_bits rate) lt) end.bits.written ∙ take_at end.bits.bits _ N lo

    -- how far that is
    all : length rs ≡ s * (b.patterns + end.whole) + rest
    all = omega (arith, b.came, end.split, mul-add s b.patterns end.whole)

    q : length rs / s ≡ b.patterns + end.whole
    q = ap (λ (j : ℕ). j / s) all ∙ mul-add-div (some_symbols rate hr) (b.patterns + end.whole) rest ∙ no_more (b.patterns + end.whole) rest s end.few

    nk : N ≡ p * end.whole
    nk = ap (λ (j : ℕ). p * (j / s)) lk ∙ ap (λ (j : ℕ). p * j) (mul-div_right end.whole (some_symbols rate hr))

    far : length out + N ≡ run_bits rate (length rs)
    far = omega (arith, b.out_length, nk, mul-add p b.patterns end.whole, ap (λ (j : ℕ). p * j) q)

    ob : take (N - depth) end.bits.bits ≡ take (N - depth) others
    ob =
        (rw ln at (kind_agrees kind rate hr tolerable ps covers last hl (take k left) (take N others) (bits_take N v) whole_bits ks front lt sparse_left best))
        ∙ take-take (N - depth) N others (omega arith)

    decided_back : StreamBack rate depth bits (length rs) (out ++ take count exit) rest
    decided_back = record {
      given =
          subst (λ (j : ℕ). take (j - depth) (out ++ take count exit) ≡ take (j - depth) bits) far
          (ap (λ (x : List ℕ). take (length out + N - depth) (out ++ x)) t ∙ join_agree out end.bits.bits bits N depth lo b.given ob);
      size = length-append out (take count exit) ∙ (ap (λ (x : List ℕ). length out + length x) t ∙ (ap (λ (j : ℕ). length out + j) lo ∙ far));
      within = omega (arith, far, nf, length-drop (length out) bits, ap length b.given, length-take (length out) bits);
      behind = sym (ap (λ (j : ℕ). j % s) all ∙ (mul-add-mod_self_left s (b.patterns + end.whole) rest ∙ mod-eq_of_lt end.few));
    }

    -- where nothing is doubted at the end, all of them
    quiet_left : (tail : ℕ) → QuietEnd (s * suc tail) (map doubt rs) ss → QuietEnd (s * tail) (map doubt (take k left)) ks
    unfolding QuietEnd ks
    quiet_left tail quiet =
        let i : ℕ = length ks - s * tail in
        let j : ℕ = s * b.patterns in
        let x : total_cost (drop i (map doubt (take k left))) (drop i (take k b.behind)) ≤ total_cost (drop i (map doubt left)) (drop i b.behind) =
        rw (map-take doubt k left) (total_cut i k (map doubt left) b.behind) in
        let y : total_cost (drop i (map doubt left)) (drop i b.behind) ≡ total_cost (drop (j + i) (map doubt rs)) (drop (j + i) ss) =
        ap₂ (λ (l : List R) (o : List ℕ). total_cost (drop i (map doubt l)) (drop i o)) b.left_is b.behind_is
        ∙ (ap (λ (l : List (ℕ → ℕ)). total_cost (drop i l) (drop i (drop j ss))) (map-drop doubt j rs) ∙ ap₂ total_cost (drop-drop i j (map doubt rs)) (drop-drop i j ss)) in
        let z : length ss - s * suc tail ≤ j + i = omega (arith, all, size, lk, end.few, mul-add s b.patterns end.whole, mul-suc s tail) in
        omega (arith, x, y, total_later (length ss - s * suc tail) (j + i) (map doubt rs) ss z, quiet)

    decided_whole : (tail : ℕ) → depth ≤ p * tail → QuietEnd (s * suc tail) (map doubt rs) ss → WholeStream rate bits (length rs) (out ++ take count exit) rest
    decided_whole tail deep quiet =
        let o : end.bits.bits ≡ take N others =
        kind_agrees_whole kind rate hr tolerable ps covers last hl (take k left) (take N others) (bits_take N v) whole_bits ks front lt sparse_left best tail deep (quiet_left tail quiet) in
        record {
          given = ap₂ (λ (x y : List ℕ). x ++ y) b.given (t ∙ o) ∙ (sym (take-add (length out) N bits) ∙ ap (λ (j : ℕ). take j bits) far);
          within = decided_back.within;
          behind = decided_back.behind;
        }

  -- A stream that is read to its end: where the doubt about what was sent is sparse, the bits are those that were sent, up to the last ones before the end.
  pub stream_back : (bits : List ℕ) → Bits bits → (rs : List R) (ss unread : List ℕ) → length rs ≡ length ss
      → SparseSymbols (symbols_per_pattern rate * ps) (u * most) (map doubt rs) ss → ss ++ unread ≡ symbols_of (coder_at rate 0) bits
      → {out : List ℕ} {rest : ℕ} → ReadToEnd cost rate rs out rest → StreamBack rate depth bits (length rs) out rest
  stream_back bits w rs ss unread size g e {rest = rest} r =
      subst (λ (l : List ℕ). StreamBack rate depth bits (length rs) l rest) (sym r.bits_are) (decided_back bits w rs r.left ss unread size g e r.runs r.end)

  -- and all of them, where nothing is doubted at the end
  pub stream_whole : (bits : List ℕ) → Bits bits → (rs : List R) (ss unread : List ℕ) → length rs ≡ length ss
      → SparseSymbols (symbols_per_pattern rate * ps) (u * most) (map doubt rs) ss → (tail : ℕ) → depth ≤ pattern_length rate * tail
      → QuietEnd (symbols_per_pattern rate * suc tail) (map doubt rs) ss → ss ++ unread ≡ symbols_of (coder_at rate 0) bits
      → {out : List ℕ} {rest : ℕ} → ReadToEnd cost rate rs out rest → WholeStream rate bits (length rs) out rest
  stream_whole bits w rs ss unread size g tail deep quiet e {rest = rest} r =
      subst (λ (l : List ℕ). WholeStream rate bits (length rs) l rest) (sym r.bits_are)
      (decided_whole bits w rs r.left ss unread size g e r.runs r.end tail deep quiet)
