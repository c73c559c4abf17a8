-- An unharmed stream gives its bits back, by hard and by soft decisions, whatever the pieces, and at its end all of them up to the last whole pattern.
-- Assumes nothing.
use mathlib.Core.Path.{◌≡◌, refl, sym, ◌∙◌, ap, ap₂, subst}
use mathlib.Core.List.{List, [], ◌∷◌, ◌++◌, map, append_assoc}
use Prim.Native.Nat.{ℕ, ◌+◌, ◌*◌, ◌/◌, ◌%◌, ◌<◌, ◌≤◌}
use Prim.{tt}
use native.Mathlib.Nat.{mul-add, mul-mod_right, mul-div_right, mul-add-div, mul-add-mod_self_left, div-eq_of_lt, mod-eq_of_lt}
use native.Mathlib.Omega.{arith}
use lib.ListN.{length, take, drop, length-append, length-take, length-drop, take-append-drop}
use lib.Seq.{take-take, take-add, take_at, length-take-le, drop-drop}
use Rattle.common.specs.Lists.{All}
use Rattle.convolutional_code.specs.Bits.{Bits}
use Rattle.convolutional_code.specs.Code.{memory_after}
use Rattle.convolutional_code.proofs.Bits.{bits_take, bits_drop}
use Rattle.puncturing.specs.Step.{pattern_length, symbols_in}
use Rattle.inner_code.specs.Step.{symbols_of}
use Rattle.inner_code.proofs.Coder.{length_symbols}
use Rattle.inner_code.specs.Encode.{coder_at}
use Rattle.viterbi_decoder.specs.Best.{Decoded}
use Rattle.puncturing.specs.Mode.{qpsk_count}
use Rattle.branch_metrics.specs.Cost.{softly, received_of, ReceivedSymbol}
use Rattle.reader.specs.Clear.{AllClear}
use Rattle.reader.specs.Cost.{differing, run_cost, Costed}
use Rattle.reader.specs.Read.{symbols_per_pattern, run_bits, length_of_run}
use Rattle.reader.proofs.Patterns.{at_start, some_symbols, memory_in_range, run_whole}
use Rattle.reader.proofs.Costs.{sent_small}
use Rattle.reader.proofs.Unharmed.{clear_length, clear_take, clear_drop, hard_clear, clear_best}
use Rattle.reader.proofs.SoftLaws.{signals_i, signals_q, none_lost, signals_clear}
use Rattle.reader.proofs.Streams.{symbols_divided, rest_few, fits, front_is, back_is, memory_append}
use Rattle.bit_packing.specs.Packing.{packed_bytes}
use Rattle.reader_stream.specs.Runs.{kept_patterns, full_symbols, kept_symbols, kept_bits, Decided, few, run, EndDecided, ReadToEnd}
use Rattle.reader_stream.specs.Stream.{FinishesReader}
use Rattle.reader_stream.specs.History.{ReaderFeedings}
use Rattle.reader_stream.specs.declared.ReaderStream.{ReaderStream}
use Rattle.reader_stream.specs.declared.Finished.{Finished}
use Rattle.reader_stream.proofs.Runs.{numbers, kept_le}
use Rattle.reader_stream.proofs.Histories.{every_end}

-- the kept symbols are whole patterns, and their bits the kept ones
pub kept_mod : (rate : ℕ) → kept_symbols rate % symbols_per_pattern rate ≡ 0
unfolding kept_symbols
kept_mod rate = mul-mod_right (symbols_per_pattern rate) (kept_patterns rate)

pub kept_length : (rate : ℕ) → rate < qpsk_count → (l : List ℕ) → length l ≡ kept_symbols rate → length_of_run rate l ≡ kept_bits rate
unfolding kept_symbols kept_bits
kept_length rate hr l e =
    ap (λ (k : ℕ). pattern_length rate * k) (ap (λ (k : ℕ). k / symbols_per_pattern rate) e ∙ mul-div_right (kept_patterns rate) (some_symbols rate hr))

pub kept_symbols_lem : (rate : ℕ) → kept_symbols rate ≡ symbols_per_pattern rate * kept_patterns rate
unfolding kept_symbols
kept_symbols_lem rate = refl

pub kept_bits_lem : (rate : ℕ) → kept_bits rate ≡ pattern_length rate * kept_patterns rate
unfolding kept_bits
kept_bits_lem rate = refl

pub no_more : (x a s : ℕ) → a < s → x + a / s ≡ x
no_more x a s h = let z : a / s ≡ 0 = div-eq_of_lt h in omega arith

-- What is decided of symbols that were received clearly, however many more are to come, is the bits that were sent; the memory is the coder's, and what
-- is left is clear about the coding of the other bits. So many patterns are decided.
pub record GivenBack {R : Type 0} (cost : R → ℕ → ℕ) (rate m : ℕ) (bits rest : List ℕ) (rs : List R) (out : List ℕ) (last : ℕ) (left : List R) : Type 0 where
  pub given : out ≡ take (length out) bits
  pub memory : last ≡ memory_after m (take (length out) bits)
  pub behind : List ℕ
  pub others : behind ++ rest ≡ symbols_of (coder_at rate last) (drop (length out) bits)
  pub clear : AllClear cost left behind
  pub patterns : ℕ
  pub out_length : length out ≡ pattern_length rate * patterns
  pub came : length rs ≡ symbols_per_pattern rate * patterns + length left

pub stream_given_back : {R : Type 0} (cost : R → ℕ → ℕ) (rate : ℕ) → rate < qpsk_count → (m : ℕ) → m < 64 → (bits : List ℕ) → Bits bits
    → {rs left : List R} {ss out : List ℕ} {last : ℕ} (rest : List ℕ) → AllClear cost rs ss → ss ++ rest ≡ symbols_of (coder_at rate m) bits
    → Decided cost rate m rs out last left → GivenBack cost rate m bits rest rs out last left
unfolding memory_after
stream_given_back cost rate hr m hm bits w {rs} {ss = ss} rest g e (few l) =
    record {
      given = refl;
      memory = refl;
      behind = ss;
      others = e;
      clear = g;
      patterns = 0;
      out_length = omega arith;
      came = omega arith;
    }
stream_given_back cost rate hr m hm bits w {ss = ss} {last = last} rest g e (run {rs = rs} {left} {out} best total after full d r) =
    let n = numbers rate hr in
    let F = full_symbols rate in
    let K = kept_symbols rate in
    let B = kept_bits rate in
    let long : F ≤ length ss = omega (arith, clear_length g) in
    -- the run is clear about the coding of its bits
    let fs : List ℕ = take F ss in
    let lf : length fs ≡ F = length-take-le F ss long in
    let wf : length fs % symbols_per_pattern rate ≡ 0 = ap (λ (k : ℕ). k % symbols_per_pattern rate) lf ∙ n.full_whole in
    let ef : fs ++ (drop F ss ++ rest) ≡ symbols_of (coder_at rate m) bits = sym (append_assoc fs (drop F ss) rest) ∙ (ap (λ (x : List ℕ). x ++ rest) (take-append-drop F ss) ∙ e) in
    let N = length_of_run rate fs in
    let kept-fits : B ≤ N = rw (ap (run_bits rate) lf) (kept_le rate hr) in
    let nf : N ≤ length bits = fits rate hr m hm bits w fs (drop F ss ++ rest) wf ef in
    let ob = clear_best cost rate m hr hm (bits_take N w) (ap (λ (k : ℕ). k % pattern_length rate) (length-take-le N bits nf) ∙ run_whole rate hr (length fs)) (take F rs) fs
    (front_is rate hr m hm bits w fs (drop F ss ++ rest) wf ef) (clear_take F g)
    (subst (λ (k : ℕ). Decoded (run_cost (map cost (take F rs)) rate m) (run_bits rate k) m best total after) (sym lf) d) in
    -- so are the kept symbols
    let ks : List ℕ = take K ss in
    let lk : length ks ≡ K = length-take-le K ss (omega (arith, n.kept_fewer)) in
    let wk : length ks % symbols_per_pattern rate ≡ 0 = ap (λ (k : ℕ). k % symbols_per_pattern rate) lk ∙ kept_mod rate in
    let ek : ks ++ (drop K ss ++ rest) ≡ symbols_of (coder_at rate m) bits = sym (append_assoc ks (drop K ss) rest) ∙ (ap (λ (x : List ℕ). x ++ rest) (take-append-drop K ss) ∙ e) in
    let rk : length_of_run rate ks ≡ B = kept_length rate hr ks lk in
    let t : take B best ≡ take B bits =
    ap (take B) ob.0 ∙ take-take B N bits kept-fits in
    let b0 = back_is rate hr m hm bits w ks (drop K ss ++ rest) wk ek in
    let m' : memory_after m (take B best) ≡ memory_after m (take B bits) = ap (memory_after m) t in
    let back : drop K ss ++ rest ≡ symbols_of (coder_at rate (memory_after m (take B best))) (drop B bits) =
    b0 ∙ (λ i. symbols_of (coder_at rate (ap (λ (k : ℕ). memory_after m (take k bits)) rk i)) (drop (rk i) bits)) ∙ ap (λ (x : ℕ). symbols_of (coder_at rate x) (drop B bits)) (sym m') in
    let hm' : memory_after m (take B best) < 64 = rw m' (memory_in_range rate m hr hm (bits_take B w)) in
    let ih = stream_given_back cost rate hr (memory_after m (take B best)) hm' (drop B bits) (bits_drop B w) rest (clear_drop K g) back r in
    let lb : length (take B best) ≡ B = ap length t ∙ length-take-le B bits (omega (arith, nf, kept-fits)) in
    let lo : length (take B best ++ out) ≡ B + length out = length-append (take B best) out ∙ ap (λ (k : ℕ). k + length out) lb in
    let j : take (length (take B best ++ out)) bits ≡ take B bits ++ take (length out) (drop B bits) = ap (λ (k : ℕ). take k bits) lo ∙ take-add B (length out) bits in
    record {
      given = ap₂ (λ (x y : List ℕ). x ++ y) t ih.given ∙ sym j;
      memory =
          ih.memory
          ∙ (ap (λ (x : ℕ). memory_after x (take (length out) (drop B bits))) m'
          ∙ (sym (memory_append m (take B bits) (take (length out) (drop B bits))) ∙ ap (memory_after m) (sym j)));
      behind = ih.behind;
      others = ih.others ∙ ap (symbols_of (coder_at rate last)) (drop-drop (length out) B bits ∙ ap (λ (k : ℕ). drop k bits) (sym lo));
      clear = ih.clear;
      patterns = kept_patterns rate + ih.patterns;
      out_length = lo ∙ omega (arith, kept_bits_lem rate, ih.out_length, mul-add (pattern_length rate) (kept_patterns rate) ih.patterns);
      came =
          omega (arith, kept_symbols_lem rate, ih.came, mul-add (symbols_per_pattern rate) (kept_patterns rate) ih.patterns, length-drop K rs, n.kept_fewer);
    }

-- ---- to the end

-- What a whole stream gives, of which so many symbols came: the bits that were sent up to the last whole pattern among them. The symbols behind it are
-- counted, and in no bit.
pub record WholeStream (rate : ℕ) (bits : List ℕ) (came : ℕ) (out : List ℕ) (rest : ℕ) : Type 0 where
  pub given : out ≡ take (run_bits rate came) bits
  pub within : run_bits rate came ≤ length bits
  pub behind : rest ≡ came % symbols_per_pattern rate

-- of what was decided from a memory on, and what the end of the stream gives
pub decided_whole : {R : Type 0} (cost : R → ℕ → ℕ) (rate : ℕ) → rate < qpsk_count → (m : ℕ) → m < 64 → (bits : List ℕ) → Bits bits → (rs left : List R) (ss unread : List ℕ) → AllClear cost rs ss
    → ss ++ unread ≡ symbols_of (coder_at rate m) bits → {out : List ℕ} {last : ℕ} → Decided cost rate m rs out last left
    → {output exit : List ℕ} {count rest : ℕ} → EndDecided cost rate last left output count rest exit → WholeStream rate bits (length rs) (out ++ take count exit) rest
decided_whole cost rate hr m hm bits w rs left ss unread g e {out} {last} d {output} {exit} {count} {rest} end =
    let p = pattern_length rate in
    let s = symbols_per_pattern rate in
    let b = stream_given_back cost rate hr m hm bits w unread g e d in
    let hl : last < 64 = rw b.memory (memory_in_range rate m hr hm (bits_take (length out) w)) in
    let others : List ℕ = drop (length out) bits in
    -- the whole patterns that are left
    let k : ℕ = s * end.whole in
    let ks : List ℕ = take k b.behind in
    let lb : length left ≡ length b.behind = clear_length b.clear in
    let lk : length ks ≡ k = length-take-le k b.behind (omega (arith, end.split)) in
    let wk : length ks % s ≡ 0 = ap (λ (j : ℕ). j % s) lk ∙ mul-mod_right s end.whole in
    let ek : ks ++ (drop k b.behind ++ unread) ≡ symbols_of (coder_at rate last) others =
    sym (append_assoc ks (drop k b.behind) unread) ∙ (ap (λ (x : List ℕ). x ++ unread) (take-append-drop k b.behind) ∙ b.others) in
    let N = length_of_run rate ks in
    let v = bits_drop (length out) w in
    let nf : N ≤ length others = fits rate hr last hl others v ks (drop k b.behind ++ unread) wk ek in
    let o = end.bits in
    let lt : length (take k left) ≡ length ks = length-take-le k left (omega (arith, end.split)) ∙ sym lk in
    let best = clear_best cost rate last hr hl (bits_take N v) (ap (λ (j : ℕ). j % p) (length-take-le N others nf) ∙ run_whole rate hr (length ks)) (take k left) ks
    (front_is rate hr last hl others v ks (drop k b.behind ++ unread) wk ek) (clear_take k b.clear)
    (subst (λ (j : ℕ). Decoded (run_cost (map cost (take k left)) rate last) (run_bits rate j) last o.bits end.total end.after) lt o.decoded) in
    let lo : length o.bits ≡ N = o.decoded.best.size ∙ ap (run_bits rate) lt in
    let t : take count exit ≡ take N others =
    ap₂ take (o.counted ∙ ap (run_bits rate) lt) o.written ∙ take_at o.bits _ N lo ∙ best.0 in
    -- how far that is
    let whole : length rs ≡ s * (b.patterns + end.whole) + rest = omega (arith, b.came, end.split, mul-add s b.patterns end.whole) in
    let q : length rs / s ≡ b.patterns + end.whole =
    ap (λ (j : ℕ). j / s) whole ∙ mul-add-div (some_symbols rate hr) (b.patterns + end.whole) rest ∙ no_more (b.patterns + end.whole) rest s end.few in
    let nk : N ≡ p * end.whole = ap (λ (j : ℕ). p * (j / s)) lk ∙ ap (λ (j : ℕ). p * j) (mul-div_right end.whole (some_symbols rate hr)) in
    let far : length out + N ≡ run_bits rate (length rs) = omega (arith, b.out_length, nk, mul-add p b.patterns end.whole, ap (λ (j : ℕ). p * j) q) in
    record {
      given = ap₂ (λ (x y : List ℕ). x ++ y) b.given t ∙ (sym (take-add (length out) N bits) ∙ ap (λ (j : ℕ). take j bits) far);
      within = omega (arith, far, nf, length-drop (length out) bits, ap length b.given, length-take (length out) bits);
      behind = sym (ap (λ (j : ℕ). j % s) whole ∙ (mul-add-mod_self_left s (b.patterns + end.whole) rest ∙ mod-eq_of_lt end.few));
    }

-- so of a stream that was read to its end
pub read_whole : {R : Type 0} (cost : R → ℕ → ℕ) (rate : ℕ) (bits : List ℕ) → Bits bits → (rs : List R) (ss unread : List ℕ) → AllClear cost rs ss
    → ss ++ unread ≡ symbols_of (coder_at rate 0) bits → {out : List ℕ} {rest : ℕ} → ReadToEnd cost rate rs out rest → WholeStream rate bits (length rs) out rest
read_whole cost rate bits w rs ss unread g e {rest = rest} r =
    subst (λ (l : List ℕ). WholeStream rate bits (length rs) l rest) (sym r.bits_are) (decided_whole cost rate r.known 0 (omega arith) bits w rs r.left ss unread g e r.runs r.end)

-- What it gives as bytes: those of the bits that were sent up to the last whole pattern that came.
pub record WholeBytes (rate : ℕ) (bits : List ℕ) (came : ℕ) (bytes : List ℕ) (rest left_bits : ℕ) : Type 0 where
  pub given : bytes ≡ packed_bytes (take (run_bits rate came) bits)
  pub within : run_bits rate came ≤ length bits
  pub behind : rest ≡ came % symbols_per_pattern rate
  pub bits_left : left_bits ≡ run_bits rate came % 8

-- Whatever pieces their pairs came in, symbols that were received clearly give the bits that were sent, up to the last whole pattern; those behind it
-- are told as the rest.
pub stream_whole : {R : Type 0} (cost : R → ℕ → ℕ) (rate : ℕ) (bits : List ℕ) → Bits bits → (rs : List R) (ss unread : List ℕ) → AllClear cost rs ss
    → ss ++ unread ≡ symbols_of (coder_at rate 0) bits → {pairs bytes : List ℕ} {s : ReaderStream} → ReaderFeedings rate pairs bytes s → Costed cost rs pairs
    → {output exit : List ℕ} {f : Finished} → FinishesReader s output f exit → WholeBytes rate bits (length rs) (bytes ++ take f.count exit) f.rest f.bits
stream_whole cost rate bits w rs ss unread g e feedings c finished =
    let k = every_end cost feedings rs c finished in
    let h = read_whole cost rate bits w rs ss unread g e k.read in
    record {
      given = k.bytes_are ∙ ap packed_bytes h.given;
      within = h.within;
      behind = h.behind;
      bits_left = k.bits_left ∙ ap (λ (n : ℕ). n % 8) (ap length h.given ∙ length-take-le (run_bits rate (length rs)) bits h.within);
    }

-- by hard decisions
pub hard_whole : (rate : ℕ) (bits : List ℕ) → Bits bits → (ss unread : List ℕ) → ss ++ unread ≡ symbols_of (coder_at rate 0) bits
    → {pairs bytes : List ℕ} {s : ReaderStream} → ReaderFeedings rate pairs bytes s → Costed differing ss pairs
    → {output exit : List ℕ} {f : Finished} → FinishesReader s output f exit → WholeBytes rate bits (length ss) (bytes ++ take f.count exit) f.rest f.bits
hard_whole rate bits w ss unread e feedings c finished = stream_whole differing rate bits w ss ss unread (hard_clear ss) e feedings c finished

-- by soft decisions on the points of the symbols, 1.0 for 0 and -1.0 for 1
abbrev pub signal_points : List ℕ → List ReceivedSymbol
signal_points ss = received_of (signals_i ss) (signals_q ss) (none_lost ss)

pub all_front : (a b : List ℕ) → All (λ s. s < 4) (a ++ b) → All (λ s. s < 4) a
all_front [] b h = tt
all_front (x ∷ a) b h = (h.0, all_front a b h.1)

pub soft_whole : (rate : ℕ) (bits : List ℕ) → Bits bits → (ss unread : List ℕ) → ss ++ unread ≡ symbols_of (coder_at rate 0) bits
    → {pairs bytes : List ℕ} {s : ReaderStream} → ReaderFeedings rate pairs bytes s → Costed softly (signal_points ss) pairs
    → {output exit : List ℕ} {f : Finished} → FinishesReader s output f exit → WholeBytes rate bits (length ss) (bytes ++ take f.count exit) f.rest f.bits
soft_whole rate bits w ss unread e {bytes = bytes} feedings c {exit = exit} {f} finished =
    let hr : rate < qpsk_count = (every_end softly feedings (signal_points ss) c finished).read.known in
    let g = signals_clear ss (all_front ss unread (subst (All (λ s. s < 4)) (sym e) (sent_small rate 0 hr (omega arith) w))) in
    subst (λ (n : ℕ). WholeBytes rate bits n (bytes ++ take f.count exit) f.rest f.bits) (clear_length g)
    (stream_whole softly rate bits w (signal_points ss) ss unread g e feedings c finished)

-- Where all the symbols of the bits came, that is as far as the last whole pattern of the bits.
pub last_pattern : (rate : ℕ) → rate < qpsk_count → (bits : List ℕ) → Bits bits → run_bits rate (length (symbols_of (coder_at rate 0) bits)) ≡ pattern_length rate * (length bits / pattern_length rate)
last_pattern rate hr bits w =
    let s = symbols_per_pattern rate in
    let p = pattern_length rate in
    let n : length (symbols_of (coder_at rate 0) bits) ≡ s * (length bits / p) + symbols_in rate 0 (length bits % p) =
    length_symbols (coder_at rate 0) (at_start rate 0 hr (omega arith)) w ∙ symbols_divided rate hr (length bits) in
    ap (λ (k : ℕ). p * k)
    (ap (λ (k : ℕ). k / s) n ∙ mul-add-div (some_symbols rate hr) (length bits / p) (symbols_in rate 0 (length bits % p)) ∙ no_more (length bits / p) (symbols_in rate 0 (length bits % p)) s (rest_few rate hr (length bits)))
