-- Whatever pieces the pairs of symbols came in, what is read of them is what is read of all of them at once; and the end.
-- Assumes nothing.
use mathlib.Core.Path.{◌≡◌, refl, sym, ◌∙◌, ap, ap₂, subst}
use mathlib.Core.List.{List, [], ◌++◌, map, append_assoc}
use Prim.Native.Nat.{ℕ, ◌+◌, ◌-◌, ◌*◌, ◌%◌, ◌<◌, ◌≤◌}
use native.Mathlib.Nat.{mul-mod_right}
use native.Mathlib.Omega.{arith}
use lib.ListN.{length, take, drop, length-append}
use lib.Seq.{take-append-le, drop-append-le, length-take-le}
use Rattle.common.specs.Lists.{rest_of}
use Rattle.common.proofs.Chunks.{length_rest, rest_few}
use Rattle.convolutional_code.specs.Code.{memory_after}
use Rattle.convolutional_code.proofs.Bits.{bits_take}
use Rattle.viterbi_decoder.specs.Best.{Decoded}
use Rattle.viterbi_decoder.proofs.Laws.{decoded_unique}
use Rattle.puncturing.specs.Mode.{qpsk_count}
use Rattle.reader.specs.Cost.{run_cost, costs_of, Costed}
use Rattle.reader.specs.Read.{symbols_per_pattern, run_bits, BestRead}
use Rattle.reader.proofs.Patterns.{memory_in_range}
use Rattle.reader.proofs.Costs.{excess}
use Rattle.reader.proofs.Reading.{decoded_as, read_as}
use Rattle.bit_packing.specs.Packing.{packed_bytes, carried_bits}
use Rattle.reader_stream.specs.Runs.{full_symbols, kept_symbols, kept_bits, Decided, few, run, DecidedPairs, few_pairs, run_pairs, EndDecided, held_of, RunsReady, ClosesRuns}
use Rattle.reader_stream.specs.Stream.{held_pairs, held_bits, FinishesReader}
use Rattle.reader_stream.specs.History.{ReaderFeedings, none, feeding, PairsRead, SymbolsRead, SymbolsEnded}
use Rattle.reader_stream.specs.declared.symbol_runs.SymbolRuns.{SymbolRuns}
use Rattle.reader_stream.specs.declared.ReaderStream.{ReaderStream}
use Rattle.reader_stream.specs.declared.Finished.{Finished}
use Rattle.bit_packing.proofs.Bytes.{packed_few}
use Rattle.bit_packing.proofs.Packing.{carried_length, packs_on}
use Rattle.reader_stream.proofs.Costs.{costed_take, costed_drop}
use Rattle.reader_stream.proofs.Runs.{numbers, held_length}

-- ---- pairs

-- what is decided of some pairs, and then of those left with more of them, is what is decided of all
pub joined : {rate : ℕ} → rate < qpsk_count → {m k last : ℕ} {a h h' out out' : List ℕ} → DecidedPairs rate m a out k h → (b : List ℕ)
    → DecidedPairs rate k (h ++ b) out' last h' → DecidedPairs rate m (a ++ b) (out ++ out') last h'
joined hr (few_pairs l) b d = d
joined {rate} hr {m} {k} {last} {h' = h'} {out' = out'} (run_pairs {pairs = pairs} {out = out} bits total after full e r) b d =
    let n = numbers rate hr in
    let f : full_symbols rate ≤ length (pairs ++ b) = omega (arith, length-append pairs b) in
    subst (λ (l : List ℕ). DecidedPairs rate m (pairs ++ b) l last h') (sym (append_assoc (take (kept_bits rate) bits) out out'))
    (run_pairs bits total after f (rw (take-append-le (full_symbols rate) pairs b full) e)
    (rw (drop-append-le (kept_symbols rate) pairs b (omega (arith, n.kept_fewer))) (joined hr r b d)))

-- one result
decided_unique : {rate m last last' : ℕ} {pairs left left' out out' : List ℕ} → DecidedPairs rate m pairs out last left → DecidedPairs rate m pairs out' last' left'
    → (out ≡ out') × (last ≡ last') × (left ≡ left')
decided_unique (few_pairs l) (few_pairs l') = (refl, refl, refl)
decided_unique (few_pairs l) (run_pairs bits total after full d r) = absurd (omega arith)
decided_unique (run_pairs bits total after full d r) (few_pairs l) = absurd (omega arith)
decided_unique {rate} {m} {last' = last'} {pairs} {left' = left'} (run_pairs bits total after full d r) (run_pairs {out = rest} bits' total' after' full' d' r') =
    let s = decoded_unique (run_cost (costs_of (take (full_symbols rate) pairs)) rate m) (run_bits rate (full_symbols rate)) m d d' in
    let e : take (kept_bits rate) bits' ≡ take (kept_bits rate) bits = ap (take (kept_bits rate)) (sym s.bits) in
    let i = decided_unique r (subst (λ (l : List ℕ). DecidedPairs rate (memory_after m l) (drop (kept_symbols rate) pairs) rest last' left') e r') in
    (ap₂ (λ (x y : List ℕ). x ++ y) (sym e) i.0, i.1, i.2)

-- ---- the symbols that the pairs are of

pub record SymbolsDecided {R : Type 0} (cost : R → ℕ → ℕ) (rate m : ℕ) (rs : List R) (out : List ℕ) (last : ℕ) (pairs : List ℕ) : Type 0 where
  pub left : List R
  pub decided : Decided cost rate m rs out last left
  pub held : Costed cost left pairs

pub symbols_decided : {R : Type 0} (cost : R → ℕ → ℕ) {rate m : ℕ} → rate < qpsk_count → m < 64 → {pairs out left : List ℕ} {last : ℕ} → DecidedPairs rate m pairs out last left
    → (rs : List R) → Costed cost rs pairs → SymbolsDecided cost rate m rs out last left
symbols_decided cost {rate} hr hm (few_pairs l) rs c = record { left = rs; decided = few {rs = rs} (omega (arith, c.size)); held = c }
symbols_decided {R} cost {rate} {m} hr hm {left = left} {last} (run_pairs {pairs = pairs} {out = out} bits total after full d r) rs c =
    let n = numbers rate hr in
    let F = full_symbols rate in
    let long : F ≤ length rs = omega (arith, c.size) in
    let front : Costed cost (take F rs) (take F pairs) = costed_take cost F c in
    let lr : length (take F rs) ≡ F = length-take-le F rs long in
    let q : length (take F pairs) ≡ F = front.size ∙ lr in
    let less : ℕ = total - excess front.extra (length (take F rs)) in
    let e : Decoded (run_cost (map cost (take F rs)) rate m) (run_bits rate F) m bits less after =
    subst (λ (k : ℕ). Decoded (run_cost (map cost (take F rs)) rate m) (run_bits rate k) m bits less after) lr
    (decoded_as cost (take F rs) (take F pairs) front rate m hr hm (ap (λ (k : ℕ). k % symbols_per_pattern rate) lr ∙ n.full_whole)
    (subst (λ (k : ℕ). Decoded (run_cost (costs_of (take F pairs)) rate m) (run_bits rate k) m bits total after) (sym q) d)) in
    let i = symbols_decided cost hr (memory_in_range rate m hr hm (bits_take (kept_bits rate) d.best.binary)) r (drop (kept_symbols rate) rs)
    (costed_drop cost (kept_symbols rate) c) in
    record { left = i.left; decided = run {rs = rs} bits less after long e i.decided; held = i.held }

-- what runs hold of symbols is read at their end as far as it makes whole patterns
pub closed_end : {R : Type 0} (cost : R → ℕ → ℕ) (r : SymbolRuns) → RunsReady r → (left : List R) → Costed cost left (held_of r) → {output exit : List ℕ} {count rest : ℕ} → ClosesRuns r output count rest exit
    → EndDecided cost r.rate r.memory left output count rest exit
closed_end cost r g left c {output} {exit} {count} {rest} e =
    let p = symbols_per_pattern r.rate in
    let k : ℕ = p * e.whole in
    let n : length left ≡ rest + k = omega (arith, c.size, held_length r g, e.split) in
    let l : length (take k left) ≡ k = length-take-le k left (omega arith) in
    let ck : Costed cost (take k left) (take k (held_of r)) = costed_take cost k c in
    let q : length (take k (held_of r)) ≡ k = ck.size ∙ l in
    record {
      whole = e.whole;
      split = sym n;
      few = e.few;
      total = e.total - excess ck.extra (length (take k left));
      after = e.after;
      bits =
          read_as cost (take k left) (take k (held_of r)) ck r.rate r.memory g.known g.in_range_lem (ap (λ (j : ℕ). j % p) l ∙ mul-mod_right p e.whole)
          (subst (λ (j : ℕ). BestRead (run_cost (costs_of (take k (held_of r))) r.rate r.memory) (run_bits r.rate j) r.memory output e.after e.total count exit) (sym q) e.bits);
    }

-- ---- every history

-- Whatever pieces the pairs came in, the bytes so far are those of the bits that overlapping runs decide of all of them.
pub every_history : {rate : ℕ} {pairs bytes : List ℕ} {s : ReaderStream} → ReaderFeedings rate pairs bytes s → PairsRead rate pairs bytes s
unfolding carried_bits
every_history {rate} {s = s} (none f) =
    let g = f.ready.runs_ready in
    let n = numbers s.runs.rate g.known in
    record {
      ready = f.ready;
      rate_is = f.empty.rate_is;
      bits = [];
      decided = rw (f.empty.memory_is, f.empty.held_is) (few_pairs {pairs = []} (rw (sym f.empty.rate_is) (omega (arith, n.kept_some, n.kept_fewer))));
      bytes_are = sym (packed_few [] (omega arith));
      bits_left = ap (λ (k : ℕ). carried_bits s.carry k) f.none_held ∙ sym (rest_few 8 (omega arith) [] (omega arith));
    }
every_history {rate} {s = next} (feeding {pairs} {s = s} piece output exit count before f) =
    let b = every_history before in
    let p = packs_on b.bits s.carry s.held b.bytes_are b.bits_left f.bits f.packed in
    let hr : rate < qpsk_count = rw (sym b.rate_is) b.ready.runs_ready.known in
    record {
      ready = f.ready;
      rate_is = f.rate_is ∙ b.rate_is;
      bits = b.bits ++ f.bits;
      decided =
          joined hr b.decided piece
          (subst (λ (r : ℕ). DecidedPairs r s.runs.memory (held_pairs s ++ piece) f.bits next.runs.memory (held_pairs next)) b.rate_is f.decided);
      bytes_are = p.0;
      bits_left = p.1;
    }

-- so any two ways of cutting them give the same bytes, and hold the same
pub any_pieces : {rate : ℕ} {pairs bytes bytes' : List ℕ} {s s' : ReaderStream} → ReaderFeedings rate pairs bytes s → ReaderFeedings rate pairs bytes' s'
    → (bytes ≡ bytes') × (held_pairs s ≡ held_pairs s') × (held_bits s ≡ held_bits s')
any_pieces f f' =
    let a = every_history f in
    let b = every_history f' in
    let u = decided_unique a.decided b.decided in
    (a.bytes_are ∙ ap packed_bytes u.0 ∙ sym b.bytes_are, u.2, a.bits_left ∙ ap (rest_of 8) u.0 ∙ sym b.bits_left)

module _ {R : Type 0} (cost : R → ℕ → ℕ) {rate : ℕ} {pairs bytes : List ℕ} {s : ReaderStream} (feedings : ReaderFeedings rate pairs bytes s) (rs : List R) (c : Costed cost rs pairs) where
  came : PairsRead rate pairs bytes s
  came = every_history feedings

  known : rate < qpsk_count
  known = rw (sym came.rate_is) came.ready.runs_ready.known

  -- the same of the symbols, of whatever kind, that the pairs are of
  pub every_symbol : SymbolsRead cost rate rs bytes s
  every_symbol =
      let d = symbols_decided cost known (omega arith) came.decided rs c in
      record {
        bits = came.bits;
        left = d.left;
        decided = d.decided;
        held = d.held;
        bytes_are = came.bytes_are;
        bits_left = came.bits_left;
      }

  -- ---- the end

  -- Whatever pieces the symbols came in, what is given to the end is the bytes of the bits of all of them.
  pub every_end : {output exit : List ℕ} {f : Finished} → FinishesReader s output f exit → SymbolsEnded cost rate rs (bytes ++ take f.count exit) f.rest f.bits
  every_end {exit = exit} {f} e =
      let h = every_symbol in
      let bits : List ℕ = h.bits ++ take e.decided e.buffer in
      let p = packs_on h.bits s.carry s.held h.bytes_are h.bits_left (take e.decided e.buffer) e.packed in
      record {
        bits = bits;
        read =
            record {
              known = known;
              decided = h.bits;
              memory = s.runs.memory;
              left = h.left;
              runs = h.decided;
              output = e.lent;
              exit = e.buffer;
              count = e.decided;
              end = subst (λ (k : ℕ). EndDecided cost k s.runs.memory h.left e.lent e.decided f.rest e.buffer) came.rate_is (closed_end cost s.runs came.ready.runs_ready h.left h.held e.closed);
              bits_are = refl;
            };
        bytes_are = p.0;
        bits_left = omega (arith, carried_length e.carry f.bits (omega (arith, e.packed.few)), ap length p.1, length_rest 8 bits);
      }
