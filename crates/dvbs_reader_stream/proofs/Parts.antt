-- A stream reader fed with some of the decisions after the others: what it comes to, and that the room lasts.
-- Assumes nothing.
use mathlib.Core.Path.{◌≡◌, refl, sym, ap, subst, ◌∙◌}
use mathlib.Core.List.{List, [], ◌++◌, map, append-nil, append_assoc}
use Prim.Native.Nat.{ℕ, ◌+◌, ◌-◌, ◌*◌, ◌≤◌, ◌<◌}
use native.Mathlib.Omega.{arith}
use borrow.Rule.Slice.PartMut.{put_mid, same_len_mid}
use lib.Ieee.{Float, nan}
use lib.ListN.{length, get_or, take, drop, length-append, length-take, length-drop, length-map}
use lib.Seq.{length-take-le, take-length, take-add, ext_get_or, get_or-take, get_or-drop}
use Rattle.std.specs.Prelude.{None}
use Rattle.common.specs.Lists.{All}
use Rattle.common.proofs.Lists.{All-of, All-at, get_d_map_in}
use Rattle.bit_packing.proofs.Packing.{carried_length, packs_all, packs_fit, packs_none, packs_put}
use Rattle.branch_metrics.specs.Cost.{received, received_of}
use Rattle.branch_metrics.specs.SoftPairs.{symbol_pair, symbol_at}
use Rattle.branch_metrics.proofs.Runs.{length_received, received_at, along_small}
use Rattle.puncturing.specs.Mode.{qpsk_count}
use Rattle.reader.specs.Decisions.{hard_pair}
use Rattle.reader.proofs.Decisions.{written_small}
use Rattle.reader_stream.specs.Runs.{kept_symbols, kept_bits, DecidedPairs, few_pairs, run_pairs}
use Rattle.reader_stream.specs.Stream.{held_pairs, held_bits, ReaderReady, FeedsReader}
use Rattle.reader_stream.specs.declared.ReaderStream.{ReaderStream}
use Rattle.reader_stream.proofs.Runs.{numbers, held_length, back_whole}
use Rattle.reader_stream.proofs.Histories.{joined}

-- no more than two bits are decided for each symbol
decided_space : {rate : ℕ} → rate < qpsk_count → {m last : ℕ} {pairs out left : List ℕ} → DecidedPairs rate m pairs out last left → length out + 2 * length left ≤ 2 * length pairs
decided_space hr (few_pairs l) = omega arith
decided_space {rate} hr (run_pairs {pairs = pairs} {out = out} bits total after full d r) =
    let n = numbers rate hr in
    let i = decided_space hr r in
    omega (arith, length-append (take (kept_bits rate) bits) out, length-take (kept_bits rate) bits, length-drop (kept_symbols rate) pairs, n.bits_double, n.kept_fewer)

-- so many of the pairs were fed
pub record Fed (s : ReaderStream) (all output₀ output : List ℕ) (next : ReaderStream) (count at : ℕ) : Type 0 where
  pub most : at ≤ length all
  pub feeds : FeedsReader s (take at all) output₀ next count output
  pub same : length output ≡ length output₀

pub fed_none : (s : ReaderStream) → ReaderReady s → (all output : List ℕ) → Fed s all output output s 0 0
fed_none s g all output =
    let r = g.runs_ready in
    record {
      most = omega arith;
      feeds =
          record {
            ready = g;
            rate_is = refl;
            bits = [];
            decided = rw (append-nil (held_pairs s)) (few_pairs {pairs = held_pairs s} (omega (arith, held_length s.runs r, r.below)));
            packed = packs_none s.carry s.held output g.few;
          };
      same = refl;
    }

pub fed_all : {s next : ReaderStream} {all output₀ output : List ℕ} {count at : ℕ} → Fed s all output₀ output next count at → length all ≤ at
    → FeedsReader s all output₀ next count output
fed_all {s} {next} {all} {output₀} {output} {count} {at} f h =
    let k : at ≡ length all = omega (arith, f.most) in
    subst (λ (l : List ℕ). FeedsReader s l output₀ next count output) (ap (λ (i : ℕ). take i all) k ∙ take-length all) f.feeds

module _ {s next : ReaderStream} (going : ReaderReady s) {all output₀ output : List ℕ} (fits : s.held + 2 * (s.runs.count + length all) < 8 * length output₀ + 8)
    {count at : ℕ} (f : Fed s all output₀ output next count at) where
  pub within : count ≤ length output
  within = packs_fit f.feeds.packed

  -- the part of the output behind the bytes that stand there
  abbrev behind : List ℕ
  behind = take (length output - count) (drop count output)

  behind_is : behind ≡ drop count output
  behind_is = back_whole output count

  behind_length : length behind ≡ length output - count
  behind_length = ap length behind_is ∙ length-drop count output

  -- the room that is left is enough for some pairs more
  pub room_left : (n : ℕ) → at + n ≤ length all → next.held + 2 * (next.runs.count + n) < 8 * length behind + 8
  room_left n h =
      let d = decided_space going.runs_ready.known f.feeds.decided in
      let p = packs_all f.feeds.packed in
      let c = carried_length s.carry s.held (omega (arith, going.few)) in
      let a = length-append (held_bits s) f.feeds.bits in
      let l = length-append (held_pairs s) (take at all) in
      let t = length-take-le at all f.most in
      let b = held_length s.runs going.runs_ready in
      let e = held_length next.runs f.feeds.ready.runs_ready in
      omega (arith, behind_length, within, f.same, fits)

  -- these are fed
  pub fed_more : (piece : List ℕ) (n : ℕ) → piece ≡ take n (drop at all) → at + n ≤ length all → {after : ReaderStream} {more : ℕ} {last : List ℕ}
      → FeedsReader next piece behind after more last → length last ≡ length behind
      → Fed s all output₀ (put_mid count (length output - count) output last) after (count + more) (at + n)
  fed_more piece n is h {after} {more} {last} g len =
      let front : held_pairs s ++ take at all ++ piece ≡ held_pairs s ++ take (at + n) all =
      append_assoc (held_pairs s) (take at all) piece ∙ ap (λ (l : List ℕ). held_pairs s ++ l) (ap (λ (l : List ℕ). take at all ++ l) is ∙ sym (take-add at n all)) in
      record {
        most = h;
        feeds =
            record {
              ready = g.ready;
              rate_is = g.rate_is ∙ f.feeds.rate_is;
              bits = f.feeds.bits ++ g.bits;
              decided =
                  subst (λ (l : List ℕ). DecidedPairs s.runs.rate s.runs.memory l (f.feeds.bits ++ g.bits) after.runs.memory (held_pairs after)) front
                  (joined going.runs_ready.known f.feeds.decided piece
                  (subst (λ (j : ℕ). DecidedPairs j next.runs.memory (held_pairs next ++ piece) g.bits after.runs.memory (held_pairs after)) f.feeds.rate_is g.decided));
              packed = packs_put f.feeds.packed g.bits g.packed;
            };
        same = same_len_mid count (length output - count) output last len ∙ f.same;
      }

  -- and count no more bytes than the output has
  pub count_within : {piece last : List ℕ} {after : ReaderStream} {more : ℕ} → FeedsReader next piece behind after more last → length last ≡ length behind → count + more ≤ length output
  count_within g len = omega (arith, packs_fit g.packed, len, behind_length, within)

-- ---- the decisions on some of the symbols

pub part_valid : (at n : ℕ) (symbols : List ℕ) → at + n ≤ length symbols → All (λ s. s < 4) symbols → All (λ s. s < 4) (take n (drop at symbols))
part_valid at n symbols h valid =
    All-of (λ s. s < 4) (take n (drop at symbols)) 0
    (λ i b.
    let c : i < n = omega (arith, length-take n (drop at symbols)) in
    subst (λ (x : ℕ). x < 4) (sym (get_or-take n (drop at symbols) i 0 c ∙ get_or-drop at symbols i 0)) (All-at (λ s. s < 4) symbols 0 (at + i) valid (omega arith)))

module _ (at n : ℕ) (pairs : List ℕ) (long : n ≤ length pairs) where
  -- by their places
  same_part : (all : List ℕ) → at + n ≤ length all → ((t : ℕ) → t < n → get_or pairs t 0 ≡ get_or all (at + t) 0) → take n pairs ≡ take n (drop at all)
  same_part all h w =
      let k : length (take n pairs) ≡ n = length-take-le n pairs long in
      let m : length (take n (drop at all)) ≡ n = length-take-le n (drop at all) (omega (arith, length-drop at all)) in
      ext_get_or 0 (take n pairs) (take n (drop at all)) (k ∙ sym m)
      (λ i b.
      let c : i < n = omega (arith, k) in
      get_or-take n pairs i 0 c ∙ w i c ∙ sym (get_or-take n (drop at all) i 0 c ∙ get_or-drop at all i 0))

  -- of symbols, where the part is as long as is said otherwise
  module _ (symbols : List ℕ) (h : at + n ≤ length symbols) (k : ℕ) (e : k ≡ n) (w : (t : ℕ) → t < length (take k (drop at symbols)) → get_or pairs t 0 ≡ hard_pair (get_or (take k (drop at symbols)) t 0)) where
    own : (t : ℕ) → t < length (take n (drop at symbols)) → get_or pairs t 0 ≡ hard_pair (get_or (take n (drop at symbols)) t 0)
    own = subst (λ (j : ℕ). (t : ℕ) → t < length (take j (drop at symbols)) → get_or pairs t 0 ≡ hard_pair (get_or (take j (drop at symbols)) t 0)) e w

    pub hard_part : take n pairs ≡ take n (drop at (map hard_pair symbols))
    hard_part =
        let m : length (take n (drop at symbols)) ≡ n = length-take-le n (drop at symbols) (omega (arith, length-drop at symbols)) in
        same_part (map hard_pair symbols) (omega (arith, length-map symbols hard_pair))
        (λ t b. own t (omega (arith, m)) ∙ ap hard_pair (get_or-take n (drop at symbols) t 0 b ∙ get_or-drop at symbols t 0) ∙ sym (get_d_map_in hard_pair symbols 0 0 (at + t) (omega arith)))

    pub hard_small : All (λ s. s < 4) symbols → All (λ p. p < 81) (take n pairs)
    hard_small valid =
        let part = take n (drop at symbols) in
        let m : length part ≡ n = length-take-le n (drop at symbols) (omega (arith, length-drop at symbols)) in
        written_small part pairs (part_valid at n symbols h valid) own (omega (arith, m)) n (sym m)

  module _ (is qs : List Float) (lost : List ℕ) (qs_size : length qs ≡ length is) (lost_size : length lost ≡ length is) (h : at + n ≤ length is)
      (k : ℕ) (e : k ≡ n) (w : (t : ℕ) → t < length (take k (drop at is)) → get_or pairs t 0 ≡ symbol_pair (symbol_at (take k (drop at is)) (take k (drop at qs)) (take k (drop at lost)) t)) where
    each : (t : ℕ) → t < length (take n (drop at is)) → get_or pairs t 0 ≡ symbol_pair (symbol_at (take n (drop at is)) (take n (drop at qs)) (take n (drop at lost)) t)
    each = subst (λ (j : ℕ). (t : ℕ) → t < length (take j (drop at is)) → get_or pairs t 0 ≡ symbol_pair (symbol_at (take j (drop at is)) (take j (drop at qs)) (take j (drop at lost)) t)) e w

    size : length (take n (drop at is)) ≡ n
    size = length-take-le n (drop at is) (omega (arith, length-drop at is))

    pub soft_part : take n pairs ≡ take n (drop at (map symbol_pair (received_of is qs lost)))
    soft_part =
        let rs = received_of is qs lost in
        let k = length_received is qs lost qs_size lost_size in
        same_part (map symbol_pair rs) (omega (arith, length-map rs symbol_pair))
        (λ t b.
        each t (omega (arith, size))
        ∙ ap symbol_pair (λ i. received (float is t b i) (float qs t b i) ((get_or-take n (drop at lost) t 0 b ∙ get_or-drop at lost t 0) i))
        ∙ ap symbol_pair (sym (received_at is qs lost qs_size lost_size (at + t) (omega arith)))
        ∙ sym (get_d_map_in symbol_pair rs None 0 (at + t) (omega arith)))
      where
        float : (l : List Float) (t : ℕ) → t < n → get_or (take n (drop at l)) t nan ≡ get_or l (at + t) nan
        float l t b = get_or-take n (drop at l) t nan b ∙ get_or-drop at l t nan

    pub soft_small : All (λ p. p < 81) (take n pairs)
    soft_small = along_small (symbol_at (take n (drop at is)) (take n (drop at qs)) (take n (drop at lost))) n pairs long (λ t b. each t (omega (arith, size)))
