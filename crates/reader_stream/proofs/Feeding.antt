-- What feeding the runs takes of a piece, which bits are decided then, and the loop over the pairs of a piece.
-- Assumes nothing.
use mathlib.Core.Path.{◌≡◌, refl, sym, ap, ap₂, subst, ◌∙◌}
use mathlib.Core.List.{List, [], ◌++◌, append-nil, append_assoc}
use Prim.Native.Nat.{ℕ, ◌+◌, ◌*◌, ◌-◌, ◌≤◌, ◌<◌}
use native.Mathlib.Omega.{arith}
use borrow.Rule.Slice.PartMut.{put_mid}
use lib.ListN.{length, take, drop, length-append, length-take, length-drop}
use lib.Seq.{length-take-le, take-length, take-append-le, take_at, take-add}
use Rattle.bit_packing.specs.Packing.{carried_bits, Packs}
use Rattle.bit_packing.proofs.Packing.{carried_length, packs_fit, packs_all, packs_none, packs_put}
use Rattle.convolutional_code.specs.Bits.{Bits, none}
use Rattle.convolutional_code.proofs.Bits.{bits_take}
use Rattle.reader_stream.specs.Runs.{full_symbols, kept_bits, kept_symbols, DecidedPairs, few_pairs, run_pairs, RunsReady, FeedsSymbols, gathered, read, held_of, ClosesRuns}
use Rattle.reader_stream.specs.declared.symbol_runs.SymbolRuns.{SymbolRuns}
use Rattle.reader_stream.proofs.Runs.{numbers, held_length, short_run, kept_le}
use Rattle.reader_stream.proofs.Histories.{joined}
use Rattle.viterbi_decoder.specs.Best.{Decoded}
use Rattle.puncturing.specs.Mode.{qpsk_count}
use Rattle.reader.specs.Cost.{run_cost, costs_of}
use Rattle.reader.specs.Read.{symbols_per_pattern, run_bits}
use Rattle.reader_stream.specs.Stream.{held_pairs, ReaderReady, FeedsReader}
use Rattle.reader_stream.specs.declared.ReaderStream.{ReaderStream}

-- a piece that is not empty is taken in part at least, and the bits that are decided stand in the output
taken_some : {s next : SymbolRuns} {piece output exit : List ℕ} {taken count : ℕ} → RunsReady s → FeedsSymbols s piece output next taken count exit → 0 < length piece
    → (0 < taken) × (taken ≤ length piece) × (count ≤ 1632)
taken_some {s} {piece = piece} g (gathered l et ec ex h) some = (omega arith, omega arith, omega arith)
taken_some {s} {piece = piece} {taken = taken} g (read pairs es le size ec after f h) some =
    let n = numbers s.rate g.known in (
      omega (arith, size, ap length es, length-append (held_of s) (take taken piece), length-take taken piece, length-take s.count s.held, g.below),
      le,
      omega (arith, n.bits_fewer),
    )

-- the last bits of a stream stand in the output too
pub closed_few : {s : SymbolRuns} {output exit : List ℕ} {count rest : ℕ} → RunsReady s → ClosesRuns s output count rest exit → count ≤ 1632
closed_few {s} g c =
    omega (
      arith,
      c.bits.counted,
      short_run s.rate (symbols_per_pattern s.rate * c.whole) (omega (arith, c.split, g.below)),
    )

-- ---- what is decided is bits

pub fed_bits : {s next : SymbolRuns} {piece output exit : List ℕ} {taken count : ℕ} → RunsReady s → FeedsSymbols s piece output next taken count exit → Bits (take count exit)
fed_bits {exit = exit} g (gathered l et ec ex h) = subst (λ (k : ℕ). Bits (take k exit)) (sym ec) none
fed_bits {s} {output = output} {exit} {count = count} g (read pairs es le size ec after f h) =
    let rate = s.rate in
    let n = numbers rate g.known in
    let o = f.out in
    let most : count ≤ length o.bits = omega (arith, kept_le rate g.known, o.decoded.best.size, ap (run_bits rate) size) in
    rw (o.written, take-append-le count o.bits (drop (run_bits rate (length pairs)) output) most) (bits_take count o.decoded.best.binary)

pub closed_bits_lem : {s : SymbolRuns} {output exit : List ℕ} {count rest : ℕ} → ClosesRuns s output count rest exit → Bits (take count exit)
closed_bits_lem {count = count} c =
    let o = c.bits in
    rw (o.written, take_at o.bits _ count (o.decoded.best.size ∙ sym o.counted)) o.decoded.best.binary

-- ---- the space that the bytes take

-- no more than two bits are decided for each symbol
pub fed_space : {s next : SymbolRuns} {piece output exit : List ℕ} {taken count : ℕ} → RunsReady s → RunsReady next → FeedsSymbols s piece output next taken count exit
    → count + 2 * next.count ≤ 2 * (s.count + taken)
fed_space {s} {next} {piece} g r (gathered l et ec ex h) =
    omega (arith, held_length next r, ap length h.held_is, length-append (held_of s) piece, held_length s g)
fed_space {s} {next} {piece} {taken = taken} g r (read pairs es le size ec after f h) =
    let n = numbers s.rate g.known in
    omega (
      arith,
      held_length next r,
      ap length h.held_is,
      length-drop (kept_symbols s.rate) pairs,
      size,
      ap length es,
      length-append (held_of s) (take taken piece),
      length-take-le taken piece le,
      held_length s g,
      n.bits_double,
      n.kept_fewer,
    )

-- ---- what is decided of the pairs that are taken

-- the rate stays
pub rate_kept : (s : SymbolRuns) (piece output : List ℕ) {next : SymbolRuns} {taken count : ℕ} {exit : List ℕ} → FeedsSymbols s piece output next taken count exit → next.rate ≡ s.rate
rate_kept s piece output (gathered l et ec ex h) = h.rate_is
rate_kept s piece output (read pairs es le size ec after f h) = h.rate_is

pub fed_decided : {s next : SymbolRuns} {piece output exit : List ℕ} {taken count : ℕ} → RunsReady s → FeedsSymbols s piece output next taken count exit
    → DecidedPairs s.rate s.memory (held_of s ++ take taken piece) (take count exit) next.memory (held_of next)
fed_decided {s} {piece = piece} {taken = taken} g (gathered l et ec ex h) =
    let a : take taken piece ≡ piece = ap (λ (k : ℕ). take k piece) et ∙ take-length piece in
    rw (a, h.memory_is, h.held_is, ec) (few_pairs {pairs = held_of s ++ piece} l)
fed_decided {s} {piece = piece} {exit = exit} {taken} {count} g (read pairs es le size ec after f h) =
    let rate = s.rate in
    let m = s.memory in
    let n = numbers rate g.known in
    let o = f.out in
    let all : take (full_symbols rate) pairs ≡ pairs = ap (λ (k : ℕ). take k pairs) (sym size) ∙ take-length pairs in
    let d : Decoded (run_cost (costs_of (take (full_symbols rate) pairs)) rate m) (run_bits rate (full_symbols rate)) m o.bits f.total f.last =
    rw all (subst (λ (k : ℕ). Decoded (run_cost (costs_of pairs) rate m) (run_bits rate k) m o.bits f.total f.last) size o.decoded) in
    let t : take count exit ≡ take (kept_bits rate) o.bits ++ [] =
    ap₂ take ec o.written
    ∙ (take-append-le (kept_bits rate) o.bits _ (omega (arith, kept_le rate g.known, o.decoded.best.size, ap (run_bits rate) size)) ∙ sym (append-nil (take (kept_bits rate) o.bits))) in
    rw (sym es, t, h.memory_is, h.held_is, f.leaves)
    (run_pairs {pairs = pairs} o.bits f.total f.last (omega arith) d (few_pairs {pairs = drop (kept_symbols rate) pairs} (omega (arith, length-drop (kept_symbols rate) pairs, size, n.kept_some))))

-- ---- the loop over pairs

-- so many of the pairs were taken, and so many bytes packed
pub record Feeding (start : SymbolRuns) (carry₀ held₀ : ℕ) (pairs output₀ output : List ℕ) (runs : SymbolRuns) (carry held count at : ℕ) : Type 0 where
  pub ready : RunsReady runs
  pub rate_is : runs.rate ≡ start.rate
  pub most : at ≤ length pairs
  pub bits : List ℕ
  pub decided : DecidedPairs start.rate start.memory (held_of start ++ take at pairs) bits runs.memory (held_of runs)
  pub packed : Packs (carried_bits carry₀ held₀) bits output₀ carry held count output
  pub space : length bits + 2 * runs.count ≤ 2 * (start.count + at)

pub feeding_none : (s : ReaderStream) → ReaderReady s → (pairs output : List ℕ) → Feeding s.runs s.carry s.held pairs output output s.runs s.carry s.held 0 0
feeding_none s g pairs output =
    let r = g.runs_ready in
    record {
      ready = r;
      rate_is = refl;
      most = omega arith;
      bits = [];
      decided = rw (append-nil (held_pairs s)) (few_pairs {pairs = held_pairs s} (omega (arith, held_length s.runs r, r.below)));
      packed = packs_none s.carry s.held output g.few;
      space = omega arith;
    }

module _ {start runs : SymbolRuns} {carry₀ held₀ : ℕ} (going : RunsReady start) (few : held₀ < 8) {pairs output₀ output : List ℕ}
    (fits : held₀ + 2 * (start.count + length pairs) < 8 * length output + 8) {carry held count at : ℕ} (here : at < length pairs) (g : Feeding start carry₀ held₀ pairs output₀ output runs carry held count at) where
  abbrev piece : List ℕ
  piece = take (length pairs - at) (drop at pairs)

  size : length piece ≡ length pairs - at
  size = length-take-le (length pairs - at) (drop at pairs) (omega (arith, length-drop at pairs))

  all : piece ≡ drop at pairs
  all = let e : length pairs - at ≡ length (drop at pairs) = sym (length-drop at pairs) in ap (λ (k : ℕ). take k (drop at pairs)) e ∙ take-length (drop at pairs)

  -- the part of the output behind the bytes that stand there
  abbrev behind : List ℕ
  behind = take (length output - count) (drop count output)

  behind_is : behind ≡ drop count output
  behind_is =
      let e : length output - count ≡ length (drop count output) = sym (length-drop count output) in ap (λ (k : ℕ). take k (drop count output)) e ∙ take-length (drop count output)

  module _ {lent exit : List ℕ} {next : SymbolRuns} {taken decided : ℕ} (f : FeedsSymbols runs piece lent next taken decided exit) (r : RunsReady next) where
    pub fed_some : (0 < taken) × (at + taken ≤ length pairs) × (decided ≤ 1632)
    fed_some = let t = taken_some g.ready f (omega (arith, size)) in (t.0, omega (arith, t.1, size), t.2)

    -- all the bits that are decided by now
    few_bits : held₀ + (length g.bits + decided) < 8 * length output + 8
    few_bits = omega (arith, fits, fed_some.1, g.space, fed_space g.ready r f)

    pub pack_fits : (held < 8) × (Bits (take decided exit)) × (held + length (take decided exit) < 8 * length behind + 8)
    pack_fits = (
      g.packed.few,
      fed_bits g.ready f,
      omega (
        arith,
        length-take decided exit,
        packs_all g.packed,
        packs_fit g.packed,
        length-append (carried_bits carry₀ held₀) g.bits,
        carried_length carry₀ held₀ (omega (arith, few)),
        few,
        few_bits,
        ap length behind_is,
        length-drop count output,
      ),
    )

    -- the bytes of these bits, behind those that stand there
    pub feeding_more : {carry' held' n : ℕ} {last : List ℕ} → Packs (carried_bits carry held) (take decided exit) behind carry' held' n last
        → Feeding start carry₀ held₀ pairs output₀ (put_mid count (length output - count) output last) next carry' held' (count + n) (at + taken)
    feeding_more {carry'} {held'} {n} {last} p =
        let t = fed_some in
        let more : List ℕ = take decided exit in
        let hr : start.rate < qpsk_count = going.known in
        let front : held_of start ++ take at pairs ++ take taken piece ≡ held_of start ++ take (at + taken) pairs =
        append_assoc (held_of start) (take at pairs) (take taken piece)
        ∙ ap (λ (l : List ℕ). held_of start ++ l) (ap (λ (l : List ℕ). take at pairs ++ take taken l) all ∙ sym (take-add at taken pairs)) in
        record {
          ready = r;
          rate_is = rate_kept runs piece lent f ∙ g.rate_is;
          most = t.1;
          bits = g.bits ++ more;
          decided =
              subst (λ (l : List ℕ). DecidedPairs start.rate start.memory l (g.bits ++ more) next.memory (held_of next)) front
              (joined hr g.decided (take taken piece)
              (subst (λ (j : ℕ). DecidedPairs j runs.memory (held_of runs ++ take taken piece) more next.memory (held_of next)) g.rate_is (fed_decided g.ready f)));
          packed = packs_put g.packed more p;
          space = omega (arith, length-append g.bits more, length-take decided exit, g.space, fed_space g.ready r f);
        }

    -- no more bytes than the output has
    pub count_fits : {carry' held' n : ℕ} {last : List ℕ} → Packs (carried_bits carry held) (take decided exit) behind carry' held' n last → length last ≡ length behind
        → count + n ≤ length output
    count_fits p e = omega (arith, packs_fit p, packs_fit g.packed, ap length behind_is, length-drop count output)

-- all of them were taken
pub feeding_all : (s : ReaderStream) {runs : SymbolRuns} {pairs output₀ output : List ℕ} {carry held count at : ℕ}
    → Feeding s.runs s.carry s.held pairs output₀ output runs carry held count at → length pairs ≤ at
    → FeedsReader s pairs output₀ (record { runs = runs; carry = carry; held = held }) count output
feeding_all s {runs} {pairs} {at = at} g h =
    let k : at ≡ length pairs = omega (arith, g.most) in
    record {
      ready = record { runs_ready = g.ready; few = g.packed.few };
      rate_is = g.rate_is;
      bits = g.bits;
      decided =
          subst (λ (l : List ℕ). DecidedPairs s.runs.rate s.runs.memory (held_pairs s ++ l) g.bits runs.memory (held_of runs))
          (ap (λ (k : ℕ). take k pairs) k ∙ take-length pairs) g.decided;
      packed = g.packed;
    }

-- ---- room for any piece

-- a byte for each four symbols, and those of a longest run
pub room_enough : (s : ReaderStream) → ReaderReady s → (n room : ℕ) → n + 1632 ≤ 4 * room → s.held + 2 * (s.runs.count + n) < 8 * room + 8
room_enough s g n room h = omega (arith, g.few, g.runs_ready.below, (numbers s.runs.rate g.runs_ready.known).full_most)
