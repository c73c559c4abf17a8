-- Whatever pieces the symbols of a reading came in, its bits are those that overlapping runs decide of all of them, and its blocks are the aligner's.
-- Assumes nothing.
use mathlib.Core.Path.{◌≡◌, refl, sym, ◌∙◌, ap, subst}
use mathlib.Core.Bool.{Bool, true, false}
use mathlib.Core.List.{List, [], ◌++◌, map, append-nil, append_assoc, map-append}
use Prim.Native.Nat.{ℕ, ◌+◌, ◌*◌, ◌<◌}
use native.Mathlib.Nat.{add-zero}
use native.Mathlib.Omega.{arith}
use lib.Dec.{ltb}
use lib.ListN.{length, take, drop, replicate, length-append}
use lib.Seq.{take-add, take-length}
use Rattle.common.specs.Choice.{pick}
use Rattle.puncturing.specs.Mode.{qpsk_count}
use Rattle.reader_stream.specs.Runs.{full_symbols, DecidedPairs, few_pairs, held_of}
use Rattle.reader_stream.specs.declared.symbol_runs.SymbolRuns.{SymbolRuns}
use Rattle.reader_stream.proofs.Runs.{held_length}
use Rattle.reader_stream.proofs.Feeding.{fed_decided, rate_kept}
use Rattle.reader_stream.proofs.Histories.{joined}
use Rattle.symbol_turns.specs.Turn.{undoing, turned_pair}
use Rattle.free_start.specs.Lead.{lead_symbols}
use Rattle.node_search.specs.declared.Hypothesis.{Hypothesis}
use Rattle.node_search.proofs.Truth.{map-take}
use Rattle.block_sync.specs.History.{step_given, SyncFeedings, fresh, feeding}
use Rattle.block_sync.specs.declared.GivenBlock.{GivenBlock}
use Rattle.block_sync.specs.declared.BlockSync.{BlockSync}
use Rattle.block_sync.specs.declared.SyncStep.{SyncStep}
use Rattle.std.specs.Prelude.{Option, Some, None, is_some, option_map, option_to_list}
use Rattle.acquisition.specs.Reading.{symbol_at, turn_read, turn_told, used_by, TakesBits, block_found, event_of, SettlesBits}
use Rattle.acquisition.specs.End.{ClosesReading}
use Rattle.acquisition.specs.declared.Reading.{Reading}
use Rattle.acquisition.specs.declared.FoundBlock.{FoundBlock}
use Rattle.sent_acquisition.specs.Readings.{block_in, ReadingFeedings, begun, reading, ReadingCame, ReadingClosed}

-- ---- the aligner's part of a call

-- two feedings of the aligner
takes_fed : {bits : List ℕ} {given : List GivenBlock} {skipped : ℕ} {s : BlockSync} → SyncFeedings bits given skipped s → (piece : List ℕ) (d : SyncStep) → TakesBits s piece d
    → SyncFeedings (bits ++ piece) (given ++ step_given d) (skipped + d.skipped) d.sync
takes_fed {bits} {given} {skipped} f piece d t =
    let a = t.first in
    let b = t.second in
    let two = feeding (drop a.taken piece) b (feeding piece a f t.decides) t.gathers in
    let all : bits ++ take a.taken piece ++ take b.taken (drop a.taken piece) ≡ bits ++ piece =
    append_assoc bits (take a.taken piece) (take b.taken (drop a.taken piece))
    ∙ ap (λ (l : List ℕ). bits ++ l) (sym (take-add a.taken b.taken piece) ∙ (ap (λ (n : ℕ). take n piece) t.whole ∙ take-length piece)) in
    let blocks : given ++ step_given a ++ step_given b ≡ given ++ step_given a =
    ap (λ (x : Option GivenBlock). given ++ step_given a ++ option_to_list x) t.none_given ∙ append-nil (given ++ step_given a) in
    let skips : skipped + a.skipped + b.skipped ≡ skipped + a.skipped = ap (λ (n : ℕ). skipped + a.skipped + n) t.none_skipped ∙ add-zero (skipped + a.skipped) in
    subst (λ (x : SyncStep). SyncFeedings (bits ++ piece) (given ++ step_given x) (skipped + x.skipped) x.sync) (sym t.result)
    (subst (λ (n : ℕ). SyncFeedings (bits ++ piece) (given ++ step_given a) n b.sync) skips
    (subst (λ (g : List GivenBlock). SyncFeedings (bits ++ piece) g (skipped + a.skipped + b.skipped) b.sync) blocks
    (subst (λ (l : List ℕ). SyncFeedings l (given ++ step_given a ++ step_given b) (skipped + a.skipped + b.skipped) b.sync) all two)))

-- the block of a call is the aligner's
block_is : (rate turn first used : ℕ) (d : SyncStep) → step_given d ≡ block_in (event_of (block_found rate turn first used d) d.skipped)
block_is rate turn first used d = by d.block (ltb 0 d.skipped) refl
  where
    as_found : GivenBlock → FoundBlock
    as_found b = record {
      begins = b.begins;
      rate = rate;
      turn = turn_told turn d.sync.lock.inverted;
      start = symbol_at rate first (used + d.skipped);
      end = symbol_at rate first (used + d.skipped + 1632);
      bytes = b.bytes;
    }

    by : (o : Option GivenBlock) (lost : Bool) → ltb 0 d.skipped ≡ lost → option_to_list o ≡ block_in (event_of (option_map as_found o) d.skipped)
    by (Some g) lost e = refl
    by None true e = rw e refl
    by None false e = rw e refl

-- its bits
block_size : (o : Option GivenBlock) → pick (is_some o) 1632 0 ≡ 1632 * length (option_to_list o)
block_size (Some g) = refl
block_size None = refl

settled_block : (k : Reading) (runs : SymbolRuns) (taken : ℕ) (bits : List ℕ) (r : _) (s : SettlesBits k runs taken bits r) → step_given s.decided ≡ block_in r.event
settled_block k runs taken bits r s =
    block_is k.runs.rate k.turn k.first k.used s.decided ∙ ap block_in (sym s.event_is)

-- ---- the theorems

pub reading_came : {h : Hypothesis} {mirrored : Bool} {first : ℕ} {symbols : List ℕ} {given : List GivenBlock} {k : Reading} → ReadingFeedings h mirrored first symbols given k
    → ReadingCame h.rate (turn_read h mirrored) first symbols given k
reading_came {h} {mirrored} {k = k} (begun b) =
    let lead : List ℕ = replicate (lead_symbols h.rate) 80 in
    let short : length lead < full_symbols h.rate =
    subst (λ (r : ℕ). length lead < full_symbols r) b.lead.rate_is (omega (arith, held_length k.runs b.ready, ap length b.lead.held_is, b.ready.below)) in
    record {
      ready = b.ready;
      rate_is = b.lead.rate_is;
      turn_is = b.turn_is;
      first_is = b.first_is;
      bits = [];
      decided =
          rw (b.lead.memory_is, b.lead.held_is, append-nil lead) (few_pairs {pairs = lead} short);
      skipped = 0;
      aligned = subst (SyncFeedings [] [] 0) (sym b.sync_is) fresh;
      used_is = b.none_used;
    }
reading_came {h} {mirrored} {first} (reading {symbols} {given} {k} piece r before f) =
    let c = reading_came before in
    let rate = h.rate in
    let turn = turn_read h mirrored in
    let s = f.settles in
    let d = s.decided in
    let more : List ℕ = take f.count f.exit in
    let back : ℕ → ℕ = turned_pair (undoing turn) in
    let lead : List ℕ = replicate (lead_symbols rate) 80 in
    let hr : rate < qpsk_count = rw (sym c.rate_is) c.ready.known in
    let part : take f.taken (map (turned_pair (undoing k.turn)) piece) ≡ map back (take r.taken piece) =
    ap (λ (t : ℕ). take f.taken (map (turned_pair (undoing t)) piece)) c.turn_is
    ∙ (sym (map-take back f.taken piece) ∙ ap (λ (n : ℕ). map back (take n piece)) (sym s.taken_is)) in
    let fed : DecidedPairs rate k.runs.memory (held_of k.runs ++ map back (take r.taken piece)) more f.next.memory (held_of f.next) =
    subst (λ (l : List ℕ). DecidedPairs rate k.runs.memory (held_of k.runs ++ l) more f.next.memory (held_of f.next)) part
    (subst (λ (n : ℕ). DecidedPairs n k.runs.memory (held_of k.runs ++ take f.taken (map (turned_pair (undoing k.turn)) piece)) more f.next.memory (held_of f.next))
    c.rate_is (fed_decided c.ready f.feeds)) in
    let all : lead ++ map back symbols ++ map back (take r.taken piece) ≡ lead ++ map back (symbols ++ take r.taken piece) =
    append_assoc lead (map back symbols) (map back (take r.taken piece)) ∙ ap (λ (l : List ℕ). lead ++ l) (sym (map-append back symbols (take r.taken piece))) in
    subst (λ (x : Reading). ReadingCame rate turn first (symbols ++ take r.taken piece) (given ++ block_in r.event) x) (sym s.reading)
    (subst (λ (g : List GivenBlock). ReadingCame rate turn first (symbols ++ take r.taken piece) (given ++ g) (record { turn = k.turn; runs = f.next; sync = d.sync; first = k.first; used = k.used + used_by d })) (settled_block k f.next f.taken more r s)
    (record {
      ready = f.ready;
      rate_is = rate_kept k.runs (map (turned_pair (undoing k.turn)) piece) f.output f.feeds ∙ c.rate_is;
      turn_is = c.turn_is;
      first_is = c.first_is;
      bits = c.bits ++ more;
      decided =
          subst (λ (l : List ℕ). DecidedPairs rate 0 l (c.bits ++ more) f.next.memory (held_of f.next)) all
          (joined hr c.decided (map back (take r.taken piece)) fed);
      skipped = c.skipped + d.skipped;
      aligned = takes_fed c.aligned more d s.takes;
      used_is =
          omega (
            arith,
            c.used_is,
            length-append given (step_given d),
            block_size d.block,
          );
    }))

-- what the end of the symbols adds
pub reading_closed : {rate turn first : ℕ} {symbols : List ℕ} {given : List GivenBlock} {k : Reading} (c : ReadingCame rate turn first symbols given k) (r : _) → ClosesReading k r
    → ReadingClosed c (block_in r.event) r.reading.sync
reading_closed {given = given} {k} c r f =
    let bits : List ℕ = c.bits ++ take f.count f.exit in
    let s = f.settles in
    record {
      output = f.output;
      exit = f.exit;
      count = f.count;
      rest = f.rest;
      closes = f.closes;
      skipped = c.skipped + s.decided.skipped;
      aligned =
          subst (SyncFeedings bits (given ++ block_in r.event) (c.skipped + s.decided.skipped)) (sym (ap (λ (x : Reading). x.sync) s.reading))
          (subst (λ (g : List GivenBlock). SyncFeedings bits (given ++ g) (c.skipped + s.decided.skipped) s.decided.sync) (settled_block k f.opened 0 (take f.count f.exit) r s)
          (takes_fed c.aligned (take f.count f.exit) s.decided s.takes));
    }
