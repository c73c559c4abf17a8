-- Acquisition stays ready: what a step leaves is in its ranges.
-- Assumes nothing.
use mathlib.Core.Path.{◌≡◌, refl, sym, ◌∙◌, ap, subst}
use mathlib.Core.Bool.{Bool, true, false}
use mathlib.Core.Logic.{⊎_elim}
use mathlib.Core.List.{List, [], ◌++◌, map}
use Prim.Native.Nat.{ℕ, ◌+◌, ◌-◌, ◌%◌, ◌<◌, ◌≤◌, min}
use native.Mathlib.Omega.{arith}
use native.Mathlib.Nat.{eq-zero-or-pos}
use lib.Dec.{eqb}
use lib.ListN.{length, take, drop, replicate, length-append, length-take, length-drop, length-replicate, length-map}
use lib.Seq.{length-take-le, take-append_seam, take_all}
use Rattle.common.specs.Choice.{pick}
use Rattle.common.specs.Lists.{All, padded}
use Rattle.reader_stream.proofs.Runs.{all_drop, drop-take, held_length}
use Rattle.symbol_turns.specs.Turn.{undoing, turned_pair}
use Rattle.free_start.specs.Lead.{lead_symbols}
use Rattle.node_search.specs.Search.{FoundKnown}
use Rattle.node_search.specs.declared.Hypothesis.{Hypothesis}
use Rattle.node_search.specs.declared.Search.{Search}
use Rattle.block_sync.specs.Feed.{fresh_block_sync}
use Rattle.block_sync.specs.declared.BlockSync.{BlockSync}
use Rattle.acquisition.specs.Reading.{turn_read, Begins, ReadingReady, ReadsSymbols, used_by}
use Rattle.acquisition.specs.Step.{pending_of, searching_on, reading_on, window_of, ReadingOf, PhaseReady, AcquisitionReady, AfterSearch, found, nothing, several, ends_reading, mirrored_next, lost_reading, after_reading}
use Rattle.acquisition.specs.declared.Reading.{Reading}
use Rattle.acquisition.specs.declared.Phase.{Phase}
use Rattle.acquisition.specs.declared.Acquisition.{Acquisition}
use Rattle.acquisition.specs.declared.ReadStep.{ReadStep}
use Rattle.acquisition.specs.declared.Event.{Event}
use Rattle.acquisition.specs.declared.Event.TheVariants.{Waits, Block, Lost}
use Rattle.acquisition.proofs.Numbers.{rate_numbers}
use Rattle.acquisition.proofs.Bits.{padded_length, taken_few}
use Rattle.acquisition.proofs.Symbols.{run_counts}

-- ---- symbols that are pending

pub pending_are : (l : List ℕ) → take (length l) (padded 1632 l) ≡ l
pending_are l = take-append_seam l (replicate (1632 - length l) 0)

pub searching_ready : (rate : ℕ) (mirrored : Bool) (l : List ℕ) (came : ℕ) → rate < 6 → length l < 1632 → All (λ p. p < 81) l → length l ≤ came → came < 1152921504606846976
    → AcquisitionReady (searching_on rate mirrored l came)
searching_ready rate mirrored l came k n a h b = record {
  counts = b;
  phase_ready = record {
    searched_known = k;
    window_size = padded_length 1632 l (omega (arith, n));
    window_few = n;
    window_small = subst (All (λ p. p < 81)) (sym (pending_are l)) a;
    window_came = h;
  };
}

pub reading_ready : (rate : ℕ) (mirrored : Bool) (k : Reading) (l : List ℕ) (came : ℕ) → rate < 6 → length l ≤ 1632 → All (λ p. p < 81) l → length l ≤ came
    → came < 1152921504606846976 → ReadingOf (reading_on rate mirrored k l came) → AcquisitionReady (reading_on rate mirrored k l came)
reading_ready rate mirrored k l came r n a m b h = record {
  counts = b;
  phase_ready = record {
    read_known = r;
    pending_size = padded_length 1632 l n;
    pending_few = n;
    pending_small = subst (All (λ p. p < 81)) (sym (pending_are l)) a;
    pending_came = m;
    reading_of = h;
  };
}

-- ---- after a search

turn_small : (h : Hypothesis) (mirrored : Bool) → h.turn < 8 → turn_read h mirrored < 8
turn_small h mirrored l = go (eqb h.rate 3) mirrored
  where
    go : (a b : Bool) → pick a (pick b ((h.turn + 4) % 8) h.turn) h.turn < 8
    go true true = omega arith
    go true false = l
    go false b = l

pub fresh_sized : length fresh_block_sync.bits ≡ 8168
unfolding fresh_block_sync
fresh_sized = length-replicate {A = ℕ} 8168 0

pub fresh_none : fresh_block_sync.held ≡ 0
unfolding fresh_block_sync
fresh_none = refl

-- a reading that begins holds its lead alone
begun_of : (rate : ℕ) (mirrored : Bool) (h : Hypothesis) (k : Reading) (window : List ℕ) (came : ℕ) → length window ≡ 1632 → 1632 ≤ came → came < 1152921504606846976
    → h.rate < 5 → h.offset ≤ 1632 → h.turn < 8 → Begins h mirrored (came - 1632 + h.offset) k → ReadingOf (reading_on rate mirrored k (drop h.offset window) came)
begun_of rate mirrored h k window came n c m r o t b =
    let count : k.runs.count ≡ lead_symbols h.rate =
    sym (held_length k.runs b.ready) ∙ ap length b.lead.held_is ∙ length-replicate {A = ℕ} (lead_symbols h.rate) 80 in
    let few = (rate_numbers h.rate r).few_leads in
    let sized : length fresh_block_sync.bits ≡ 8168 = fresh_sized in
    let none : fresh_block_sync.held ≡ 0 = fresh_none in
    let held : k.sync.held ≡ 0 = ap (λ (x : BlockSync). x.held) b.sync_is ∙ none in
    record {
      ready = record {
        runs_ready = b.ready;
        turn_small = subst (λ (x : ℕ). x < 8) (sym b.turn_is) (turn_small h mirrored t);
        sync_sized = ap (λ (x : BlockSync). length x.bits) b.sync_is ∙ sized;
        sync_small = omega (arith, held);
        counts = omega (arith, b.first_is, b.none_used, m, o);
      };
      first_came = omega (arith, b.first_is, c, o);
      bits_counted = omega (arith, b.first_is, b.none_used, held, count, few, c, o, n, length-drop h.offset window);
    }

pub after_search_ready : (rate : ℕ) (mirrored : Bool) (came : ℕ) (window : List ℕ) (search : Search) (next : Acquisition) → rate < 6 → length window ≡ 1632 → All (λ p. p < 81) window
    → 1632 ≤ came → came < 1152921504606846976 → FoundKnown search → AfterSearch rate mirrored came window search next → AcquisitionReady next
after_search_ready rate mirrored came window _ _ k n a c m v (found h r b) =
    let o : h.offset ≤ 1632 = omega (arith, v.1) in
    reading_ready rate mirrored r (drop h.offset window) came k (omega (arith, n, length-drop h.offset window)) (all_drop h.offset window a)
    (omega (arith, n, c, length-drop h.offset window)) m
    (begun_of rate mirrored h r window came n c m v.0 o v.2 b)
after_search_ready rate mirrored came window _ _ k n a c m v nothing = searching_ready rate mirrored [] came k (omega arith) tt (omega arith) m
after_search_ready rate mirrored came window _ _ k n a c m v several = searching_ready rate mirrored [] came k (omega arith) tt (omega arith) m

-- ---- after a part of a reading

-- What is left of a reading: symbols that are pending afterwards, and how many came then.
read_of : (s : Acquisition) (symbols pending : List ℕ) (came : ℕ) (t : ReadStep) → ReadingOf s → length symbols ≤ 1632 → s.came ≤ came → came < 1152921504606846976
    → t.taken + length pending + s.came ≡ s.held + came
    → ReadsSymbols s.reading symbols t → (rate : ℕ) (mirrored : Bool) → ReadingOf (reading_on rate mirrored t.reading pending came)
read_of s symbols pending came t g n c b e x rate mirrored =
    let k = s.reading in
    let ready = g.ready in
    let d = x.settles.decided in
    let few = taken_few k.sync (take x.count x.exit) d ready.sync_sized ready.sync_small x.settles.takes in
    let runs = run_counts ready.runs_ready x.ready x.feeds in
    let bits : length (take x.count x.exit) ≤ x.count = front_most x.count x.exit in
    let y : ReadingOf (reading_on rate mirrored (record { turn = k.turn; runs = x.next; sync = d.sync; first = k.first; used = k.used + used_by d }) pending came) =
    record {
      ready = record {
        runs_ready = x.ready;
        turn_small = ready.turn_small;
        sync_sized = few.sized;
        sync_small = few.held_few;
        counts = omega (arith, g.first_came, c, b, g.bits_counted, few.whole, bits, runs.balance, few.used_few, x.settles.taken_is, e);
      };
      first_came = omega (arith, g.first_came, c);
      bits_counted = omega (arith, g.first_came, g.bits_counted, few.whole, bits, runs.balance, x.settles.taken_is, e, c);
    } in
    subst (λ (z : Reading). ReadingOf (reading_on rate mirrored z pending came)) (sym x.settles.reading) y
  where
    front_most : (m : ℕ) (l : List ℕ) → length (take m l) ≤ m
    front_most m l = omega (arith, length-take m l)

pub after_reading_ready : (s : Acquisition) (symbols pending : List ℕ) (came : ℕ) (t : ReadStep) → s.rate < 6 → ReadingOf s → length symbols ≤ 1632 → All (λ p. p < 81) pending
    → length pending < 1632 → length pending ≤ came → s.came ≤ came → came < 1152921504606846976 → t.taken + length pending + s.came ≡ s.held + came
    → ReadsSymbols s.reading symbols t → (event : Event) → AcquisitionReady (after_reading s t pending came event)
after_reading_ready s symbols pending came t k g n a l m c b e x Waits =
    reading_ready s.rate s.mirrored t.reading pending came k (omega (arith, l)) a m b (read_of s symbols pending came t g n c b e x s.rate s.mirrored)
after_reading_ready s symbols pending came t k g n a l m c b e x (Block y) =
    reading_ready s.rate s.mirrored t.reading pending came k (omega (arith, l)) a m b (read_of s symbols pending came t g n c b e x s.rate s.mirrored)
after_reading_ready s symbols pending came t k g n a l m c b e x Lost = by (ends_reading s.reading.sync.lock.locked s.reading.used)
  where
    by : (ends : Bool) → AcquisitionReady (lost_reading s t.reading pending came ends)
    by true = searching_ready s.rate (mirrored_next s.mirrored s.reading.used) pending came k l a m b
    by false = reading_ready s.rate s.mirrored t.reading pending came k (omega (arith, l)) a m b (read_of s symbols pending came t g n c b e x s.rate s.mirrored)

-- ---- lists that are gathered

-- how many symbols are pending
pub pending_length : (s : Acquisition) → length s.pending ≡ 1632 → s.held ≤ 1632 → length (pending_of s) ≡ s.held
pending_length s e h = length-take-le s.held s.pending (omega (arith, e, h))

-- the symbols that are gathered stand at the front
pub gathered_front : (s : Acquisition) (piece buffer : List ℕ) → length s.pending ≡ 1632 → s.held ≤ 1632 → buffer ≡ padded 1632 (pending_of s ++ piece)
    → take (s.held + length piece) buffer ≡ pending_of s ++ piece
gathered_front s piece buffer e h b =
    let n : s.held + length piece ≡ length (pending_of s ++ piece) = omega (arith, pending_length s e h, length-append (pending_of s) piece) in
    ap (take (s.held + length piece)) b ∙ ap (λ (k : ℕ). take k (padded 1632 (pending_of s ++ piece))) n ∙ pending_are (pending_of s ++ piece)

-- a full window
pub window_length_lem : (s : Acquisition) (piece : List ℕ) → length s.pending ≡ 1632 → s.held ≤ 1632 → 1632 - s.held ≤ length piece → length (window_of s piece) ≡ 1632
window_length_lem s piece e h f =
    omega (arith, pending_length s e h, length-append (pending_of s) (take (1632 - s.held) piece), length-take-le (1632 - s.held) piece f, h)

-- ---- what a part of a reading takes

-- no more symbols than there are, and some where there are any
pub read_taken : (k : Reading) (symbols : List ℕ) (t : ReadStep) → ReadingReady k → ReadsSymbols k symbols t → (t.taken ≤ length symbols) × (0 < length symbols → 0 < t.taken)
read_taken k symbols t g x =
    let r = run_counts g.runs_ready x.ready x.feeds in
    let n : length (map (turned_pair (undoing k.turn)) symbols) ≡ length symbols = length-map symbols (turned_pair (undoing k.turn)) in
    (omega (arith, r.taken_most, n, x.settles.taken_is), λ p. omega (arith, r.taken_some (omega (arith, n, p)), x.settles.taken_is))

-- the front of a piece by the least of two numbers
pub front_is : (piece : List ℕ) (n : ℕ) → n ≡ min (length piece) 1632 → take n piece ≡ take 1632 piece
front_is piece n e = ⊎_elim (λ z. ap (λ (k : ℕ). take k piece) (exactly z)) (λ p. all p) (eq-zero-or-pos (1632 - length piece))
  where
    all : 0 < 1632 - length piece → take n piece ≡ take 1632 piece
    all l = take_all n piece (omega (arith, e, l)) ∙ sym (take_all 1632 piece (omega (arith, l)))

    exactly : 1632 - length piece ≡ 0 → n ≡ 1632
    exactly l = omega (arith, e, l)

-- what is left of a front
pub take-drop : (m n : ℕ) (l : List ℕ) → m ≤ n → take (n - m) (drop m l) ≡ drop m (take n l)
take-drop m n l h = sym (drop-take m (n - m) l) ∙ ap (λ (k : ℕ). drop m (take k l)) (whole m n h)
  where
    whole : (m n : ℕ) → m ≤ n → m + (n - m) ≡ n
    whole m n h = omega (arith, h)

-- what is ready in a phase
pub phase_of_lem : (a : Acquisition) (p : Phase) → a.phase ≡ p → PhaseReady a a.phase → PhaseReady a p
phase_of_lem a p e h = subst (PhaseReady a) e h
