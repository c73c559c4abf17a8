-- From symbols to packets in one statement: a sender's stream, cut at any symbol and turned, through any history of steps of acquisition. Whenever a reading of it
-- began, its bits are the sender's, and so are its blocks and packets.
-- Assumes nothing.
use mathlib.Core.Path.{◌≡◌, sym, ◌∙◌, ap, subst}
use mathlib.Core.Bool.{Bool, false}
use mathlib.Core.Logic.{◌⊎◌}
use mathlib.Core.List.{List, ◌++◌, map, append_assoc}
use Prim.Native.Nat.{ℕ, ◌+◌, ◌-◌, ◌*◌, ◌≤◌, ◌<◌}
use native.Mathlib.Omega.{arith}
use lib.ListN.{length, take, drop, length-append, length-map, take-append-drop}
use lib.Seq.{length-take-le, drop-append_seam}
use Rattle.common.specs.Lists.{All}
use Rattle.convolutional_code.specs.Bits.{bits_of}
use Rattle.randomizer.specs.Stream.{Packet}
use Rattle.reader.specs.Read.{symbols_per_pattern}
use Rattle.reader_stream.proofs.Runs.{all_drop}
use Rattle.reader_stream.proofs.Unharmed.{WholeStream}
use Rattle.symbol_turns.specs.Turn.{turned, by_pair}
use Rattle.free_start.specs.Lead.{bits_of_lead}
use Rattle.node_search.specs.Hypotheses.{any_rate}
use Rattle.node_search.specs.Sent.{AllPrefer, start_offset, true_hypothesis}
use Rattle.node_search.specs.declared.Hypothesis.{Hypothesis}
use Rattle.node_search.proofs.Truth.{map-drop, prefer_length, prefer_drop}
use Rattle.sent_blocks.specs.Blocks.{sent_bytes}
use Rattle.group_sync.specs.Stream.{before_group}
use Rattle.block_sync.specs.Decision.{turned_bits}
use Rattle.block_sync.specs.Grid.{Unsynced, Drained}
use Rattle.block_sync.specs.declared.GivenBlock.{GivenBlock}
use Rattle.block_sync.specs.declared.BlockSync.{BlockSync}
use Rattle.sent_sync.specs.Sent.{bits_from, GivesSentSoFar, GivesSentWhole}
use Rattle.sent_lock.specs.Locks.{locks_of, LocksTaken}
use Rattle.acquisition.specs.Reading.{turn_read}
use Rattle.acquisition.specs.declared.Reading.{Reading}
use Rattle.sent_acquisition.specs.Readings.{ReadingCame, ReadingClosed}
use Rattle.sent_acquisition.specs.Right.{less_half, has_half}
use Rattle.sent_acquisition.specs.Sent.{SentStream, RightMirror, first_bit, bits_before}
use Rattle.sent_acquisition.specs.Acquired.{ReadingOfThese, Unfollowed}
use Rattle.sent_acquisition.proofs.Readings.{reading_came}
use Rattle.sent_acquisition.proofs.Sent.{turn_right, search_true, bits_sent, bits_closed, blocks_closed, blocks_drained, packets_drained, blocks_sent, packets_sent_lem, reading_on_lem}

-- the symbols from a later one on are the same stream, cut there
later_cut : {rate turn passed : ℕ} {packets : List (List ℕ)} (before received : List ℕ) → SentStream rate turn passed packets (before ++ received)
    → SentStream rate turn (passed + length before) packets received
later_cut {rate} {turn} {passed} {packets} before received s =
    let n : ℕ = length before in
    let came = s.came in
    let size : length came ≡ n + length received = sym (prefer_length s.preferred ∙ length-map came (turned turn)) ∙ length-append before received in
    let these : drop n (before ++ received) ≡ received = drop-append_seam before received in
    record {
      before = s.before ++ take n came;
      came = drop n came;
      later = s.later;
      stream = ap (λ (l : List ℕ). l ++ s.later) (append_assoc s.before (take n came) (drop n came) ∙ ap (λ (l : List ℕ). s.before ++ l) (take-append-drop n came)) ∙ s.stream;
      cut = omega (arith, length-append s.before (take n came), s.cut, length-take-le n came (omega arith));
      small = subst (All (λ p. p < 81)) these (all_drop n (before ++ received) s.small);
      preferred =
          subst (λ (l : List ℕ). AllPrefer by_pair l (map (turned turn) (drop n came))) these
          (subst (AllPrefer by_pair (drop n (before ++ received))) (sym (map-drop (turned turn) n came)) (prefer_drop n s.preferred));
    }

-- A reading of a sender's stream, searched at its rate or at any, that takes the symbols for mirrored, at 5/6, where they are.
module _ (packets : List (List ℕ)) (ws : All Packet packets) (rate turn passed : ℕ) (hr : rate < 5) (ht : turn < 8) {symbols : List ℕ} (stream : SentStream rate turn passed packets symbols) (asked : ℕ)
    (a : (asked ≡ rate) ⊎ (asked ≡ any_rate)) {these : List GivenBlock} {mirrored : Bool} {k : Reading} {unread : List ℕ} (r : ReadingOfThese asked symbols these mirrored k unread)
    (right : RightMirror rate turn mirrored) where
  -- how many of the sender's symbols passed before its window
  abbrev pub passed_before : ℕ
  passed_before = passed + length r.before

  from_window : SentStream rate turn passed_before packets r.received
  from_window = later_cut r.before r.received (subst (SentStream rate turn passed packets) (sym r.split) stream)

  true_one : r.hypothesis ≡ true_hypothesis rate turn passed_before
  true_one = search_true packets ws rate turn passed_before hr ht r.received from_window r.enough asked a r.found

  behind : r.read ++ unread ≡ drop (start_offset rate passed_before) r.received
  behind = r.behind ∙ ap (λ (h : Hypothesis). drop h.offset r.received) true_one

  -- It reads at the true rate, and turns back the turn that the symbols came with, but for half a turn.
  pub reading_true : ReadingCame rate (less_half turn) (length r.before + r.hypothesis.offset) r.read these k
  reading_true =
      subst (λ (t : ℕ). ReadingCame rate t (length r.before + r.hypothesis.offset) r.read these k) (turn_right rate turn passed_before mirrored ht right)
      (subst (λ (h : Hypothesis). ReadingCame h.rate (turn_read h mirrored) (length r.before + r.hypothesis.offset) r.read these k) true_one (reading_came r.fed))

  -- Behind the bits of the lead it has the sender's bits, straight, or all inverted where there is half a turn.
  pub bits_acquired : drop (bits_of_lead rate) reading_true.bits
      ≡ take (length reading_true.bits - bits_of_lead rate) (turned_bits (has_half turn) (drop (first_bit rate passed_before) (bits_of (sent_bytes packets))))
  bits_acquired = bits_sent packets ws rate turn passed_before hr ht r.received from_window r.enough unread reading_true behind

  -- what it has before block b
  abbrev pub before_block : ℕ → List ℕ
  before_block b = bits_before rate passed_before (has_half turn) b packets reading_true.bits

  -- From a block on that begins behind the first of these bits, where no place before it passes for a sync, it gives the sender's blocks, and a fresh receiver
  -- for each lock gives their packets.
  module _ (b : ℕ) (whole : first_bit rate passed_before ≤ 1632 * b) (six : b + 6 ≤ length packets)
      (u : Unsynced (before_block b) (bits_from (has_half turn) b packets)) where
    pub sent_acquired : GivesSentSoFar packets b (before_block b) (length reading_true.bits) these reading_true.skipped k.sync
    sent_acquired = blocks_sent packets ws rate turn passed_before hr ht r.received from_window r.enough unread reading_true behind b whole six u

    pub packets_acquired : {out : List (List ℕ)} → LocksTaken (locks_of these) out → out ≡ take (length these - 11 - before_group b) (drop (b + before_group b) packets)
    packets_acquired l = packets_sent_lem packets ws rate turn passed_before hr ht r.received from_window r.enough unread reading_true behind b whole six u l

    -- Where that is the first whole block, the reading goes on as long as the stream does: no decision without a block ends it.
    pub reading_lasts : 1632 * b < first_bit rate passed_before + 1632 → {ended : Bool}
        → Unfollowed r.hypothesis mirrored (length r.before + r.hypothesis.offset) r.read these k ended → ended ≡ false
    reading_lasts near v = reading_on_lem packets ws rate turn passed_before hr ht r.received from_window r.enough unread reading_true behind b whole six u near v

  -- With the end, where six patterns came: it has the sender's bits up to the last whole pattern that it took, and of the blocks the same holds.
  module _ {last : List GivenBlock} {t : BlockSync} (e : ReadingClosed reading_true last t) (patterns : 6 * symbols_per_pattern rate ≤ length r.read) where
    abbrev pub ended_bits : List ℕ
    ended_bits = reading_true.bits ++ take e.count e.exit

    pub bits_ended : WholeStream rate (turned_bits (has_half turn) (drop (first_bit rate passed_before) (bits_of (sent_bytes packets)))) (length r.read) (drop (bits_of_lead rate) ended_bits) e.rest
    bits_ended = bits_closed packets ws rate turn passed_before hr ht r.received from_window r.enough unread reading_true behind e patterns

    module _ (b : ℕ) (whole : first_bit rate passed_before ≤ 1632 * b) (six : b + 6 ≤ length packets)
        (u : Unsynced (bits_before rate passed_before (has_half turn) b packets ended_bits) (bits_from (has_half turn) b packets)) where
      pub sent_ended : GivesSentSoFar packets b (bits_before rate passed_before (has_half turn) b packets ended_bits) (length ended_bits) (these ++ last) e.skipped t
      sent_ended = blocks_closed packets ws rate turn passed_before hr ht r.received from_window r.enough unread reading_true behind e patterns b whole six u

      -- With the bits that the aligner holds, where six of these blocks came whole: every block that came whole is given, and no other, and a fresh receiver for
      -- each lock gives their packets.
      module _ {rest : List GivenBlock} {sk : ℕ} {v : BlockSync} (d : Drained t rest sk v)
          (whole-six : length (bits_before rate passed_before (has_half turn) b packets ended_bits) + 9792 ≤ length ended_bits) where
        pub sent_drained : GivesSentWhole packets b (bits_before rate passed_before (has_half turn) b packets ended_bits) (length ended_bits) ((these ++ last) ++ rest) (e.skipped + sk) v
        sent_drained = blocks_drained packets ws rate turn passed_before hr ht r.received from_window r.enough unread reading_true behind e patterns b whole six u d whole-six

        pub packets_ended : {out : List (List ℕ)} → LocksTaken (locks_of ((these ++ last) ++ rest)) out
            → out ≡ take (length ((these ++ last) ++ rest) - 11 - before_group b) (drop (b + before_group b) packets)
        packets_ended l = packets_drained packets ws rate turn passed_before hr ht r.received from_window r.enough unread reading_true behind e patterns b whole six u d whole-six l
