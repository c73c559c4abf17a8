-- A sender's stream, cut at any symbol and turned: what the search of its first window finds, and what a reading gives that begins there, from symbols to blocks
-- and packets.
-- Assumes nothing.
use mathlib.Core.Path.{◌≡◌, refl, sym, ◌∙◌, ap, subst}
use mathlib.Core.Bool.{Bool, true, false, true≢false}
use mathlib.Core.Logic.{◌⊎◌, inl, inr}
use mathlib.Core.List.{List, ◌++◌, map, flatten, append_assoc}
use Prim.Native.Nat.{ℕ, ◌+◌, ◌-◌, ◌*◌, ◌/◌, ◌%◌, ◌≤◌, ◌<◌}
use Prim.{tt}
use native.Mathlib.Omega.{arith}
use borrow.Author.Tests.{eqb-true}
use lib.Dec.{eqb, ltb, leb, eqb→eq, leb→le}
use lib.ListN.{length, take, drop, length-append, length-map, take-append-drop, length-take, length-drop}
use lib.Seq.{length-take-le, take-append_seam, drop-append-add, drop-append-le}
use Rattle.common.specs.Choice.{pick}
use Rattle.common.specs.Lists.{All, Length}
use Rattle.common.proofs.Computed.{below_at}
use Rattle.convolutional_code.specs.Bits.{bits_of, Bits}
use Rattle.convolutional_code.specs.Code.{memory_after}
use Rattle.convolutional_code.proofs.Bits.{length_bits, bits_bits, bits_split, bits_take, bits_drop}
use Rattle.puncturing.specs.Mode.{mode_of}
use Rattle.puncturing.specs.Step.{pattern_length}
use Rattle.randomizer.specs.Stream.{Packet}
use Rattle.interleaver.proofs.BlockLists.{flatten_join, length-flatten, All-take}
use Rattle.reader.specs.Read.{symbols_per_pattern, run_bits}
use Rattle.reader.proofs.Patterns.{memory_in_range}
use Rattle.reader_stream.proofs.Runs.{all_take, all_drop}
use Rattle.reader_stream.proofs.Unharmed.{WholeStream}
use Rattle.symbol_turns.specs.Turn.{turned, turn_class, by_pair}
use Rattle.free_start.specs.Lead.{bits_of_lead, lead_patterns}
use Rattle.free_start.proofs.FreeStream.{cut}
use Rattle.node_search.specs.Hypotheses.{any_rate, searched}
use Rattle.node_search.specs.Search.{Searches}
use Rattle.node_search.specs.Sent.{AllPrefer, SentWindow, start_offset, true_hypothesis}
use Rattle.node_search.specs.declared.Hypothesis.{Hypothesis}
use Rattle.node_search.specs.declared.Search.{Search}
use Rattle.node_search.specs.declared.Search.TheVariants.{Found, Nothing, Several}
use Rattle.node_search.proofs.Truth.{map-take, map-drop, prefer_length, prefer_take, prefer_drop, offset_lt, whole_passed, Told, truth_told}
use Rattle.sent_blocks.specs.Blocks.{interleaved_blocks, sent_bytes}
use Rattle.sent_blocks.proofs.Lengths.{interleaved_count, interleaved_whole}
use Rattle.group_sync.specs.Stream.{before_group}
use Rattle.block_sync.specs.Decision.{turned_bits}
use Rattle.block_sync.specs.Grid.{Unsynced, Drained}
use Rattle.block_sync.specs.declared.GivenBlock.{GivenBlock}
use Rattle.block_sync.specs.declared.BlockSync.{BlockSync}
use Rattle.block_sync.proofs.Turning.{turned_length}
use Rattle.sent_sync.specs.Sent.{bits_from, GivesSentSoFar, GivesSentWhole}
use Rattle.sent_sync.proofs.Bytes.{turned_append}
use Rattle.sent_sync.proofs.Sent.{sent_so_far, sent_whole}
use Rattle.sent_lock.specs.Locks.{locks_of, LocksTaken}
use Rattle.sent_lock.proofs.Sent.{packets_so_far, packets_whole}
use Rattle.acquisition.specs.Reading.{turn_read}
use Rattle.acquisition.specs.declared.Reading.{Reading}
use Rattle.sent_acquisition.specs.Readings.{ReadingCame, ReadingClosed}
use Rattle.sent_acquisition.specs.Right.{SentSymbols, less_half, has_half}
use Rattle.sent_acquisition.specs.Sent.{SentStream, RightMirror, first_bit, bits_before}
use Rattle.sent_acquisition.specs.Acquired.{Unfollowed}
use Rattle.sent_acquisition.proofs.Lasting.{goes_on}
use Rattle.sent_acquisition.proofs.Right.{right_reading, right_ended}

-- ---- what was found

abbrev is_found : Search → Bool
is_found (Found h) = true
is_found Nothing = false
is_found Several = false

abbrev found_or : Hypothesis → Search → Hypothesis
found_or other (Found h) = h
found_or other Nothing = other
found_or other Several = other

found_is : (h g : Hypothesis) → Told g (Found h) → h ≡ g
found_is h g (inl e) = ap (found_or h) e
found_is h g (inr e) = absurd (true≢false (ap is_found e))

-- ---- the turn that is turned back

abbrev mirror_test : ℕ → Bool
mirror_test t = eqb (pick (ltb 3 t) ((t % 2 + 4) % 8) (t % 2)) (less_half t)

mirror_right : (t : ℕ) → t < 8 → pick (ltb 3 t) ((t % 2 + 4) % 8) (t % 2) ≡ less_half t
unfolding less_half
mirror_right t h = eqb→eq _ _ (below_at mirror_test 8 tt t h)

pub turn_right : (rate turn passed : ℕ) (mirrored : Bool) → turn < 8 → RightMirror rate turn mirrored → turn_read (true_hypothesis rate turn passed) mirrored ≡ less_half turn
unfolding turn_class less_half
turn_right rate turn passed mirrored h r = by (eqb rate 3) refl
  where
    by : (b : Bool) → eqb rate 3 ≡ b
        → pick b (pick mirrored ((pick b (turn % 2) (4 * (turn / 4) + turn % 2) + 4) % 8) (pick b (turn % 2) (4 * (turn / 4) + turn % 2))) (pick b (turn % 2) (4 * (turn / 4) + turn % 2)) ≡ less_half turn
    by true e = ap (λ (m : Bool). pick m ((turn % 2 + 4) % 8) (turn % 2)) (r (eqb-true rate 3 e)) ∙ mirror_right turn h
    by false e = refl

-- ---- the stream

module _ (packets : List (List ℕ)) (ws : All Packet packets) (rate turn passed : ℕ) (hr : rate < 5) (ht : turn < 8) (received : List ℕ) (sent : SentStream rate turn passed packets received)
    (enough : 1632 ≤ length received) where
  abbrev all : List ℕ
  all = bits_of (sent_bytes packets)

  abbrev o : ℕ
  o = start_offset rate passed

  -- the first window
  window_sent : SentWindow rate turn passed (take 1632 received)
  window_sent = record {
    memory = 0;
    in_range_lem = omega arith;
    bits = all;
    binary = bits_bits (sent_bytes packets);
    before = sent.before;
    came = take 1632 sent.came;
    later = drop 1632 sent.came ++ sent.later;
    stream =
        sym (append_assoc (sent.before ++ take 1632 sent.came) (drop 1632 sent.came) sent.later)
        ∙ (ap (λ (l : List ℕ). l ++ sent.later) (append_assoc sent.before (take 1632 sent.came) (drop 1632 sent.came) ∙ ap (λ (l : List ℕ). sent.before ++ l) (take-append-drop 1632 sent.came))
        ∙ sent.stream);
    cut = sent.cut;
    size = length-take-le 1632 received enough;
    small = all_take 1632 received sent.small;
    preferred = subst (AllPrefer by_pair (take 1632 received)) (sym (map-take (turned turn) 1632 sent.came)) (prefer_take 1632 sent.preferred);
  }

  -- What the search of it finds at its rate, or at any rate, is true.
  pub search_true : (asked : ℕ) → (asked ≡ rate) ⊎ (asked ≡ any_rate) → {h : Hypothesis} → Searches (take 1632 received) (searched asked) (Found h) → h ≡ true_hypothesis rate turn passed
  search_true asked a {h = h} t = found_is h (true_hypothesis rate turn passed) (truth_told rate turn passed hr ht window_sent asked a t)

  -- ---- from symbols to bits

  few_passed : o ≤ 1632
  unfolding symbols_per_pattern mode_of
  few_passed =
      let m : symbols_per_pattern rate ≤ 1632 = leb→le _ _ (below_at (λ r. leb (symbols_per_pattern r) 1632) 5 tt rate hr) in
      let l : o < symbols_per_pattern rate = offset_lt rate turn passed hr ht (take 1632 received) window_sent in
      omega arith

  came_length : length sent.came ≡ length received
  came_length = sym (prefer_length sent.preferred ∙ length-map sent.came (turned turn))

  -- The symbols behind the offset are those of a coder at the start of a pattern, which is given the sender's bits from the first bit on.
  symbols_sent : (symbols unread : List ℕ) → symbols ++ unread ≡ drop o received → SentSymbols rate turn (drop (first_bit rate passed) all) symbols
  unfolding first_bit
  symbols_sent symbols unread e =
      let s = symbols_per_pattern rate in
      let q : ℕ = (passed + o) / s in
      let w : Bits all = bits_bits (sent_bytes packets) in
      let far : s * q ≡ length sent.before + o = sym (whole_passed rate turn passed hr ht (take 1632 received) window_sent) ∙ ap (λ (x : ℕ). x + o) (sym sent.cut) in
      let c = cut rate hr 0 (omega arith) all w (sent.before ++ sent.came) sent.later sent.stream q
      (omega (arith, far, length-append sent.before sent.came, came_length, few_passed, enough)) in
      let n : ℕ = length symbols in
      let behind : List ℕ = drop o sent.came in
      let d : drop (s * q) (sent.before ++ sent.came) ≡ behind = ap (λ (x : ℕ). drop x (sent.before ++ sent.came)) far ∙ drop-append-add sent.before sent.came o in
      let these : take n (drop o received) ≡ symbols = ap (take n) (sym e) ∙ take-append_seam symbols unread in
      record {
        memory = memory_after 0 (take (pattern_length rate * q) all);
        in_range_lem = memory_in_range rate 0 hr (omega arith) (bits_take (pattern_length rate * q) w);
        binary = bits_drop (pattern_length rate * q) w;
        came = take n behind;
        later = drop n behind ++ sent.later;
        stream =
            sym (append_assoc (take n behind) (drop n behind) sent.later)
            ∙ (ap (λ (l : List ℕ). l ++ sent.later) (take-append-drop n behind ∙ sym d) ∙ c.back);
        small = subst (All (λ p. p < 81)) these (all_take n (drop o received) (all_drop o received sent.small));
        preferred =
            subst (λ (l : List ℕ). AllPrefer by_pair l (map (turned turn) (take n behind))) these
            (subst (AllPrefer by_pair (take n (drop o received))) (sym (map-take (turned turn) n behind ∙ ap (take n) (map-drop (turned turn) o sent.came)))
            (prefer_take n (prefer_drop o sent.preferred)));
      }

  -- ---- from bits to blocks

  before_size : (b : ℕ) → b ≤ length packets → length (bits_of (flatten (take b (interleaved_blocks packets)))) ≡ 1632 * b
  before_size b fit =
      let blocks : List (List ℕ) = interleaved_blocks packets in
      omega (
        arith,
        length_bits (flatten (take b blocks)),
        length-flatten 204 (take b blocks) (All-take (Length 204) b blocks (interleaved_whole packets)),
        length-take-le b blocks (omega (arith, interleaved_count packets)),
      )

  -- the sender's bits from the first bit on: those before block b, and those of the blocks from b on
  bits_parted : (inverted : Bool) (b : ℕ) → first_bit rate passed ≤ 1632 * b → b ≤ length packets
      → turned_bits inverted (drop (first_bit rate passed) all) ≡ turned_bits inverted (drop (first_bit rate passed) (bits_of (flatten (take b (interleaved_blocks packets))))) ++ bits_from inverted b packets
  bits_parted inverted b h fit =
      let blocks : List (List ℕ) = interleaved_blocks packets in
      let front : List ℕ = bits_of (flatten (take b blocks)) in
      let back : List ℕ = bits_of (flatten (drop b blocks)) in
      let two : all ≡ front ++ back =
      ap (λ (l : List (List ℕ)). bits_of (flatten l)) (sym (take-append-drop b blocks)) ∙ (ap bits_of (flatten_join (take b blocks) (drop b blocks)) ∙ bits_split (flatten (take b blocks)) (flatten (drop b blocks))) in
      let size : length front ≡ 1632 * b = before_size b fit in
      ap (λ (l : List ℕ). turned_bits inverted (drop (first_bit rate passed) l)) two
      ∙ (ap (turned_bits inverted) (drop-append-le (first_bit rate passed) front back (omega arith)) ∙ turned_append inverted (drop (first_bit rate passed) front) back)

  -- what a reading has is the front of the bits before block b and those of the blocks from b on
  record Front (b : ℕ) (bits : List ℕ) : Type 0 where
    more : List ℕ
    whole : bits ++ more ≡ bits_before rate passed (has_half turn) b packets bits ++ bits_from (has_half turn) b packets

  front_of : (b : ℕ) → first_bit rate passed ≤ 1632 * b → b ≤ length packets → (bits : List ℕ) (n : ℕ) → drop (bits_of_lead rate) bits ≡ take n (turned_bits (has_half turn) (drop (first_bit rate passed) all)) → Front b bits
  front_of b h fit bits n e =
      let lead : List ℕ = take (bits_of_lead rate) bits in
      let sent_bits_lem : List ℕ = turned_bits (has_half turn) (drop (first_bit rate passed) all) in
      let between : List ℕ = turned_bits (has_half turn) (drop (first_bit rate passed) (bits_of (flatten (take b (interleaved_blocks packets))))) in
      record {
        more = drop n sent_bits_lem;
        whole =
            ap (λ (l : List ℕ). l ++ drop n sent_bits_lem) (sym (take-append-drop (bits_of_lead rate) bits) ∙ ap (λ (l : List ℕ). lead ++ l) e)
            ∙ (append_assoc lead (take n sent_bits_lem) (drop n sent_bits_lem)
            ∙ (ap (λ (l : List ℕ). lead ++ l) (take-append-drop n sent_bits_lem ∙ bits_parted (has_half turn) b h fit)
            ∙ sym (append_assoc lead between (bits_from (has_half turn) b packets))));
      }

  -- ---- a reading that turns back the turn that the symbols came with, but for half a turn

  module _ {first : ℕ} {read : List ℕ} (unread : List ℕ) {given : List GivenBlock} {k : Reading} (c : ReadingCame rate (less_half turn) first read given k) (behind : read ++ unread ≡ drop o received) where
    -- Behind the bits of the lead it has the sender's bits from the first bit on, straight, or all inverted where there is half a turn.
    pub bits_sent : drop (bits_of_lead rate) c.bits ≡ take (length c.bits - bits_of_lead rate) (turned_bits (has_half turn) (drop (first_bit rate passed) all))
    bits_sent = right_reading rate turn hr ht (drop (first_bit rate passed) all) read (symbols_sent read unread behind) c.decided

    -- With the end, where six patterns came, it has all of them up to the last whole pattern that it took.
    module _ {last : List GivenBlock} {t : BlockSync} (e : ReadingClosed c last t) (patterns : 6 * symbols_per_pattern rate ≤ length read) where
      abbrev pub closed_bits : List ℕ
      closed_bits = c.bits ++ take e.count e.exit

      pub bits_closed : WholeStream rate (turned_bits (has_half turn) (drop (first_bit rate passed) all)) (length read) (drop (bits_of_lead rate) closed_bits) e.rest
      bits_closed =
          right_ended rate turn hr ht (drop (first_bit rate passed) all) read (symbols_sent read unread behind) c.decided patterns k.runs c.ready c.rate_is refl refl e.closes

      module _ (b : ℕ) (whole : first_bit rate passed ≤ 1632 * b) (six : b + 6 ≤ length packets) (u : Unsynced (bits_before rate passed (has_half turn) b packets closed_bits) (bits_from (has_half turn) b packets)) where
        last_front : Front b closed_bits
        last_front = front_of b whole (omega arith) closed_bits (run_bits rate (length read)) bits_closed.given

        pub blocks_closed : GivesSentSoFar packets b (bits_before rate passed (has_half turn) b packets closed_bits) (length closed_bits) (given ++ last) e.skipped t
        blocks_closed = sent_so_far packets ws b (has_half turn) (bits_before rate passed (has_half turn) b packets closed_bits) last_front.more six u last_front.whole e.aligned

        -- and with the bits that the aligner holds, where six of these blocks came whole
        module _ {rest : List GivenBlock} {sk : ℕ} {v : BlockSync} (d : Drained t rest sk v) (whole-six : length (bits_before rate passed (has_half turn) b packets closed_bits) + 9792 ≤ length closed_bits) where
          pub blocks_drained : GivesSentWhole packets b (bits_before rate passed (has_half turn) b packets closed_bits) (length closed_bits) ((given ++ last) ++ rest) (e.skipped + sk) v
          blocks_drained = sent_whole packets ws b (has_half turn) (bits_before rate passed (has_half turn) b packets closed_bits) last_front.more whole-six u last_front.whole e.aligned d

          pub packets_drained : {out : List (List ℕ)} → LocksTaken (locks_of ((given ++ last) ++ rest)) out
              → out ≡ take (length ((given ++ last) ++ rest) - 11 - before_group b) (drop (b + before_group b) packets)
          packets_drained l =
              packets_whole packets ws b (has_half turn) (bits_before rate passed (has_half turn) b packets closed_bits) last_front.more (omega arith) whole-six u last_front.whole e.aligned d l

    -- From a block on that begins behind the first bit, where no place before it passes for a sync: the reading gives the sender's blocks, and a fresh receiver for
    -- each lock their packets.
    module _ (b : ℕ) (whole : first_bit rate passed ≤ 1632 * b) (six : b + 6 ≤ length packets) (u : Unsynced (bits_before rate passed (has_half turn) b packets c.bits) (bits_from (has_half turn) b packets)) where
      front : Front b c.bits
      front = front_of b whole (omega arith) c.bits (length c.bits - bits_of_lead rate) bits_sent

      pub blocks_sent : GivesSentSoFar packets b (bits_before rate passed (has_half turn) b packets c.bits) (length c.bits) given c.skipped k.sync
      blocks_sent = sent_so_far packets ws b (has_half turn) (bits_before rate passed (has_half turn) b packets c.bits) front.more six u front.whole c.aligned

      pub packets_sent_lem : {out : List (List ℕ)} → LocksTaken (locks_of given) out → out ≡ take (length given - 11 - before_group b) (drop (b + before_group b) packets)
      packets_sent_lem l = packets_so_far packets ws b (has_half turn) (bits_before rate passed (has_half turn) b packets c.bits) front.more six u front.whole c.aligned l

      -- Before the first block that is whole there are fewer bits than two decisions without a block skip, so none of its calls ends it.
      pub reading_on_lem : 1632 * b < first_bit rate passed + 1632 → {h : Hypothesis} {mirrored : Bool} {ended : Bool} → Unfollowed h mirrored first read given k ended → ended ≡ false
      unfolding bits_of_lead lead_patterns mode_of
      reading_on_lem near v =
          let lead : bits_of_lead rate ≤ 10 = leb→le _ _ (below_at (λ r. leb (bits_of_lead r) 10) 5 tt rate hr) in
          let between : List ℕ = drop (first_bit rate passed) (bits_of (flatten (take b (interleaved_blocks packets)))) in
          goes_on v c blocks_sent
          (omega (
            arith,
            length-append (take (bits_of_lead rate) c.bits) (turned_bits (has_half turn) between),
            length-take (bits_of_lead rate) c.bits,
            turned_length (has_half turn) between,
            length-drop (first_bit rate passed) (bits_of (flatten (take b (interleaved_blocks packets)))),
            before_size b (omega arith),
          ))
