-- A loop that sends the packets of the bytes held and a piece: what is in the output and among the answers, and what is left to send.
-- Assumes nothing.
use mathlib.Core.Path.{◌≡◌, refl, ap, ap₂, sym, subst, subst₂, ◌∙◌}
use mathlib.Core.Bool.{Bool, true, false}
use mathlib.Core.Logic.{inr}
use mathlib.Core.List.{List, [], ◌∷◌, ◌++◌, append_assoc, append-nil, flatten, map}
use Prim.Native.Nat.{ℕ, suc, ◌+◌, ◌-◌, ◌/◌, ◌≤◌, ◌<◌}
use native.Mathlib.Omega.{arith}
use native.Mathlib.Numerals.{add-one}
use borrow.Rule.Slice.PartMut.{put_mid, mid_of}
use lib.ListN.{length, get_or, take, drop, set, length-append, length-drop, drop_of_length-le}
use lib.Seq.{take_all, take_at, drop_at, drop-drop, drop-cons, set_at, take-append-add, drop-append-add, length-take-le}
use Rattle.common.specs.Choice.{pick}
use Rattle.common.specs.Lists.{padded, chunks_of, rest_of}
use Rattle.common.proofs.Chunks.{chunks_few, chunks_more, rest_few, rest_more}
use Rattle.puncturing.specs.Mode.{mode_of}
use Rattle.inner_code.proofs.Coder as range
use Rattle.sender.specs.Input.{is_input, is_synced, packet_for, packets_for, sent_number}
use Rattle.sender.specs.Send.{sender_in_range, is_sent, sent_symbols, sent_count, sender_after, Sends}
use Rattle.sender.specs.Calls.{calls_symbols, calls_sender}
use Rattle.sender.specs.declared.Sender.{Sender}
use Rattle.sender.proofs.Inputs.{input_test, packet_size}
use Rattle.sender.proofs.Stages.{in_range_lem, symbol_count_lem}
use Rattle.sender.proofs.Ready.{Ready, ready_range, ready_after}
use Rattle.sender.proofs.History.{Answered, input_sent}
use Rattle.sender_stream.specs.Feed.{bytes_held, whole_packets, whole_count, fed_symbols, fed_answers, OutputsFit, FeedsAll}
use Rattle.sender_stream.specs.declared.SenderStream.{SenderStream}

-- a sender in range whose arrays are whole
pub ready_of : (s : Sender) → length s.interleaver.branches.cells ≡ 1122 → length s.interleaver.branches.positions ≡ 12 → sender_in_range mode_of s ≡ true → is_sent mode_of s ≡ true → Ready mode_of s
ready_of s n m e q =
    let g = in_range_lem mode_of s e in
    let c = range.in_range_by_lem (mode_of s.coder.rate) s.coder g.coder in
    record {
      place = g.place;
      branches = record { cells = n; positions = m; range = g.branches };
      formed = range.formed s.coder c;
      sent = q;
      coder = c;
    }

-- what is left: the bytes held, and those of the piece from at on
abbrev pub left_of : SenderStream → List ℕ → ℕ → ℕ → List ℕ
left_of w piece held at = take held w.pending ++ drop at piece

-- The symbols and the answers in front are written, those of what is left are still to come, and together they are those of the piece.
pub record Progress (w : SenderStream) (piece output₀ answers₀ output answers : List ℕ) (s : Sender) (held at count packets : ℕ) : Type 0 where
  pub ready : Ready mode_of s
  pub short : held < 188
  pub within : at ≤ length piece
  pub front : List ℕ
  pub told : List ℕ
  pub counted : length front ≡ count
  pub numbered : length told ≡ packets
  pub written : output ≡ front ++ drop count output₀
  pub answered : answers ≡ told ++ drop packets answers₀
  pub symbols : front ++ flatten (calls_symbols mode_of s (packets_for (chunks_of 188 (left_of w piece held at)))) ≡ fed_symbols w piece
  pub numbers : told ++ map sent_number (chunks_of 188 (left_of w piece held at)) ≡ fed_answers w piece
  pub sender : calls_sender mode_of s (packets_for (chunks_of 188 (left_of w piece held at))) ≡ calls_sender mode_of w.sender (packets_for (whole_packets w piece))
  pub rest : rest_of 188 (left_of w piece held at) ≡ rest_of 188 (bytes_held w ++ piece)
  pub total : packets + (held + (length piece - at)) / 188 ≡ whole_count w piece

pub progress_start : (w : SenderStream) (piece output answers : List ℕ) → Ready mode_of w.sender → w.held < 188
    → Progress w piece output answers output answers w.sender w.held 0 0 0
progress_start w piece output answers g h = record {
  ready = g;
  short = h;
  within = omega arith;
  front = [];
  told = [];
  counted = refl;
  numbered = refl;
  written = refl;
  answered = refl;
  symbols = refl;
  numbers = refl;
  sender = refl;
  rest = refl;
  total = omega arith;
}

module _ {w : SenderStream} {piece output₀ answers₀ output answers : List ℕ} {s : Sender} {held at count packets : ℕ} (size : length w.pending ≡ 188)
    (output_fits : OutputsFit w piece output₀ answers₀) (p : Progress w piece output₀ answers₀ output answers s held at count packets) where
  held_size : length (take held w.pending) ≡ held
  held_size = length-take-le held w.pending (omega (arith, p.short))

  left_size : length (left_of w piece held at) ≡ held + (length piece - at)
  left_size = length-append (take held w.pending) (drop at piece) ∙ ap₂ (λ (a b : ℕ). a + b) held_size (length-drop at piece)

  packets_within : packets ≤ whole_count w piece
  packets_within = omega (arith, p.total)

  -- the symbols written and those still to come are all of them
  all_counted : count + length (flatten (calls_symbols mode_of s (packets_for (chunks_of 188 (left_of w piece held at))))) ≡ length (fed_symbols w piece)
  all_counted =
      ap (λ (n : ℕ). n + length (flatten (calls_symbols mode_of s (packets_for (chunks_of 188 (left_of w piece held at)))))) (sym p.counted)
      ∙ sym (length-append p.front (flatten (calls_symbols mode_of s (packets_for (chunks_of 188 (left_of w piece held at))))))
      ∙ ap length p.symbols

  pub output_length : length output ≡ length output₀
  output_length =
      omega (arith, ap length p.written, length-append p.front (drop count output₀), length-drop count output₀, p.counted, all_counted, output_fits.symbols)

  pub answers_length : length answers ≡ length answers₀
  answers_length =
      omega (arith, ap length p.answered, length-append p.told (drop packets answers₀), length-drop packets answers₀, p.numbered, packets_within, output_fits.answers_fit)

  pub count_within : count ≤ length output
  count_within = omega (arith, ap length p.written, length-append p.front (drop count output₀), p.counted)

  -- ---- the end: no packet is whole any more

  module _ (h : length piece - at < 188 - held) where
    few_left : length (left_of w piece held at) < 188
    few_left = omega (arith, left_size, p.short)

    none_left : chunks_of 188 (left_of w piece held at) ≡ []
    none_left = chunks_few 188 (omega arith) (left_of w piece held at) few_left

    all_symbols : p.front ≡ fed_symbols w piece
    unfolding calls_symbols flatten
    all_symbols =
        sym (append-nil p.front)
        ∙ ap (λ (l : List (List ℕ)). p.front ++ flatten (calls_symbols mode_of s (packets_for l))) (sym none_left)
        ∙ p.symbols

    all_told : p.told ≡ fed_answers w piece
    all_told = sym (append-nil p.told) ∙ ap (λ (l : List (List ℕ)). p.told ++ map sent_number l) (sym none_left) ∙ p.numbers

    last_sender : s ≡ calls_sender mode_of w.sender (packets_for (whole_packets w piece))
    unfolding calls_sender
    last_sender = ap (λ (l : List (List ℕ)). calls_sender mode_of s (packets_for l)) (sym none_left) ∙ p.sender

    last_rest : left_of w piece held at ≡ rest_of 188 (bytes_held w ++ piece)
    last_rest = sym (rest_few 188 (omega arith) (left_of w piece held at) few_left) ∙ p.rest

    pub progress_end : (pending : List ℕ) → pending ≡ padded 188 (take held w.pending ++ take (length piece - at) (drop at piece))
        → FeedsAll w piece output₀ answers₀ 0 count packets (record { sender = s; pending = pending; held = held + (length piece - at) }) output answers
    progress_end pending e =
        let l : take held w.pending ++ take (length piece - at) (drop at piece) ≡ rest_of 188 (bytes_held w ++ piece)
        = ap (λ (x : List ℕ). take held w.pending ++ x) (take_all (length piece - at) (drop at piece) (omega (arith, length-drop at piece))) ∙ last_rest in
        let n : held + (length piece - at) ≡ length (rest_of 188 (bytes_held w ++ piece)) = sym left_size ∙ ap length last_rest in
        record {
          done = refl;
          counted = sym p.counted ∙ ap length all_symbols;
          whole = omega (arith, p.total, p.short);
          sending = λ i. record { sender = last_sender i; pending = (e ∙ ap (padded 188) l) i; held = n i };
          written = p.written ∙ ap (λ (x : List ℕ). x ++ drop count output₀) all_symbols;
          answers_written = p.answered ∙ ap (λ (x : List ℕ). x ++ drop packets answers₀) all_told;
        }

  -- ---- one packet more

  module _ (h : 188 - held ≤ length piece - at) where
    input : List ℕ
    input = take held w.pending ++ take (188 - held) (drop at piece)

    packet : List ℕ
    packet = packet_for input

    end_within : at + (188 - held) ≤ length piece
    end_within = omega (arith, p.short, p.within)

    input_sized : length input ≡ 188
    unfolding input
    input_sized =
        length-append (take held w.pending) (take (188 - held) (drop at piece))
        ∙ omega (arith, held_size, length-take-le (188 - held) (drop at piece) (omega (arith, length-drop at piece)), p.short)

    first : take 188 (left_of w piece held at) ≡ input
    unfolding input
    first =
        let k : 188 ≡ length (take held w.pending) + (188 - held) = omega (arith, held_size, p.short) in
        ap (λ (n : ℕ). take n (left_of w piece held at)) k ∙ take-append-add (take held w.pending) (drop at piece) (188 - held)

    later : drop 188 (left_of w piece held at) ≡ left_of w piece 0 (at + (188 - held))
    later =
        let k : 188 ≡ length (take held w.pending) + (188 - held) = omega (arith, held_size, p.short) in
        ap (λ (n : ℕ). drop n (left_of w piece held at)) k
        ∙ drop-append-add (take held w.pending) (drop at piece) (188 - held)
        ∙ drop-drop (188 - held) at piece

    enough : 188 ≤ length (left_of w piece held at)
    enough = omega (arith, left_size, p.short)

    cut_packet : chunks_of 188 (left_of w piece held at) ≡ input ∷ chunks_of 188 (left_of w piece 0 (at + (188 - held)))
    cut_packet = chunks_more 188 (omega arith) (left_of w piece held at) enough ∙ ap₂ (λ (x : List ℕ) (y : List ℕ). x ∷ chunks_of 188 y) first later

    is_input_lem : is_input input ≡ true
    is_input_lem = input_test input (inr input_sized)

    packet_sized : length packet ≡ 188
    unfolding packet
    packet_sized = packet_size input is_input_lem

    count_is : length (sent_symbols mode_of s packet) ≡ sent_count mode_of s
    count_is = symbol_count_lem s packet (ready_range s p.ready) packet_sized p.ready.formed

    one_more : packets + 1 ≤ whole_count w piece
    one_more = omega (arith, p.total, p.short, h)

    pub packets_fit : packets < length answers
    packets_fit = omega (arith, one_more, answers_length, output_fits.answers_fit)

    output_enough : count + sent_count mode_of s ≤ length output
    unfolding packet calls_symbols flatten
    output_enough =
        let later = flatten (calls_symbols mode_of (sender_after mode_of s packet) (packets_for (chunks_of 188 (left_of w piece 0 (at + (188 - held)))))) in
        let e : length (flatten (calls_symbols mode_of s (packets_for (chunks_of 188 (left_of w piece held at))))) ≡ length (sent_symbols mode_of s packet) + length later
        = ap (λ (l : List (List ℕ)). length (flatten (calls_symbols mode_of s (packets_for l)))) cut_packet ∙ length-append (sent_symbols mode_of s packet) later in
        omega (arith, e, all_counted, count_is, output_length, output_fits.symbols)

    answered_call : Answered mode_of s input (drop count output)
    answered_call = input_sent s input (drop count output) p.ready is_input_lem (omega (arith, length-drop count output, output_enough))

    front_output : take count output ≡ p.front
    front_output = ap (take count) p.written ∙ take_at p.front (drop count output₀) count p.counted

    back_output : drop count output ≡ drop count output₀
    back_output = ap (drop count) p.written ∙ drop_at p.front (drop count output₀) count p.counted

    -- an answer more
    next_answers : (number : ℕ) → set answers packets number ≡ (p.told ++ number ∷ []) ++ drop (packets + 1) answers₀
    next_answers number =
        let h : packets < length answers₀ = omega (arith, one_more, output_fits.answers_fit) in
        ap (λ (l : List ℕ). set l packets number) (p.answered ∙ ap (λ (l : List ℕ). p.told ++ l) (drop-cons answers₀ packets 0 h))
        ∙ set_at p.told (get_or answers₀ packets 0) (drop (suc packets) answers₀) number packets p.numbered
        ∙ ap (λ (k : ℕ). p.told ++ number ∷ drop k answers₀) (sym (add-one packets))
        ∙ sym (append_assoc p.told (number ∷ []) (drop (packets + 1) answers₀))

    -- a call on this packet and the rest of the output
    module _ {number n : ℕ} {next : Sender} {left : List ℕ}
        (m : Sends mode_of s (take held w.pending ++ take (at + (188 - held) - at) (drop at piece)) (mid_of count (length output - count) output) number n next left) where
      kept : Sends mode_of s input (drop count output) number n next left
      unfolding input
      kept =
          let k : at + (188 - held) - at ≡ 188 - held = omega arith in
          subst₂ (λ (a b : List ℕ). Sends mode_of s a b number n next left) (ap (λ (j : ℕ). take held w.pending ++ take j (drop at piece)) k)
          (take_all (length output - count) (drop count output) (omega (arith, length-drop count output))) m

      sent_count_lem : n ≡ sent_count mode_of s
      sent_count_lem = kept.counted ∙ answered_call.count

      -- the call was not refused: its number is 0 or 15
      pub progress_sent : 0 < number → number < 15 → ⊥
      progress_sent h l = by (is_synced input) (kept.answered ∙ answered_call.number)
        where
          by : (b : Bool) → number ≡ pick b 0 15 → ⊥
          by true e = omega arith
          by false e = omega arith

      pub progress_total : count + n ≤ length output₀
      progress_total = omega (arith, sent_count_lem, output_enough, output_length)

      pub progress_more : {said : ℕ} → said ≡ number
          → Progress w piece output₀ answers₀ (put_mid count (length output - count) output left) (set answers packets said) next 0 (at + (188 - held)) (count + n) (packets + 1)
      unfolding packet calls_symbols calls_sender flatten
      progress_more {said} y =
          let e : next ≡ sender_after mode_of s packet = kept.sender ∙ answered_call.sender in
          let k : length (sent_symbols mode_of s packet) ≡ n = count_is ∙ sym sent_count_lem in
          let a : said ≡ sent_number input = y ∙ kept.answered ∙ answered_call.number in
          record {
            ready = subst (Ready mode_of) (sym e) (ready_after s packet p.ready);
            short = omega arith;
            within = end_within;
            front = p.front ++ sent_symbols mode_of s packet;
            told = p.told ++ said ∷ [];
            counted = length-append p.front (sent_symbols mode_of s packet) ∙ ap₂ (λ (a b : ℕ). a + b) p.counted k;
            numbered = length-append p.told (said ∷ []) ∙ ap (λ (j : ℕ). j + 1) p.numbered;
            written =
                ap₂ (λ (a b : List ℕ). a ++ b) front_output
                (ap (λ (l : List ℕ). left ++ l) (drop_of_length-le (drop count output) {i = length output - count} (omega (arith, length-drop count output)))
                ∙ append-nil left
                ∙ kept.written
                ∙ answered_call.written
                ∙ ap₂ (λ (j : ℕ) (l : List ℕ). sent_symbols mode_of s packet ++ drop j l) (sym sent_count_lem) back_output
                ∙ ap (λ (l : List ℕ). sent_symbols mode_of s packet ++ l) (drop-drop n count output₀))
                ∙ sym (append_assoc p.front (sent_symbols mode_of s packet) (drop (count + n) output₀));
            answered = next_answers said;
            symbols =
                ap (λ (x : Sender). (p.front ++ sent_symbols mode_of s packet) ++ flatten (calls_symbols mode_of x (packets_for (chunks_of 188 (left_of w piece 0 (at + (188 - held))))))) e
                ∙ append_assoc p.front (sent_symbols mode_of s packet) _
                ∙ ap (λ (l : List (List ℕ)). p.front ++ flatten (calls_symbols mode_of s (packets_for l))) (sym cut_packet)
                ∙ p.symbols;
            numbers =
                append_assoc p.told (said ∷ []) _
                ∙ ap (λ (j : ℕ). p.told ++ j ∷ map sent_number (chunks_of 188 (left_of w piece 0 (at + (188 - held))))) a
                ∙ ap (λ (l : List (List ℕ)). p.told ++ map sent_number l) (sym cut_packet)
                ∙ p.numbers;
            sender =
                ap (λ (x : Sender). calls_sender mode_of x (packets_for (chunks_of 188 (left_of w piece 0 (at + (188 - held)))))) e
                ∙ ap (λ (l : List (List ℕ)). calls_sender mode_of s (packets_for l)) (sym cut_packet)
                ∙ p.sender;
            rest = ap (rest_of 188) (sym later) ∙ sym (rest_more 188 (omega arith) (left_of w piece held at) enough) ∙ p.rest;
            total = omega (arith, p.total, p.short, h);
          }
