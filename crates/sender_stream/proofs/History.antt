-- The theorem: after any history of calls from a fresh sending, the symbols written, the answers and the state are those of all the bytes that
-- came. So any two ways of cutting the same bytes give the same.
-- Assumes nothing.
use mathlib.Core.Path.{◌≡◌, refl, ap, ap₂, sym, subst, ◌∙◌}
use mathlib.Core.Bool.{Bool, true, false}
use mathlib.Core.List.{List, [], ◌++◌, append_assoc, append-nil, map, flatten, map-append}
use Prim.Native.Nat.{ℕ, ◌+◌, ◌/◌, ◌%◌}
use native.Mathlib.Omega.{arith}
use borrow.Author.Tests.{eq-eqb, ne_eqb}
use lib.Dec.{eqb}
use lib.ListN.{length, take, drop, replicate, length-append, length-map}
use lib.Seq.{take_at, take-append_seam}
use Rattle.common.specs.Choice.{pick}
use Rattle.common.specs.Lists.{All, Length, chunks, chunks_of, rest_of}
use Rattle.common.proofs.Chunks.{length-chunks, length_rest, chunks_few, cut}
use Rattle.puncturing.specs.Mode.{mode_of}
use Rattle.puncturing.specs.WellFormed.{WellFormed}
use Rattle.puncturing.proofs.Places.{sent_known}
use Rattle.puncturing.proofs.WellFormed.{well_formed_lem}
use Rattle.sender.specs.Standard.{on_air}
use Rattle.sender.specs.Input.{null_packet, packet_for, packets_for, sent_number}
use Rattle.inner_code.specs.Encode.{new_number}
use Rattle.sender.specs.Calls.{calls_symbols, calls_sender, sender_of}
use Rattle.sender.specs.declared.Sender.{Sender}
use Rattle.sender.proofs.Inputs.{packet_lengths, packets_inputs}
use Rattle.sender.proofs.Stream.{calls_on_air, calls_sender_lem}
use Rattle.sender.proofs.Ready.{Ready}
use Rattle.sender.proofs.History.{history, ready_sent, sent_further}
use Rattle.sender_stream.specs.Feed.{holding, bytes_held, fresh_sender_stream, fed_symbols, fed_answers, FeedsAll, FeedsSender, refused, fed}
use Rattle.sender_stream.specs.History.{SenderFeedings, none, feeding, Transmitted}
use Rattle.sender_stream.specs.declared.SenderStream.{SenderStream}

-- the bytes held
held_are : (s : Sender) (bytes : List ℕ) → bytes_held (holding s bytes) ≡ bytes
held_are s bytes = take-append_seam bytes _

-- eleven packets' length of zeros, for which null packets are sent
abbrev pub no_packets : List ℕ
no_packets = replicate 2068 0

null_packets : packets_for (chunks_of 188 no_packets) ≡ replicate 11 null_packet
unfolding chunks_of chunks packet_for null_packet
null_packets = refl

module _ (rate : ℕ) (h : (mode_of rate).sent ≡ true) where
  formed : WellFormed (mode_of rate)
  formed = well_formed_lem rate (sent_known rate h)

  sizes : (bytes : List ℕ) → All (Length 188) (packets_for (chunks_of 188 bytes))
  sizes bytes = packet_lengths (chunks_of 188 bytes) (packets_inputs bytes)

  pub transmitted_none : Transmitted rate [] [] [] (fresh_sender_stream rate)
  unfolding fresh_sender_stream rest_of calls_symbols calls_sender flatten
  transmitted_none =
      let e = sym (chunks_few 188 (omega arith) [] (omega arith)) in
      record {
        on_air_lem = calls_on_air [] tt mode_of rate formed ∙ ap (λ (l : List (List ℕ)). on_air (mode_of rate) (packets_for l)) e;
        answered = ap (map sent_number) e;
        state = ap (λ (s : Sender). holding s []) (calls_sender_lem [] tt mode_of rate formed ∙ ap (λ (l : List (List ℕ)). sender_of mode_of rate (packets_for l)) e);
      }

  -- a piece more
  module _ (bytes piece output answers : List ℕ) {number count packets : ℕ} {next : SenderStream} {left told : List ℕ}
      (f : FeedsAll (holding (sender_of mode_of rate (packets_for (chunks_of 188 bytes))) (rest_of 188 bytes)) piece output answers number count packets next left told) where
    before : List (List ℕ)
    before = packets_for (chunks_of 188 bytes)

    came : List ℕ
    came = rest_of 188 bytes ++ piece

    w : SenderStream
    w = holding (sender_of mode_of rate (packets_for (chunks_of 188 bytes))) (rest_of 188 bytes)

    held : bytes_held w ≡ rest_of 188 bytes
    unfolding w
    held = held_are (sender_of mode_of rate (packets_for (chunks_of 188 bytes))) (rest_of 188 bytes)

    packets_are : chunks_of 188 (bytes_held w ++ piece) ≡ chunks_of 188 came
    unfolding came
    packets_are = ap (λ (x : List ℕ). chunks_of 188 (x ++ piece)) held

    all_packets : packets_for (chunks_of 188 (bytes ++ piece)) ≡ before ++ packets_for (chunks_of 188 came)
    unfolding before came
    all_packets = ap packets_for (cut 188 (omega arith) bytes piece).chunks_are ∙ map-append packet_for (chunks_of 188 bytes) (chunks_of 188 (rest_of 188 bytes ++ piece))

    -- what the sender sends after the packets before
    further : (on_air (mode_of rate) before ++ flatten (calls_symbols mode_of (sender_of mode_of rate before) (packets_for (chunks_of 188 came)))
        ≡ on_air (mode_of rate) (before ++ packets_for (chunks_of 188 came)))
        × (calls_sender mode_of (sender_of mode_of rate before) (packets_for (chunks_of 188 came)) ≡ sender_of mode_of rate (before ++ packets_for (chunks_of 188 came)))
    unfolding before
    further =
        sent_further rate formed h before (sizes bytes) (packets_inputs came)
        (history (sender_of mode_of rate before) (chunks_of 188 came) (ready_sent rate formed h before (sizes bytes)) (packets_inputs came))

    sent : take count left ≡ flatten (calls_symbols mode_of (sender_of mode_of rate before) (packets_for (chunks_of 188 came)))
    unfolding before w
    sent =
        ap (take count) f.written
        ∙ take_at (fed_symbols w piece) (drop count output) count (sym f.counted)
        ∙ ap (λ (l : List (List ℕ)). flatten (calls_symbols mode_of (sender_of mode_of rate before) (packets_for l))) packets_are

    answers_count : length (fed_answers w piece) ≡ packets
    unfolding w
    answers_count =
        length-map (chunks_of 188 (bytes_held w ++ piece)) sent_number
        ∙ length-chunks 188 (bytes_held w ++ piece)
        ∙ ap (λ (n : ℕ). n / 188) (length-append (bytes_held w) piece ∙ ap (λ (l : List ℕ). length l + length piece) held)
        ∙ sym f.whole

    numbers_told : take packets told ≡ map sent_number (chunks_of 188 came)
    unfolding w
    numbers_told =
        ap (take packets) f.answers_written
        ∙ take_at (fed_answers w piece) (drop packets answers) packets answers_count
        ∙ ap (map sent_number) packets_are

    transmitted_more : {symbols numbers : List ℕ} → symbols ≡ on_air (mode_of rate) (packets_for (chunks_of 188 bytes)) → numbers ≡ map sent_number (chunks_of 188 bytes)
        → Transmitted rate (bytes ++ piece) (symbols ++ take count left) (numbers ++ take packets told) next
    unfolding before came w
    transmitted_more {symbols} {numbers} a n = record {
      on_air_lem = ap₂ (λ (x y : List ℕ). x ++ y) a sent ∙ further.0 ∙ ap (on_air (mode_of rate)) (sym all_packets);
      answered =
          ap₂ (λ (x y : List ℕ). x ++ y) n numbers_told
          ∙ sym (map-append sent_number (chunks_of 188 bytes) (chunks_of 188 came))
          ∙ ap (map sent_number) (sym (cut 188 (omega arith) bytes piece).chunks_are);
      state =
          f.sending
          ∙ ap (λ (x : List ℕ). holding (calls_sender mode_of (sender_of mode_of rate before) (packets_for (chunks_of 188 (x ++ piece)))) (rest_of 188 (x ++ piece))) held
          ∙ ap₂ holding (further.1 ∙ ap (sender_of mode_of rate) (sym all_packets)) (sym (cut 188 (omega arith) bytes piece).rest_is);
    }

  pub transmitted_all : {bytes symbols numbers : List ℕ} {w : SenderStream} → Transmitted rate bytes symbols numbers w
      → (piece output answers : List ℕ) {number count packets : ℕ} {next : SenderStream} {left told : List ℕ} → FeedsAll w piece output answers number count packets next left told
      → Transmitted rate (bytes ++ piece) (symbols ++ take count left) (numbers ++ take packets told) next
  transmitted_all {bytes} t piece output answers {number} {count} {packets} {next} {left} {told} f =
      transmitted_more bytes piece output answers (subst (λ (x : SenderStream). FeedsAll x piece output answers number count packets next left told) t.state f) t.on_air_lem
      t.answered

  transmitted_feeds : {bytes symbols numbers : List ℕ} {w : SenderStream} → Transmitted rate bytes symbols numbers w
      → (piece output answers : List ℕ) {number count packets : ℕ} {next : SenderStream} {left told : List ℕ} → FeedsSender w piece output answers number count packets next left told
      → Transmitted rate (bytes ++ pick (eqb number 0) piece []) (symbols ++ take count left) (numbers ++ take packets told) next
  transmitted_feeds {bytes} {symbols} {numbers} {w} t piece output answers (refused {number = n} e z) =
      let b : bytes ++ pick (eqb n 0) piece [] ≡ bytes = ap (λ (x : Bool). bytes ++ pick x piece []) (ne_eqb n 0 z) ∙ append-nil bytes in
      record {
        on_air_lem = append-nil symbols ∙ t.on_air_lem ∙ ap (λ (l : List ℕ). on_air (mode_of rate) (packets_for (chunks_of 188 l))) (sym b);
        answered = append-nil numbers ∙ t.answered ∙ ap (λ (l : List ℕ). map sent_number (chunks_of 188 l)) (sym b);
        state = t.state ∙ ap (λ (l : List ℕ). holding (sender_of mode_of rate (packets_for (chunks_of 188 l))) (rest_of 188 l)) (sym b);
      }
  transmitted_feeds {bytes} {symbols} {numbers} {w} t piece output answers (fed {number = n} {count = c} {packets = k} {next = next} {left = left} {told = told} z f) =
      subst (λ (x : Bool). Transmitted rate (bytes ++ pick x piece []) (symbols ++ take c left) (numbers ++ take k told) next) (sym (eq-eqb n 0 f.done))
      (transmitted_all t piece output answers f)

  transmitted_feedings : {bytes symbols numbers b s n : List ℕ} {w last : SenderStream} → Transmitted rate bytes symbols numbers w → SenderFeedings w b s n last
      → Transmitted rate (bytes ++ b) (symbols ++ s) (numbers ++ n) last
  transmitted_feedings {bytes} {symbols} {numbers} t none = record {
    on_air_lem = append-nil symbols ∙ t.on_air_lem ∙ ap (λ (l : List ℕ). on_air (mode_of rate) (packets_for (chunks_of 188 l))) (sym (append-nil bytes));
    answered = append-nil numbers ∙ t.answered ∙ ap (λ (l : List ℕ). map sent_number (chunks_of 188 l)) (sym (append-nil bytes));
    state = t.state ∙ ap (λ (l : List ℕ). holding (sender_of mode_of rate (packets_for (chunks_of 188 l))) (rest_of 188 l)) (sym (append-nil bytes));
  }
  transmitted_feedings {bytes} {symbols} {numbers} t (feeding {bytes = b} {symbols = s} {numbers = n} piece output answers left told number count packets f g) =
      let r = transmitted_feedings {bytes = bytes ++ pick (eqb number 0) piece []} {symbols = symbols ++ take count left} {numbers = numbers ++ take packets told} (transmitted_feeds t piece output answers f) g in
      rw (append_assoc bytes (pick (eqb number 0) piece []) b, append_assoc symbols (take count left) s, append_assoc numbers (take packets told) n) at r

  -- whatever the pieces
  pub every_history : {bytes symbols numbers : List ℕ} {last : SenderStream} → SenderFeedings (fresh_sender_stream rate) bytes symbols numbers last
      → Transmitted rate bytes symbols numbers last
  every_history g = transmitted_feedings transmitted_none g

  pub record Same (s s' n n' : List ℕ) (w w' : SenderStream) : Type 0 where
    pub symbols : s ≡ s'
    pub numbers : n ≡ n'
    pub state : w ≡ w'

  -- any two ways of cutting the same bytes
  pub any_pieces : {bytes s s' n n' : List ℕ} {w w' : SenderStream} → SenderFeedings (fresh_sender_stream rate) bytes s n w → SenderFeedings (fresh_sender_stream rate) bytes s' n' w'
      → Same s s' n n' w w'
  any_pieces a b =
      let t = every_history a in
      let u = every_history b in
      record { symbols = t.on_air_lem ∙ sym u.on_air_lem; numbers = t.answered ∙ sym u.answered; state = t.state ∙ sym u.state }

  -- ---- what is held

  module _ {bytes symbols numbers : List ℕ} {w : SenderStream} (t : Transmitted rate bytes symbols numbers w) where
    -- the last bytes, exactly, and so many
    pub held_bytes : bytes_held w ≡ rest_of 188 bytes
    held_bytes = ap bytes_held t.state ∙ held_are (sender_of mode_of rate (packets_for (chunks_of 188 bytes))) (rest_of 188 bytes)

    pub held_count_lem : w.held ≡ length bytes % 188
    held_count_lem = ap (λ (x : SenderStream). x.held) t.state ∙ length_rest 188 bytes

    -- no call refuses it with 5 or 6
    pub transmitted_ready : Ready mode_of w.sender
    transmitted_ready =
        let packets = packets_for (chunks_of 188 bytes) in
        subst (λ (x : SenderStream). Ready mode_of x.sender) (sym t.state) (ready_sent rate formed h packets (sizes bytes))

    -- After the whole packets, eleven inputs that are no packets. The bytes held are not sent.
    module _ {output answers : List ℕ} {number count packets : ℕ} {next : SenderStream} {left told : List ℕ}
        (f : FeedsAll (holding w.sender []) no_packets output answers number count packets next left told) where
      pub flushed : symbols ++ take count left ≡ on_air (mode_of rate) (packets_for (chunks_of 188 bytes) ++ replicate 11 null_packet)
      flushed =
          let before = packets_for (chunks_of 188 bytes) in
          let s = sender_of mode_of rate before in
          let no = packets_inputs no_packets in
          let same : w.sender ≡ s = ap (λ (x : SenderStream). x.sender) t.state in
          ap₂ (λ (x y : List ℕ). x ++ y) t.on_air_lem
          (ap (take count) f.written
          ∙ take_at (fed_symbols (holding w.sender []) no_packets) (drop count output) count (sym f.counted)
          ∙ ap (λ (x : Sender). flatten (calls_symbols mode_of x (packets_for (chunks_of 188 no_packets)))) same)
          ∙ (sent_further rate formed h before (sizes bytes) no (history s (chunks_of 188 no_packets) (ready_sent rate formed h before (sizes bytes)) no)).0
          ∙ ap (λ (l : List (List ℕ)). on_air (mode_of rate) (before ++ l)) null_packets

-- a constructor that did not refuse a mode: it is sent
pub new_sent : (rate : ℕ) → new_number rate ≡ 0 → (mode_of rate).sent ≡ true
new_sent rate e = by (mode_of rate).sent refl e
  where
    by : (t : Bool) → (mode_of rate).sent ≡ t → ◌≡◌ {A = ℕ} (pick t 0 6) 0 → (mode_of rate).sent ≡ true
    by true f e = f
    by false f e = absurd (omega arith)
