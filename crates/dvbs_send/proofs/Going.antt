-- Sending piece after piece: what a turn of the loop leaves, and what the last one leaves.
-- Assumes nothing.
use mathlib.Core.Path.{◌≡◌, refl, sym, ap, ap₂, subst, ◌∙◌}
use mathlib.Core.Bool.{Bool, true, false, true≢false}
use mathlib.Core.List.{List, [], ◌++◌, append-nil}
use Prim.Native.Nat.{ℕ, ◌+◌, ◌/◌, ◌%◌, ◌≤◌}
use native.Mathlib.Omega.{arith}
use borrow.Author.Tests.{le-ltb}
use lib.IntN.{pos}
use lib.ListN.{length, take, replicate, length-append, length-map}
use lib.Seq.{length-take-le}
use Rattle.answer.specs.Number.{number_of}
use Rattle.answer.specs.declared.Refusal.{Refusal}
use Rattle.answer.specs.declared.Refusal.TheVariants.{PacketLength, SyncByte, BlockLength, OutputLength, StateRange, UnknownRate, CountsFull, Uncorrectable, PatternLength, RunLength, SymbolRange, NoSuchBlock, NotReport, WrongSums, FormKept, MarkValue, TooManyReports, StateLength, UnknownCount, SoftLists}
use Rattle.common.specs.Choice.{pick}
use Rattle.common.specs.Lists.{chunks_of}
use Rattle.common.proofs.Chunks.{length-chunks}
use Rattle.puncturing.specs.Mode.{mode_of}
use Rattle.inner_code.specs.Encode.{new_number}
use Rattle.sender.specs.Input.{sent_number}
use Rattle.sender.proofs.Ready.{Ready}
use Rattle.sender_stream.specs.Feed.{holding, fresh_sender_stream, sender_feed_number, OutputsFit, FeedsAll, FeedsSender, refused, fed}
use Rattle.sender_stream.specs.History.{Transmitted}
use Rattle.sender_stream.specs.declared.SenderStream.{SenderStream}
use Rattle.sender_stream.proofs.Laws.{most_fits}
use Rattle.sender_stream.proofs.History.{no_packets, transmitted_none, transmitted_all, transmitted_ready, held_count_lem, flushed, new_sent}
use Rattle.program_io.specs.Checksum.{no_bytes, traced}
use Rattle.program_io.specs.Files.{origin_file, input_trace, input_ended, input_failed, input_over, output_file, output_trace, output_failed, StandardInput, FreshOutput, Reads, Writes, Closes}
use Rattle.program_io.specs.declared.input.Input.{Input}
use Rattle.program_io.specs.declared.input.Filled.{Filled}
use Rattle.program_io.specs.declared.output.Output.{Output}
use Rattle.program_io.proofs.Traces.{traced_on}
use Rattle.dvbs_send.specs.Lines.{answer_lines, replaced_count, answers_of, told_of, counts_line, counts_of}
use Rattle.dvbs_send.specs.Ends.{symbols_of, Sent, SentSome, SendsPiece, SendsLast, SendsEnd, Going, too_long_text, Reason, input_failed_lem, output_failed_lem, errors_failed, too_long, Failed, whole, part, Ends}
use Rattle.dvbs_send.specs.declared.Sending.{Sending}
use Rattle.dvbs_send.proofs.Telling.{written_on, lines_append, count_append, count_most}

-- ---- a fresh run

pub sent_none : (mode : ℕ) → new_number mode ≡ 0 → {stream : SenderStream} {output errors : Output} → stream ≡ fresh_sender_stream mode
    → FreshOutput (pos 1) output → FreshOutput (pos 2) errors
    → Sent mode [] (record { stream = stream; output = output; errors = errors; came = 0; replaced = 0 })
sent_none mode n {stream} e o f =
    let h = new_sent mode n in
    let t = transmitted_none mode h in
    record {
      is_sent_lem = h;
      transmitted = record { on_air_lem = refl; answered = refl; state = e ∙ t.state };
      counted = refl;
      replaced_are = ap replaced_count t.answered;
      output_is = o.file;
      unfailed = o.failed;
      written = o.trace ∙ ap (traced no_bytes) t.on_air_lem;
      errors_is = f.file;
      told = λ u. f.trace ∙ ap (λ (l : List ℕ). traced no_bytes (answer_lines 0 l)) t.answered;
    }

-- ---- a piece

-- a refusal has a number other than 0
number_some : (refusal : Refusal) → number_of refusal ≡ 0 → ⊥
number_some PacketLength e = omega arith
number_some SyncByte e = omega arith
number_some BlockLength e = omega arith
number_some OutputLength e = omega arith
number_some StateRange e = omega arith
number_some UnknownRate e = omega arith
number_some CountsFull e = omega arith
number_some Uncorrectable e = omega arith
number_some PatternLength e = omega arith
number_some RunLength e = omega arith
number_some SymbolRange e = omega arith
number_some NoSuchBlock e = omega arith
number_some NotReport e = omega arith
number_some WrongSums e = omega arith
number_some FormKept e = omega arith
number_some MarkValue e = omega arith
number_some TooManyReports e = omega arith
number_some StateLength e = omega arith
number_some UnknownCount e = omega arith
number_some SoftLists e = omega arith

-- so what fits is not refused
pub fed_whole : (refusal : Refusal) {w : SenderStream} {piece output answers left told : List ℕ} {number count packets : ℕ} {next : SenderStream} → number ≡ number_of refusal
    → FeedsSender w piece output answers number count packets next left told → OutputsFit w piece output answers → ⊥
fed_whole refusal {w} {piece} {output} {answers} q (refused e z) g =
    let none : sender_feed_number w piece output answers ≡ 0 = simp (g.range, g.sent, le-ltb _ _ g.symbols, le-ltb _ _ g.answers_fit) in
    z (e ∙ none)
fed_whole refusal q (fed z a) g = number_some refusal (sym q ∙ a.done)

module _ (mode : ℕ) (bytes piece : List ℕ) {s : Sending} (t : Sent mode bytes s) where
  answers_length : length (answers_of bytes) ≡ length bytes / 188
  answers_length = length-map (chunks_of 188 bytes) sent_number ∙ length-chunks 188 bytes

  module _ (output answers : List ℕ) {number count packets : ℕ} {next : SenderStream} {left told : List ℕ}
      (f : FeedsAll s.stream piece output answers number count packets next left told) where
    all : Transmitted mode (bytes ++ piece) (symbols_of mode false bytes ++ take count left) (answers_of bytes ++ take packets told) next
    all = transmitted_all mode t.is_sent_lem t.transmitted piece output answers f

    pub sent_more : {o e : Output} {c : ℕ} → Writes s.output (take count left) o → output_failed o ≡ false
        → Writes s.errors (answer_lines (s.came / 188) (take packets told)) e → c ≡ replaced_count (take packets told)
        → Sent mode (bytes ++ piece) (record { stream = next; output = o; errors = e; came = s.came + length piece; replaced = s.replaced + c })
    sent_more {o} {e} {c} w u v k =
        let first : s.came / 188 ≡ 0 + length (answers_of bytes) = ap (λ (n : ℕ). n / 188) t.counted ∙ sym answers_length ∙ omega arith in
        record {
          is_sent_lem = t.is_sent_lem;
          transmitted = record { on_air_lem = refl; answered = refl; state = all.state };
          counted = ap (λ (n : ℕ). n + length piece) t.counted ∙ sym (length-append bytes piece);
          replaced_are = ap₂ (λ (x y : ℕ). x + y) t.replaced_are k ∙ sym (count_append (answers_of bytes) (take packets told)) ∙ ap replaced_count all.answered;
          output_is = w.file ∙ t.output_is;
          unfailed = u;
          written = written_on (symbols_of mode false bytes) (take count left) t.written w u ∙ ap (traced no_bytes) all.on_air_lem;
          errors_is = v.file ∙ t.errors_is;
          told = λ z.
              written_on (told_of bytes) (answer_lines (s.came / 188) (take packets told)) (t.told (v.started z)) v z
              ∙ ap (traced no_bytes)
              (ap (λ (n : ℕ). told_of bytes ++ answer_lines n (take packets told)) first
              ∙ sym (lines_append 0 (answers_of bytes) (take packets told)) ∙ ap (answer_lines 0) all.answered);
        }

-- no more packets were replaced than bytes came
pub sent_few : {mode : ℕ} {s : Sending} → SentSome mode s → s.replaced ≤ s.came
sent_few {mode} {s} t =
    let bytes = t.bytes in
    omega (arith, t.is.replaced_are, t.is.counted, count_most (answers_of bytes), answers_length mode bytes [] t.is)

-- ---- feeding

-- what was fed is within the room lent
pub within_room : {w : SenderStream} {piece output answers : List ℕ} {number count packets : ℕ} {next : SenderStream} {left told : List ℕ}
    → FeedsAll w piece output answers number count packets next left told → OutputsFit w piece output answers → length left ≡ length output → length told ≡ length answers
    → (count ≤ length left) × (packets ≤ length told)
within_room f g a b = (omega (arith, f.counted, g.symbols), omega (arith, f.whole, g.answers_fit))

module _ {mode : ℕ} {s : Sending} (t : SentSome mode s) where
  ready : Ready mode_of s.stream.sender
  ready = transmitted_ready mode t.is.is_sent_lem t.is.transmitted

  -- a piece of 64 packets' length
  pub piece_fits : (piece output answers : List ℕ) → length piece ≤ 12032 → length output ≡ 104448 → length answers ≡ 64 → OutputsFit s.stream piece output answers
  piece_fits piece output answers p o a =
      let h = held_count_lem mode t.is.is_sent_lem t.is.transmitted in
      most_fits s.stream piece output answers ready (omega arith) (omega arith) (omega arith)

  pub nulls_fit : OutputsFit (holding s.stream.sender []) no_packets (replicate 17952 0) (replicate 11 0)
  nulls_fit = most_fits (holding s.stream.sender []) no_packets (replicate 17952 0) (replicate 11 0) ready (omega arith) (omega arith) (omega arith)

-- ---- the end of the output

pub last_none : (mode : ℕ) (s : Sending) → SendsLast mode false s s.output
last_none mode s = record { file = refl; written = λ u bytes t. t.written }

pub last_flushed : (mode : ℕ) (s : Sending) {output answers : List ℕ} {number count packets : ℕ} {next : SenderStream} {left told : List ℕ} {r : Output}
    → FeedsAll (holding s.stream.sender []) no_packets output answers number count packets next left told → Writes s.output (take count left) r
    → SendsLast mode true s r
last_flushed mode s {count = count} {left = left} f w = record {
  file = w.file;
  written = λ u bytes t.
      written_on (symbols_of mode false bytes) (take count left) t.written w u ∙ ap (traced no_bytes) (flushed mode t.is_sent_lem t.transmitted f);
}

pub end_closed : {mode : ℕ} {flush b : Bool} {s : Sending} {o r : Output} → flush ≡ b → SendsLast mode b s o → Closes o r → SendsEnd mode flush s r
end_closed {mode} {s = s} {r = r} e l c =
    subst (λ (x : Bool). SendsEnd mode x s r) (sym e)
    (record {
      last = record { file = c.file ∙ l.file; written = λ u bytes t. c.trace ∙ l.written (c.started u) bytes t };
      closed = c.closed;
    })

-- ---- the loop

-- an input that is over, and did not fail, has ended
ended_so : (i : Input) → input_over i ≡ true → input_failed i ≡ false → input_ended i ≡ true
ended_so i o f = ap (λ (t : Bool). pick t false (input_over i)) f ∙ o

pub going_none : {mode : ℕ} {input : Input} {s : Sending} → StandardInput input → Sent mode [] s → Going mode input s
going_none i t = record { input_is = i.file; bytes = []; read = i.trace; sent = t }

module _ {mode : ℕ} {input : Input} {s : Sending} (g : Going mode input s) where
  pub some_sent : SentSome mode s
  some_sent = record { bytes = g.bytes; is = g.sent }

  -- what was told before the line with the counts
  told_so_far : output_failed s.errors ≡ false → output_trace s.errors ≡ traced no_bytes (told_of g.bytes ++ [])
  told_so_far u = g.sent.told u ∙ ap (traced no_bytes) (sym (append-nil (told_of g.bytes)))

  module _ {most : ℕ} {buffer : List ℕ} {f : Filled} (h : Reads input most buffer f) where
    read_on : input_trace f.input ≡ traced no_bytes (g.bytes ++ take f.length buffer)
    read_on = traced_on g.bytes (take f.length buffer) g.read h.trace

    -- no byte came
    pub going_over : f.length ≡ 0 → Going mode f.input s
    going_over z = record {
      input_is = ap origin_file h.origin ∙ g.input_is;
      bytes = g.bytes;
      read = h.trace ∙ ap (λ (n : ℕ). traced (input_trace input) (take n buffer)) z ∙ g.read;
      sent = g.sent;
    }

    module _ {r : Sending} (p : SendsPiece mode s (take f.length buffer) r) where
      pub going_more : output_failed r.output ≡ false → Going mode f.input r
      going_more u = record {
        input_is = ap origin_file h.origin ∙ g.input_is;
        bytes = g.bytes ++ take f.length buffer;
        read = read_on;
        sent = p.whole u g.bytes g.sent;
      }

      -- as many bytes more came as were read
      pub came_more : output_failed r.output ≡ false → f.length ≤ length buffer → r.came ≡ s.came + f.length
      came_more u l =
          (p.whole u g.bytes g.sent).counted ∙ length-append g.bytes (take f.length buffer)
          ∙ ap₂ (λ (m n : ℕ). m + n) (sym g.sent.counted) (length-take-le f.length buffer l)

      -- the output failed
      pub ends_piece : (flush : Bool) → output_failed r.output ≡ true
          → Ends mode flush (record { status = pos 1; input = f.input; output = r.output; errors = r.errors })
      ends_piece flush e = record {
        input_is = ap origin_file h.origin ∙ g.input_is;
        output_is = p.file ∙ g.sent.output_is;
        errors_is = ap output_file (p.part e) ∙ g.sent.errors_is;
        status =
            part refl
            (record {
              bytes = g.bytes;
              piece = take f.length buffer;
              message = [];
              read = read_on;
              written = λ u. absurd (true≢false (sym e ∙ u));
              told = λ u. ap output_trace (p.part e) ∙ told_so_far (sym (ap output_failed (p.part e)) ∙ u);
              reason = output_failed_lem e;
            });
      }

  -- ---- the end

  abbrev Symbols : Output → Type 0
  Symbols o = output_failed o ≡ false → (flushed : Bool) × (output_trace o ≡ traced no_bytes (symbols_of mode flushed g.bytes))

  failed_so : {o : Output} (e : Output) (message : List ℕ) → Symbols o
      → (output_failed e ≡ false → output_trace e ≡ traced no_bytes (told_of g.bytes ++ message))
      → Reason g.bytes (record { status = pos 1; input = input; output = o; errors = e }) message
      → Failed mode (record { status = pos 1; input = input; output = o; errors = e })
  failed_so e message v t w = record {
    bytes = g.bytes;
    piece = [];
    message = message;
    read = g.read ∙ ap (traced no_bytes) (sym (append-nil g.bytes));
    written = v;
    told = t;
    reason = w;
  }

  -- nothing was flushed yet
  symbols_so_far : Symbols s.output
  symbols_so_far u = (false, g.sent.written)

  module _ (flush : Bool) where
    pub ends_input : input_failed input ≡ true → Ends mode flush (record { status = pos 1; input = input; output = s.output; errors = s.errors })
    ends_input e = record {
      input_is = g.input_is;
      output_is = g.sent.output_is;
      errors_is = g.sent.errors_is;
      status = part refl (failed_so s.errors [] symbols_so_far told_so_far (input_failed_lem e));
    }

    pub ends_long : {e : Output} → 9223372036854775808 ≤ s.came → Writes s.errors too_long_text e
        → Ends mode flush (record { status = pos 1; input = input; output = s.output; errors = e })
    ends_long {e} l w = record {
      input_is = g.input_is;
      output_is = g.sent.output_is;
      errors_is = w.file ∙ g.sent.errors_is;
      status =
          part refl
          (failed_so e too_long_text symbols_so_far (λ u. written_on (told_of g.bytes) too_long_text (g.sent.told (w.started u)) w u) (too_long (omega (arith, g.sent.counted))));
    }

    module _ {o : Output} (l : SendsEnd mode flush s o) where
      pub ends_output : output_failed o ≡ true → Ends mode flush (record { status = pos 1; input = input; output = o; errors = s.errors })
      ends_output e = record {
        input_is = g.input_is;
        output_is = l.last.file ∙ g.sent.output_is;
        errors_is = g.sent.errors_is;
        status = part refl (failed_so s.errors [] (λ u. absurd (true≢false (sym e ∙ u))) told_so_far (output_failed_lem e));
      }

      module _ {e : Output} (w : Writes s.errors (counts_line (s.came / 188) s.replaced (s.came % 188)) e) where
        pub ends_errors : output_failed e ≡ true → Ends mode flush (record { status = pos 1; input = input; output = o; errors = e })
        ends_errors z = record {
          input_is = g.input_is;
          output_is = l.last.file ∙ g.sent.output_is;
          errors_is = w.file ∙ g.sent.errors_is;
          status = part refl (failed_so e [] (λ u. (flush, l.last.written u g.bytes g.sent)) (λ u. absurd (true≢false (sym z ∙ u))) (errors_failed z));
        }

        pub ends_whole : input_over input ≡ true → input_failed input ≡ false → output_failed o ≡ false → output_failed e ≡ false
            → Ends mode flush (record { status = pos 0; input = input; output = o; errors = e })
        ends_whole v x y z = record {
          input_is = g.input_is;
          output_is = l.last.file ∙ g.sent.output_is;
          errors_is = w.file ∙ g.sent.errors_is;
          status =
              whole refl
              (record {
                bytes = g.bytes;
                read = g.read;
                ended = ended_so input v x;
                written = l.last.written y g.bytes g.sent;
                written_whole = y;
                closed = l.closed y;
                told =
                    written_on (told_of g.bytes) (counts_line (s.came / 188) s.replaced (s.came % 188)) (g.sent.told (w.started z)) w z
                    ∙ ap (λ (x : List ℕ). traced no_bytes (told_of g.bytes ++ x)) counts;
                told_whole = z;
              });
        }
          where
            counts : counts_line (s.came / 188) s.replaced (s.came % 188) ≡ counts_of g.bytes
            counts =
                ap (λ (n : ℕ). counts_line (n / 188) s.replaced (n % 188)) g.sent.counted
                ∙ ap₂ (λ (n r : ℕ). counts_line n r (length g.bytes % 188)) (sym (length-chunks 188 g.bytes)) g.sent.replaced_are
