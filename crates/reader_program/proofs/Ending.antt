-- How a run ends: what is told, and the status.
-- Assumes nothing.
use mathlib.Core.Path.{◌≡◌, refl, ap, ◌∙◌}
use mathlib.Core.Bool.{Bool, true, false}
use mathlib.Core.List.{List, ◌++◌}
use Prim.Native.Nat.{ℕ, ◌≤◌}
use lib.ListN.{take}
use Rattle.common.specs.Choice.{pick}
use Rattle.reader_stream.specs.Stream.{FinishesReader}
use Rattle.reader_stream.specs.declared.Finished.{Finished}
use Rattle.reader_stream.proofs.Histories.{every_end}
use Rattle.program_io.specs.Checksum.{no_bytes, traced}
use Rattle.program_io.specs.Files.{input_over, input_ended, input_failed, output_trace, output_failed, Writes, Closes}
use Rattle.program_io.specs.declared.input.Input.{Input}
use Rattle.program_io.specs.declared.output.Output.{Output}
use Rattle.program_io.specs.declared.trace.Trace.{Trace}
use Rattle.program_io.proofs.Traces.{traced_on}
use Rattle.received_symbols.specs.Received.{cost_of, symbols_in}
use Rattle.reader_program.specs.Lines.{refusal_line, closing_lines, too_long_text}
use Rattle.reader_program.specs.Ends.{Untold, Going, Whole, SymbolRefused, Failed, errors_failed, refused, too_long}
use Rattle.received_symbols.specs.declared.SymbolPass.{SymbolPass}
use Rattle.program_io.specs.declared.calls.Ended.{Ended}

-- a text that was told
pub told : {errors o : Output} (text : List ℕ) → Untold errors → Writes errors text o → output_failed o ≡ false → output_trace o ≡ traced no_bytes text
told text n w u = w.whole u ∙ ap (λ (t : Trace). traced t text) n.trace

module _ {soft : Bool} {rate : ℕ} {r : Ended} {errors : Output} (n : Untold errors) where
  pub refusal_told : (place : ℕ) → SymbolRefused soft rate r.input r.output place → {text : List ℕ} → text ≡ refusal_line place → Writes errors text r.errors → Failed soft rate r
  refusal_told place f {text} e w = by (output_failed r.errors) refl
    where
      by : (b : Bool) → output_failed r.errors ≡ b → Failed soft rate r
      by true h = errors_failed h
      by false h = refused place f (told text n w h ∙ ap (traced no_bytes) e)

  pub stop_told : (p : SymbolPass) (came : ℕ) → Going soft rate r.input r.output p came → 9223372036854775808 ≤ came → Writes errors too_long_text r.errors → Failed soft rate r
  stop_told p came g l w = by (output_failed r.errors) refl
    where
      by : (b : Bool) → output_failed r.errors ≡ b → Failed soft rate r
      by true h = errors_failed h
      by false h = too_long p came g l (told too_long_text n w h)

ended : (i : Input) → input_failed i ≡ false → input_over i ≡ true → input_ended i ≡ true
ended i e h = ap (λ (t : Bool). pick t false (input_over i)) e ∙ h

-- the end of the input, with all that was left written, and told
pub whole_run : {soft : Bool} {rate : ℕ} {input : Input} {output errors : Output} {p : SymbolPass} {came : ℕ} → Going soft rate input output p came → Untold errors → input_over input ≡ true
    → input_failed input ≡ false → {lent exit : List ℕ} {f : Finished} → FinishesReader p.stream lent f exit → {w o e : Output} → Writes output (take f.count exit) w → Closes w o
    → output_failed o ≡ false → {text : List ℕ} → text ≡ closing_lines soft f.rest f.bits p.held → Writes errors text e → output_failed e ≡ false
    → {r : Ended} → r.input ≡ input → r.output ≡ o → r.errors ≡ e → Whole soft rate r
whole_run {soft} {rate} {input} {output} {errors} {p} g n over unfailed {lent} {exit} {f} finishes {w} {o} {e} written closed u {text} t tells v {r} ri ro re =
    let k = g.taken in
    record {
      bytes = g.bytes;
      read = rw ri g.read;
      ended = rw ri (ended input unfailed over);
      valid = k.valid;
      written = g.written ++ take f.count exit;
      rest = f.rest;
      left_bits = f.bits;
      symbols = every_end (cost_of soft) k.fed (symbols_in soft g.bytes) k.costed finishes;
      written_is = rw ro (closed.trace ∙ traced_on g.written (take f.count exit) g.written_is (written.whole (closed.started u)));
      written_whole = rw ro u;
      closed = rw ro (closed.closed u);
      told = rw re (told text n tells v ∙ ap (traced no_bytes) t ∙ ap (λ (j : ℕ). traced no_bytes (closing_lines soft f.rest f.bits j)) k.holds.count);
      told_whole = rw re v;
    }
