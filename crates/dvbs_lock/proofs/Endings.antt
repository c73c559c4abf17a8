-- How a run may end: its files, and what the status says.
-- Assumes nothing.
use Rattle.std.specs.Prelude.{Some}
use mathlib.Core.Path.{◌≡◌, ap, ◌∙◌}
use mathlib.Core.Bool.{Bool, true, false}
use mathlib.Core.List.{List, ◌++◌}
use Prim.Native.Nat.{ℕ}
use lib.IntN.{pos}
use Rattle.common.specs.Choice.{pick}
use Rattle.program_io.specs.Checksum.{no_bytes, traced}
use Rattle.program_io.specs.Files.{StandardFiles, input_origin, input_over, input_ended, input_failed, output_file, output_failed, StandardInput, FreshOutput, Writes, Closes}
use Rattle.program_io.specs.declared.input.Input.{Input}
use Rattle.program_io.specs.declared.output.Output.{Output}
use Rattle.program_io.specs.declared.calls.Ended.{Ended}
use Rattle.program_io.proofs.Traces.{traced_on}
use Rattle.lock_stream.specs.Progress.{closing_text}
use Rattle.lock_stream.specs.Source.{came_of}
use Rattle.lock_stream.specs.declared.LockStream.{LockStream}
use Rattle.dvbs_lock.specs.Ends.{AllRead, Ending, Stops, output_stopped, errors_stopped, Failed, output_failed_lem, errors_failed, Whole}

pub files_none : {input : Input} {output errors : Output} → StandardInput input → FreshOutput (pos 1) output → FreshOutput (pos 2) errors → StandardFiles input output errors
files_none i o e = record { input_file = i.file; input_argument = i.argument; input_start = i.start; output_file_lem = o.file; errors_file = e.file }

pub files_on : {input i : Input} {output errors o e : Output} → StandardFiles input output errors → input_origin i ≡ input_origin input → output_file o ≡ output_file output → output_file e ≡ output_file errors
    → StandardFiles i o e
files_on {input} {i} f a b c = record {
  input_file = ap (λ x. x.fd) a ∙ f.input_file;
  input_argument = ap (λ x. x.argument) a ∙ f.input_argument;
  input_start = ap (λ x. x.start) a ∙ f.input_start;
  output_file_lem = b ∙ f.output_file_lem;
  errors_file = c ∙ f.errors_file;
}

pub stopped : {bits : Bool} {rate : ℕ} {r : Ended} → Stops r.output r.errors → Failed bits rate r
stopped (output_stopped e) = output_failed_lem e
stopped (errors_stopped e) = errors_failed e

ended : (i : Input) → input_failed i ≡ false → input_over i ≡ true → input_ended i ≡ true
ended i e h = ap (λ (t : Bool). pick t false (input_over i)) e ∙ h

pub whole_run : {bits : Bool} {rate : ℕ} {input : Input} {output errors o e k v : Output} {s t : LockStream} {rest left : ℕ} {text : List ℕ} {found : Bool}
    → AllRead bits rate input output errors s rest → input_failed input ≡ false → Ending s (Some left) output errors o e t → Closes o k → output_failed k ≡ false
    → text ≡ closing_text t.source.bits t.progress (came_of t.source) left rest → Writes e text v → output_failed v ≡ false → found ≡ t.progress.found
    → (r : Ended) → r.input ≡ input → r.output ≡ k → r.errors ≡ v → Whole bits rate r found
whole_run {bits} {input = input} {s = s} {t = t} {rest} {left} {text} {found} a u d c f x w h n r ri ro re =
    let g = a.going in
    record {
      bytes = a.bytes;
      packets = g.packets;
      text = g.text;
      last_packets = d.packets;
      last_text = d.text;
      left = left;
      stream = s;
      last = t;
      read = rw ri a.read;
      ended = rw ri (ended input u a.over);
      steps = g.steps;
      ends = d.ends;
      found_is = n;
      written = rw ro (c.trace ∙ traced_on g.packets d.packets g.written d.written);
      closed = rw ro (c.closed f);
      unfailed = rw ro f;
      told =
          rw re (traced_on (g.text ++ d.text) text (traced_on g.text d.text g.told d.told) (w.whole h)
          ∙ ap (λ (l : List ℕ). traced no_bytes (g.text ++ d.text ++ l))
          (x ∙ ap (λ (m : ℕ). closing_text t.source.bits t.progress (came_of t.source) left m) a.rest_is));
      told_whole = rw re h;
    }
